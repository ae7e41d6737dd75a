use Rattle.std.proofs.Common.{◌≡◌, length}
use Rattle.endpoint.proofs.end.Endpoint.new.Given as goal

abbrev pub invariant-loop-id : goal.invariant-loop-id
invariant-loop-id g l = g.S.SessionStore.capacity l.emptied ≡ g.S.SessionStore.capacity l.initial.emptied

abbrev pub decreases-loop-id : goal.decreases-loop-id
decreases-loop-id g l = length (g.S.SessionStore.pairs l.emptied)
