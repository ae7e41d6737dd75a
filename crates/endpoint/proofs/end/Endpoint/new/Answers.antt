use Rattle.std.proofs.Common.{sym, ◌∙◌}
use Rattle.endpoint.proofs.Emptying.{first_taken, no_first}
use Rattle.endpoint.proofs.end.Endpoint.new.Goals as goal

pub loop-id-smaller : goal.loop-id-smaller
loop-id-smaller g c = first_taken (g.S.SessionStore.pairs c.loop-id.emptied) (g.S.SessionStore.pairs c.take.new.self) c.in-Some.id (sym c.name.ensures ∙ c.in-Some.is) c.take.ensures.after

pub returns-clause-empty : goal.returns-clause-empty
returns-clause-empty g c = no_first (g.S.SessionStore.pairs c.loop-id.emptied) (sym c.name.ensures ∙ c.in_default.is)
