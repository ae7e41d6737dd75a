use Rattle.aes.proofs.Expansion.{Begun}
use Rattle.aes.specs.Words.{key_octets}
use Rattle.aes.proofs.Schedule.new.Given as goal

abbrev pub invariant-loop-r : goal.invariant-loop-r
invariant-loop-r l = Begun (key_octets l.first l.second) l.r l.keys
