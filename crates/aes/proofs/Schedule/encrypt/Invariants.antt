use Rattle.std.proofs.Common.{◌≡◌}
use Rattle.aes.specs.Cipher.{rounds}
use Rattle.aes.specs.Words.{block_octets, words_of}
use Rattle.aes.proofs.Schedule.encrypt.Given as goal

abbrev pub invariant-loop-key : goal.invariant-loop-key
invariant-loop-key l = block_octets l.state ≡ rounds (words_of l.self) (block_octets l.initial.state) l.key-index
