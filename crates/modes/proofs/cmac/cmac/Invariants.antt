use Rattle.std.proofs.Common.{◌≡◌, ◌++◌}
use Rattle.aes.specs.Words.{block_octets}
use Rattle.modes.specs.Cmac.{chained}
use Rattle.modes.proofs.cmac.cmac.Given as goal

abbrev pub invariant-loop-i : goal.invariant-loop-i
invariant-loop-i g l = block_octets l.state ≡ chained (g.C.BlockCipher.ciph l.cipher) (l.head ++ l.message) l.i
