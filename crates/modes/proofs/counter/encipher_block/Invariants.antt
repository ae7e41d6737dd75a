use Rattle.std.proofs.Common.{◌≡◌, ◌*◌, ◌++◌, take, drop}
use Rattle.suite.specs.Ciphers.{enciphered}
use Rattle.modes.specs.Counter.{counter_stream}
use Rattle.modes.proofs.counter.encipher_block.Given as goal

abbrev pub invariant-loop-place : goal.invariant-loop-place
invariant-loop-place g l =
    l.block ≡ enciphered (counter_stream (g.C.BlockCipher.ciph l.cipher) l.start) (16 * l.i) (take l.place l.initial.block) ++ drop l.place l.initial.block
