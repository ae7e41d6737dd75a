use Rattle.std.proofs.Common.{◌≡◌, ◌*◌, ◌++◌, take, drop}
use Rattle.suite.specs.Ciphers.{enciphered}
use Rattle.modes.specs.Counter.{counter_stream}
use Rattle.modes.proofs.counter.encipher.Given as goal

abbrev pub invariant-loop-i : goal.invariant-loop-i
invariant-loop-i g l =
    l.part ≡ enciphered (counter_stream (g.C.BlockCipher.ciph l.cipher) l.start) 0 (take (16 * l.i) l.initial.part) ++ drop (16 * l.i) l.initial.part
