use Rattle.std.proofs.Common.{◌≡◌, ◌++◌, take, drop}
use Rattle.suite.specs.Ciphers.{enciphered}
use Rattle.bench_suite.specs.Sums.{bench_keystream}
use Rattle.bench_suite.proofs.BenchSuite.encipher.Given as goal

abbrev pub invariant-loop-i : goal.invariant-loop-i
invariant-loop-i l = l.part ≡ enciphered (bench_keystream l.keys l.inputs) 0 (take l.i l.initial.part) ++ drop l.i l.initial.part
