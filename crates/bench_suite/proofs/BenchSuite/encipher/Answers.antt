use Rattle.std.proofs.Common.{◌≡◌, ◌+◌, arith}
use Rattle.suite.proofs.Ciphering.{enciphered_more}
use Rattle.bench_suite.specs.Sums.{bench_keystream}
use Rattle.bench_suite.proofs.BenchSuite.encipher.Goals as goal

pub loop-i-preserved : goal.loop-i-preserved
loop-i-preserved c =
    let f = bench_keystream c.args.keys c.args.inputs in
    let z : 0 + c.loop-i.i ≡ c.loop-i.i = omega arith in
    let more = enciphered_more f 0 c.args.part.now c.loop-i.part c.loop-i.i c.loop-i-test.true c.loop-i.invariant in
    cc
