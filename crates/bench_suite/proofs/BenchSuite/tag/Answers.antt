use Rattle.std.proofs.Common.{get_or, ap, arith, length-set, take_all}
use Rattle.std.proofs.lemmas.List.FromFn.{fill_by_all}
use Rattle.bench_suite.specs.Sums.{tag_octet, column, bench_size}
use Rattle.bench_suite.proofs.Columns.{added}
use Rattle.bench_suite.proofs.BenchSuite.tag.Goals as goal

pub loop-i-preserved : goal.loop-i-preserved
loop-i-preserved c = (
  simp length-set c.loop-i.invariant.0,
  added c.loop-i.tag (λ j. get_or c.tag_without_octets-tag.result j 0) c.args.message.now c.loop-i.i c.loop-i-test.true
      c.loop-i.invariant.0 c.loop-i.invariant.1,
)

pub returns : goal.returns
returns c =
    let all = take_all _ _ c.loop-i-test.false in
    fill_by_all (tag_octet c.args.keys c.args.inputs c.args.message.now) c.loop-i.tag bench_size 0 c.loop-i.invariant.0
    (λ j h. let e = c.loop-i.invariant.1 j h in let s = c.tag_without_octets-tag.ensures j h in let t = ap (column j 0) all in omega arith)
