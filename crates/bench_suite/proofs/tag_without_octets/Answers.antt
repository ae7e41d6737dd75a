use Rattle.std.proofs.Common.{arith, rules}
use Rattle.bench_suite.specs.Sums.{key_octet, summed}
use Rattle.bench_suite.proofs.Made.{made_each}
use Rattle.bench_suite.proofs.tag_without_octets.Goals as goal

pub returns : goal.returns
returns c = λ j h.
    made_each _ _ (λ k. summed (key_octet c.args.keys.integrity0 c.args.keys.integrity1 k) c.args.inputs c.args.len) (λ i y q k. search rules)
    c.from_fn.result 0 16 c.from_fn.ensures.items.each j (omega arith) (omega arith)
