use Rattle.std.proofs.Common.{vec_items, length, min, ap, ◌∙◌}
use Rattle.std.specs.Slice.Iter.{chunks_rest}
use Rattle.script.specs.Digits.{octets_read}
use Rattle.script.proofs.Numerals.{pair_more}
use Rattle.script.proofs.digits.read_octets.Goals as goal

pub loop-pair-preserved : goal.loop-pair-preserved
loop-pair-preserved c =
    let step = c.in-Some.ensures.steps in
    let left = chunks_rest c.loop-pair.pair-iterator in record {
      two = step.0 ∙ c.loop-pair.invariant.two;
      so_far = pair_more left c.in-Some.pair.now (chunks_rest c.next.new.self) (vec_items c.loop-pair.octets) (vec_items c.push.new.self) c.in-Some-read_octet.octet
          (octets_read c.args.text.now) step.1.0 (step.1.1 ∙ ap (λ n. min n (length left)) c.loop-pair.invariant.two) step.1.2 c.in-Some-read_octet.ensures c.in_ok-push.ensures.items c.loop-pair.invariant.so_far;
    }
