use Rattle.std.proofs.Common.{get_or, ap, ◌∙◌, arith, take_all, rules}
use Rattle.std.specs.Int.Digits.{number_from_digits}
use Rattle.std.proofs.lemmas.Int.Digits.{number_more}
use Rattle.octets.specs.Octets.{widest}
use Rattle.octets.proofs.Numbers.{room}
use Rattle.octets.proofs.read_number.Goals as goal

pub overflow_mul-c : goal.overflow_mul-c
overflow_mul-c c = let r = room widest c.loop-x.x-index c.loop-x.c 0 (omega arith) c.loop-x.invariant.1 (omega arith) in record { fits = omega arith }

pub loop-x-preserved : goal.loop-x-preserved
loop-x-preserved c =
    let more = number_more 256 c.args.from.now c.loop-x.x-index c.loop-x-test.true in
    let r = room widest c.loop-x.x-index c.loop-x.c (get_or c.args.from.now c.loop-x.x-index 0) (omega arith) c.loop-x.invariant.1 (search rules) in
    (cc, r.1)
