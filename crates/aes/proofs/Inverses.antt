-- Every octet but 0 has an inverse, computed. Assumes nothing.
use Rattle.std.proofs.Common.{◌-◌, sym, ◌∙◌, arith}
use Rattle.std.proofs.lemmas.List.FromFn.{get_or-map-range_with_len}
use Rattle.std.proofs.lemmas.List.{get_or-replicate}
use Rattle.aes.specs.Field.{xtime, product_by, product, power, inverse}
use Rattle.aes.specs.FieldLaws.{Inverses}

pub inverses : Inverses
unfolding xtime product_by product power inverse
inverses a some small =
    sym (get_or-map-range_with_len (λ b. product b (inverse b)) 1 255 (a - 1) a 0 (omega arith) (omega arith)) ∙ get_or-replicate 255 (a - 1) 1 0 (omega arith)
