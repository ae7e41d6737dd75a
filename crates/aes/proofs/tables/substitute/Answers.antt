use Rattle.std.proofs.Common.{arith, rules}
use Rattle.std.proofs.lemmas.List.FromFn.{get_or-map-range_with_len}
use Rattle.aes.specs.Field.{sbox, affine, affine_bit, inverse, power, product, product_by, xtime}
use Rattle.aes.proofs.tables.substitute.Goals as goal

pub returns : goal.returns
unfolding sbox affine affine_bit inverse power product product_by xtime
returns c = get_or-map-range_with_len sbox 0 256 c.args.x c.args.x 0 (search rules) (omega arith)
