use Rattle.std.proofs.Common.{rules}
use Rattle.aes.specs.Field.{sbox, affine, affine_bit, inverse, power, product, product_by, xtime}
use Rattle.aes.proofs.Addends.{addend_table, addend_entry}
use Rattle.aes.proofs.tables.row_addends.Goals as goal

pub returns : goal.returns
unfolding addend_table sbox affine affine_bit inverse power product product_by xtime
returns c = addend_entry c.args.k c.args.x c.requires (search rules)
