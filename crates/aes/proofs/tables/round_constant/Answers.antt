use Rattle.std.proofs.Common.{arith}
use Rattle.std.proofs.lemmas.List.FromFn.{get_or-map-range_with_len}
use Rattle.aes.specs.Field.{xtime}
use Rattle.aes.specs.Cipher.{rcon}
use Rattle.aes.proofs.tables.round_constant.Goals as goal

pub returns : goal.returns
unfolding rcon xtime
returns c = get_or-map-range_with_len rcon 0 10 c.args.r c.args.r 0 c.requires (omega arith)
