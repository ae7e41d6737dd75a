use Rattle.std.proofs.Common.{rules}
use Rattle.aes.proofs.Rounds.{mixed_is}
use Rattle.aes.proofs.mixed_column.Goals as goal

pub returns : goal.returns
returns c =
    mixed_is c.args.column _ _ _ _ (search rules) c.row_addends.ensures c.row_addends-2.ensures c.row_addends-3.ensures c.row_addends-4.ensures
