use Rattle.std.proofs.Common.{inr, arith, rules}
use Rattle.octets.proofs.Numbers.{fewest_from}
use Rattle.octets.proofs.width.Goals as goal

pub returns-else-c-le16777215 : goal.returns-else-c-le16777215
returns-else-c-le16777215 c = record {
  value = search rules;
  fewest = fewest_from c.args.c 3 (search rules) (inr (omega arith));
  bound = search rules;
}
