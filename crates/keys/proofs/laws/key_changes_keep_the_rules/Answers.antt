use Rattle.keys.proofs.Keeping.{rules_are_kept}
use Rattle.keys.proofs.laws.key_changes_keep_the_rules.Goals as goal

pub returns : goal.returns
returns c = rules_are_kept
