use Rattle.store.proofs.Keeping.{rules_are_kept}
use Rattle.store.proofs.laws.stores_keep_the_rules.Goals as goal

pub returns : goal.returns
returns c = rules_are_kept
