use Rattle.session.proofs.Keeping.{rules_are_kept}
use Rattle.session.proofs.laws.changes_keep_the_rules.Goals as goal

pub returns : goal.returns
returns c = rules_are_kept
