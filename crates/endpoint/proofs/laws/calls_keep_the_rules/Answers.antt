use Rattle.endpoint.proofs.Keeping.{rules_are_kept}
use Rattle.endpoint.proofs.laws.calls_keep_the_rules.Goals as goal

pub returns : goal.returns
returns c = rules_are_kept
