use Rattle.store.proofs.Finding.{found_after}
use Rattle.store.proofs.laws.changes_are_found.Goals as goal

pub returns : goal.returns
returns c = found_after
