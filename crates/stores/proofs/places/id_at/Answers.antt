use Rattle.std.proofs.Common.{rules}
use borrow.Author.Tests.{tests}
use Rattle.std.proofs.lemmas.Iterator.{YieldsList-from_slice}
use Rattle.std.proofs.lemmas.Iterator.Consumers.{nth_from_yields_List, YieldsList-from_filter}
use Rattle.stores.specs.Places.{in_use}
use Rattle.stores.proofs.places.id_at.Goals as goal

pub returns : goal.returns
returns c =
    let one = nth_from_yields_List c.nth.result _ _ c.nth.ensures.ran (YieldsList-from_filter _ in_use (YieldsList-from_slice c.args.places.now cc) c.filter.ensures.closure (λ x b q k. search (rules, tests))) in
    search rules
