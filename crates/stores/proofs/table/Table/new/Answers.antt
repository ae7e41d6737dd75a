use Rattle.std.proofs.Common.{◌≡◌, min, length, replicate, ap, ◌∙◌}
use Rattle.stores.specs.Places.{filled, free_place}
use Rattle.stores.proofs.Rows.{filled_none, emptied_part}
use Rattle.stores.proofs.table.Table.new.Goals as goal

pub returns-clause-empty : goal.returns-clause-empty
returns-clause-empty c =
    let size = c.args.size.count in
    let xs = c.args.places.now in
    let ys = c.clear.new.places in
    let is : ys ≡ replicate (min size (length xs)) free_place = emptied_part xs ys size c.count.result c.min-n.result c.count.ensures c.min-n.ensures c.clear.ensures in
    ap filled is ∙ filled_none (min size (length xs))
