use Rattle.std.proofs.Common.{cond, sym, ◌∙◌, rules, arith}
use Rattle.std.proofs.lemmas.Iterator.{YieldsList-from_slice, YieldsList-from_map}
use Rattle.std.proofs.lemmas.Iterator.Consumers.{sum_by_from_yields_List, fits_by_from_yields_list}
use Rattle.stores.specs.declared.place.Place.{Place}
use Rattle.stores.specs.Places.{filled_most}
use Rattle.stores.proofs.Rows.{used_are}
use Rattle.stores.proofs.places.used_count.Goals as goal

pub sum-requires-clause-fits : goal.sum-requires-clause-fits
sum-requires-clause-fits c =
    fits_by_from_yields_list (λ (p : Place). cond p.used 1 0) c.args.places.now c.map.result _
    (YieldsList-from_map _ (λ (p : Place). cond p.used 1 0) (YieldsList-from_slice c.args.places.now cc) c.map.ensures.closure (λ x r q k. search rules))
    (omega (arith, used_are c.args.places.now, filled_most c.args.places.now))

pub returns : goal.returns
returns c =
    sum_by_from_yields_List (λ (p : Place). cond p.used 1 0) c.args.places.now c.map.result _ c.sum.ensures.ran
    (YieldsList-from_map _ (λ (p : Place). cond p.used 1 0) (YieldsList-from_slice c.args.places.now cc) c.map.ensures.closure (λ x r q k. search rules))
    ∙ sym (used_are c.args.places.now)
