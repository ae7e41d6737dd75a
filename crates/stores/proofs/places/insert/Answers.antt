use Rattle.std.proofs.Common.{ℕ, is_some, set, Err, sym, ap, ◌∙◌}
use Rattle.std.proofs.lemmas.Result.{err_from_is_err_and}
use Rattle.stores.specs.Places.{filled, holds_id, is_free, place_of}
use Rattle.stores.proofs.Rows.{first_of, found_first, none_first, some_first, no_first, free_low, free_put, add_present, add_full, add_done}
use Rattle.stores.proofs.places.insert.Goals as goal

pub returns-then-is_some-clause-value : goal.returns-then-is_some-clause-value
returns-then-is_some-clause-value c =
    let xs = c.args.places.now in
    let there = some_first (holds_id c.args.id) xs (ap is_some (sym c.place_of.ensures) ∙ sym c.is_some.ensures ∙ c.if-is_some.true) in
    ap Err c.new.ensures ∙ sym (add_present c.args.id xs there)

pub returns-in_err-i-clause-value : goal.returns-in_err-i-clause-value
returns-in_err-i-clause-value c =
    let xs = c.args.places.now in
    let none = no_first (holds_id c.args.id) xs (ap is_some (sym c.place_of.ensures) ∙ sym c.is_some.ensures ∙ c.if-is_some.false) in
    let full = none_first is_free xs (sym c.in_err-i.ensures.0) in
    let p = err_from_is_err_and c.from_residual.result c.from_residual.ensures.1 in
    rw (p.1, p.2) (ap Err c.in_err-i.ensures.1 ∙ sym (add_full c.args.id xs none full))

pub returns-clause-value : goal.returns-clause-value
returns-clause-value c =
    let xs = c.args.places.now in
    let none = no_first (holds_id c.args.id) xs (ap is_some (sym c.place_of.ensures) ∙ sym c.is_some.ensures ∙ c.if-is_some.false) in
    let free = found_first is_free xs c.in_ok-i.i (sym c.in_ok-i.ensures) in
    sym (add_done c.args.id xs none free.0)

pub returns-clause-after : goal.returns-clause-after
returns-clause-after c =
    let xs = c.args.places.now in
    let free = found_first is_free xs c.in_ok-i.i (sym c.in_ok-i.ensures) in
    (first_of is_free xs, free_low xs, ap (λ (i : ℕ). filled (set xs i (place_of c.args.id c.args.session))) free.1 ∙ free_put c.args.id c.args.session xs free.0)
