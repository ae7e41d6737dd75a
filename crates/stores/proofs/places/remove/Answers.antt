use Rattle.std.proofs.Common.{ℕ, set, Err, sym, ap, ◌∙◌}
use Rattle.std.proofs.lemmas.Result.{err_from_is_err_and}
use Rattle.store.proofs.Finding.{take_absent}
use Rattle.stores.specs.Places.{filled, holds_id, free_place}
use Rattle.stores.proofs.Rows.{found_first, none_first, place_absent, place_wiped, need_there, need_absent}
use Rattle.stores.proofs.places.remove.Goals as goal

pub returns-in_err-i-clause-value : goal.returns-in_err-i-clause-value
returns-in_err-i-clause-value c =
    let xs = c.args.places.now in
    let none = none_first (holds_id c.args.id) xs (sym c.in_err-i.ensures.0) in
    let p = err_from_is_err_and c.from_residual.result c.from_residual.ensures.1 in
    rw (p.1, p.2) (ap Err c.in_err-i.ensures.1 ∙ sym (need_absent c.args.id xs none))

pub returns-in_err-i-clause-after : goal.returns-in_err-i-clause-after
returns-in_err-i-clause-after c =
    let xs = c.args.places.now in
    let none = none_first (holds_id c.args.id) xs (sym c.in_err-i.ensures.0) in
    sym (take_absent c.args.id (filled xs) (place_absent c.args.id xs none))

pub returns-clause-value : goal.returns-clause-value
returns-clause-value c =
    let xs = c.args.places.now in
    let f = found_first (holds_id c.args.id) xs c.in_ok-i.i (sym c.in_ok-i.ensures) in
    sym (need_there c.args.id xs f.0)

pub returns-clause-after : goal.returns-clause-after
returns-clause-after c =
    let xs = c.args.places.now in
    let f = found_first (holds_id c.args.id) xs c.in_ok-i.i (sym c.in_ok-i.ensures) in
    ap (λ (i : ℕ). filled (set xs i free_place)) f.1 ∙ place_wiped c.args.id xs f.0
