use Rattle.std.proofs.Common.{◌≡◌, ◌<◌, ◌≤◌, List, [], ◌∷◌, ◌++◌, length, replicate, sym, ap, ◌∙◌, arith}
use Rattle.std.proofs.lemmas.List.{take_more_set, take_all, length-set}
use Rattle.stores.specs.declared.place.Place.{Place}
use Rattle.stores.specs.Places.{free_place}
use Rattle.stores.proofs.Steps.{free_more}
use Rattle.stores.proofs.places.clear.Goals as goal

pub loop-place-preserved : goal.loop-place-preserved
loop-place-preserved c =
    let xs = c.loop-place.places in
    let i = c.loop-place.place-index in
    let h : i < length xs = omega arith in
    (simp length-set (omega arith), take_more_set xs i free_place h ∙ ap (λ (l : List Place). l ++ (free_place ∷ [])) c.loop-place.invariant.1 ∙ free_more i)

pub returns : goal.returns
returns c =
    let xs = c.loop-place.places in
    let i = c.loop-place.place-index in
    let past : length xs ≤ i = omega arith in
    let all : i ≡ length c.args.places.now = omega arith in
    sym (take_all i xs past) ∙ c.loop-place.invariant.1 ∙ ap (λ n. replicate n free_place) all
