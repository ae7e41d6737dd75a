-- A walk over places, step by step. Assumes nothing.
use Rattle.std.proofs.Common.{◌≡◌, ℕ, zero, suc, ◌+◌, ◌-◌, ◌<◌, ◌≤◌, Bool, true, false, cond, List, [], ◌∷◌, ◌++◌, length, get_or, drop, replicate, Some, refl, ap, ◌∙◌, arith}
use Rattle.std.proofs.lemmas.List.{at_drop_more, at_drop_all}
use Rattle.std.proofs.lemmas.Bool.{cond-true, cond-false}
use Rattle.store.specs.Stores.{Pair, Pairs, name_at}
use Rattle.stores.specs.declared.place.Place.{Place}
use Rattle.stores.specs.Places.{pair_in, filled, free_place}
use Rattle.stores.proofs.Rows.{first_of}

module _ (test : Place → Bool) (xs : List Place) (i : ℕ) where
  module _ (within : i < length xs) (so : i + first_of test (drop i xs) ≡ first_of test xs) where
    here : first_of test (drop i xs) ≡ cond (test (get_or xs i free_place)) 0 (suc (first_of test (drop (i + 1) xs)))
    here = at_drop_more (first_of test) xs i free_place within

    pub first_more : test (get_or xs i free_place) ≡ false → (i + 1) + first_of test (drop (i + 1) xs) ≡ first_of test xs
    first_more out = let a = here ∙ cond-false (test (get_or xs i free_place)) _ _ out in omega arith

    pub first_here : test (get_or xs i free_place) ≡ true → i ≡ first_of test xs
    first_here found = let a = here ∙ cond-true (test (get_or xs i free_place)) _ _ found in omega arith

  pub first_none : length xs ≤ i → i ≤ length xs → i + first_of test (drop i xs) ≡ first_of test xs → length xs ≡ first_of test xs
  first_none past within so = let a = at_drop_all (first_of test) xs i past in omega arith

-- what is left, with its first place named
module _ (xs : List Place) (i : ℕ) (within : i < length xs) where
  filled_here : filled (drop i xs) ≡ pair_in (get_or xs i free_place) ++ filled (drop (i + 1) xs)
  filled_here = at_drop_more filled xs i free_place within

  pub filled-used : (get_or xs i free_place).used ≡ true → filled (drop i xs) ≡ ((get_or xs i free_place).id, (get_or xs i free_place).session) ∷ filled (drop (i + 1) xs)
  filled-used h = filled_here ∙ ap (λ (l : Pairs). l ++ filled (drop (i + 1) xs)) (cond-true (get_or xs i free_place).used _ [] h)

  pub filled_free : (get_or xs i free_place).used ≡ false → filled (drop i xs) ≡ filled (drop (i + 1) xs)
  filled_free h = filled_here ∙ ap (λ (l : Pairs). l ++ filled (drop (i + 1) xs)) (cond-false (get_or xs i free_place).used _ [] h)

-- past a pair, one name fewer is to be passed
pub name_next : (p : Pair) (l : Pairs) (n m : ℕ) → (n ≡ 0 → ⊥) → m ≡ n - 1 → name_at (p ∷ l) n ≡ name_at l m
name_next p l zero m h e = absurd (h refl)
name_next p l (suc n) m h e = let q : n ≡ m = omega arith in ap (name_at l) q

pub name_here : (p : Pair) (l : Pairs) (n : ℕ) → n ≡ 0 → name_at (p ∷ l) n ≡ Some p.0
name_here p l n e = ap (name_at (p ∷ l)) e

-- one more place freed
pub free_more : (n : ℕ) → replicate n free_place ++ (free_place ∷ []) ≡ replicate (n + 1) free_place
free_more zero = refl
free_more (suc n) =
    let e : suc (n + 1) ≡ suc n + 1 = omega arith in
    ap (λ (l : List Place). free_place ∷ l) (free_more n) ∙ ap (λ m. replicate m free_place) e
