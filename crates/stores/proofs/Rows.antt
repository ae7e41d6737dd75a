-- What places in a row mean after a look, a write and a wipe. Assumes nothing.
use Rattle.std.proofs.Common.{◌≡◌, ℕ, zero, suc, ◌+◌, ◌-◌, ◌<◌, ◌≤◌, min, Bool, true, false, cond, not, ◌&&◌, ltb, List, [], ◌∷◌, ◌++◌, length, get_or, take, set, replicate, is_some, Some, None, Ok, Err, Option, sym, refl, ap, ◌∙◌, inl, inr, arith}
use Rattle.std.specs.List.{position, find, count_by, slice_get, filter}
use Rattle.std.specs.Option.{option_map}
use Rattle.std.proofs.lemmas.List.Recursion.{is_position_or_len, is_count_by}
use Rattle.std.proofs.lemmas.Bool.{cases_Bool, both_ways, ltb-true, ltb-false, and_parts, and_right, cond-true, cond-false, not_from_true, not_from_false, lt-ltb, le-ltb}
use Rattle.std.proofs.lemmas.List.{length-take-le}
use Rattle.std.specs.List.{insert}
use Rattle.refusal.specs.declared.Refusal.TheVariants.{NoSession, SessionPresent, StoreFull}
use Rattle.refusal.specs.Refusals.{fault_at}
use Rattle.wire.specs.declared.id.SessionId.{SessionId}
use Rattle.wire.specs.Ids.{same_id}
use Rattle.session.specs.declared.session.Session.{Session}
use Rattle.store.specs.Stores.{Pairs, lookup, name_at, has, replaced, without, add_answer, need_answer}
use Rattle.store.proofs.Finding.{same_id_lem}
use Rattle.stores.specs.declared.place.Place.{Place}
use Rattle.stores.specs.Places.{pair_in, filled, filled_most, holds_id, is_free, in_use, id_in, session_in, free_place, place_of}

-- the first place that passes a test, or their number where none does
abbrev pub first_of : (Place → Bool) → List Place → ℕ
first_of test [] = 0
first_of test (x ∷ xs) = cond (test x) 0 (suc (first_of test xs))

module _ (test : Place → Bool) (xs : List Place) where
  by_first : position test xs ≡ cond (ltb (first_of test xs) (length xs)) (Some (first_of test xs)) None
  by_first = ap (λ n. cond (ltb n (length xs)) (Some n) None) (sym (is_position_or_len (first_of test) test refl (λ x ys. ap (λ n. cond (test x) 0 n) (omega arith)) xs))

  pub found_first : (i : ℕ) → Some i ≡ position test xs → (first_of test xs < length xs) × (i ≡ first_of test xs)
  found_first i h = elim (cases_Bool (ltb (first_of test xs) (length xs))) [
    | inl t ↦ (ltb-true (first_of test xs) (length xs) t, let e : Some i ≡ Some (first_of test xs) = h ∙ by_first ∙ ap (λ (b : Bool). cond b (Some (first_of test xs)) None) t in cc)
    | inr f ↦ let e : ◌≡◌ {A = Option ℕ} (Some i) None = h ∙ by_first ∙ ap (λ (b : Bool). cond b (Some (first_of test xs)) None) f in absurd (both_ways false refl (sym (ap is_some e)))
  ]

  pub none_first : None ≡ position test xs → length xs ≤ first_of test xs
  none_first h = elim (cases_Bool (ltb (first_of test xs) (length xs))) [
    | inl t ↦ let e : ◌≡◌ {A = Option ℕ} None (Some (first_of test xs)) = h ∙ by_first ∙ ap (λ (b : Bool). cond b (Some (first_of test xs)) None) t in absurd (both_ways false refl (ap is_some e))
    | inr f ↦ ltb-false (first_of test xs) (length xs) f
  ]

  pub some_first : is_some (position test xs) ≡ true → first_of test xs < length xs
  some_first = go (position test xs) refl
    where
      go : (o : Option ℕ) → o ≡ position test xs → is_some o ≡ true → first_of test xs < length xs
      go (Some i) e t = (found_first i e).0
      go None e t = absurd (both_ways false refl t)

  pub no_first : is_some (position test xs) ≡ false → length xs ≤ first_of test xs
  no_first = go (position test xs) refl
    where
      go : (o : Option ℕ) → o ≡ position test xs → is_some o ≡ false → length xs ≤ first_of test xs
      go (Some i) e t = absurd (both_ways true t refl)
      go None e t = none_first e

-- a place that is used or not
abbrev with : Place → Bool → Place
with p u = record { used = u; id = p.id; session = p.session }

-- a place, and another session in it
abbrev pub renewed : Place → Session → Place
renewed p s = record { used = p.used; id = p.id; session = s }

and_true : (b : Bool) → (b && true) ≡ b
and_true true = refl
and_true false = refl

module _ (id : SessionId) where
  -- ---- one place before others

  look_pair : (p : Place) (l : Pairs) → lookup (pair_in p ++ l) id ≡ cond (holds_id id p) (Some p.session) (lookup l id)
  look_pair p l =
      let b = same_id p.id id in
      let P : Bool → Type 0 = λ u. lookup (pair_in (with p u) ++ l) id ≡ cond (holds_id id (with p u)) (Some p.session) (lookup l id) in
      elim p.used as P [
        | true ↦ ap (λ (t : Bool). cond t (Some p.session) (lookup l id)) (sym (and_true b))
        | false ↦ ap (λ (t : Bool). cond t (Some p.session) (lookup l id)) (sym (and_right b false refl))
      ]

  put_pair : (s : Session) (p : Place) (l : Pairs) → replaced (pair_in p ++ l) id s ≡ cond (holds_id id p) ((id, s) ∷ l) (pair_in p ++ replaced l id s)
  put_pair s p l =
      let b = same_id p.id id in
      let P : Bool → Type 0 = λ u. replaced (pair_in (with p u) ++ l) id s ≡ cond (holds_id id (with p u)) ((id, s) ∷ l) (pair_in (with p u) ++ replaced l id s) in
      elim p.used as P [
        | true ↦ ap (λ (t : Bool). cond t ((id, s) ∷ l) ((p.id, p.session) ∷ replaced l id s)) (sym (and_true b))
        | false ↦ ap (λ (t : Bool). cond t ((id, s) ∷ l) (replaced l id s)) (sym (and_right b false refl))
      ]

  take_pair : (p : Place) (l : Pairs) → without (pair_in p ++ l) id ≡ cond (holds_id id p) l (pair_in p ++ without l id)
  take_pair p l =
      let b = same_id p.id id in
      let P : Bool → Type 0 = λ u. without (pair_in (with p u) ++ l) id ≡ cond (holds_id id (with p u)) l (pair_in (with p u) ++ without l id) in
      elim p.used as P [
        | true ↦ ap (λ (t : Bool). cond t l ((p.id, p.session) ∷ without l id)) (sym (and_true b))
        | false ↦ ap (λ (t : Bool). cond t l (without l id)) (sym (and_right b false refl))
      ]

  renewed_pair : (s : Session) (p : Place) → holds_id id p ≡ true → pair_in (renewed p s) ≡ (id, s) ∷ []
  renewed_pair s p h =
      let t = and_parts (same_id p.id id) p.used h in
      ap (λ (u : Bool). cond u ((p.id, s) ∷ []) []) t.1 ∙ ap (λ (i : SessionId). (i, s) ∷ []) (same_id_lem p.id id t.0)

  -- ---- the place of an ID

  pub looked_up : (xs : List Place) → lookup (filled xs) id ≡ option_map session_in (find (holds_id id) xs)
  looked_up [] = refl
  looked_up (p ∷ xs) =
      look_pair p (filled xs)
      ∙ (elim (cases_Bool (holds_id id p)) [ inl t ↦ rw t refl | inr f ↦ rw f (looked_up xs) ])

  pub place_absent : (xs : List Place) → length xs ≤ first_of (holds_id id) xs → lookup (filled xs) id ≡ None
  place_absent [] h = refl
  place_absent (p ∷ xs) h =
      let P : Bool → Type 0 = λ b. suc (length xs) ≤ cond b 0 (suc (first_of (holds_id id) xs)) → cond b (Some p.session) (lookup (filled xs) id) ≡ None in
      look_pair p (filled xs) ∙ (elim (holds_id id p) as P [ true ↦ (λ k. absurd (omega arith)) | false ↦ (λ k. place_absent xs (omega arith)) ]) h

  pub place_found : (xs : List Place) → first_of (holds_id id) xs < length xs → lookup (filled xs) id ≡ Some (get_or xs (first_of (holds_id id) xs) free_place).session
  place_found [] h = absurd (omega arith)
  place_found (p ∷ xs) h =
      let P : Bool → Type 0 = λ b. cond b 0 (suc (first_of (holds_id id) xs)) < suc (length xs) → cond b (Some p.session) (lookup (filled xs) id) ≡ Some (get_or (p ∷ xs) (cond b 0 (suc (first_of (holds_id id) xs))) free_place).session in
      look_pair p (filled xs) ∙ (elim (holds_id id p) as P [ true ↦ (λ k. refl) | false ↦ (λ k. place_found xs (omega arith)) ]) h

  pub place_put : (s : Session) (xs : List Place) → first_of (holds_id id) xs < length xs → filled (set xs (first_of (holds_id id) xs) (renewed (get_or xs (first_of (holds_id id) xs) free_place) s)) ≡ replaced (filled xs) id s
  place_put s [] h = absurd (omega arith)
  place_put s (p ∷ xs) h =
      let i : Bool → ℕ = λ b. cond b 0 (suc (first_of (holds_id id) xs)) in
      let P : Bool → Type 0 = λ b. holds_id id p ≡ b → i b < suc (length xs) → filled (set (p ∷ xs) (i b) (renewed (get_or (p ∷ xs) (i b) free_place) s)) ≡ cond b ((id, s) ∷ filled xs) (pair_in p ++ replaced (filled xs) id s) in
      (elim (holds_id id p) as P [
        | true ↦ (λ e k. ap (λ (l : Pairs). l ++ filled xs) (renewed_pair s p e))
        | false ↦ (λ e k. ap (λ (l : Pairs). pair_in p ++ l) (place_put s xs (omega arith)))
      ]) refl h
      ∙ sym (put_pair s p (filled xs))

  pub place_wiped : (xs : List Place) → first_of (holds_id id) xs < length xs → filled (set xs (first_of (holds_id id) xs) free_place) ≡ without (filled xs) id
  place_wiped [] h = absurd (omega arith)
  place_wiped (p ∷ xs) h =
      let i : Bool → ℕ = λ b. cond b 0 (suc (first_of (holds_id id) xs)) in
      let P : Bool → Type 0 = λ b. i b < suc (length xs) → filled (set (p ∷ xs) (i b) free_place) ≡ cond b (filled xs) (pair_in p ++ without (filled xs) id) in
      (elim (holds_id id p) as P [
        | true ↦ (λ k. refl)
        | false ↦ (λ k. ap (λ (l : Pairs). pair_in p ++ l) (place_wiped xs (omega arith)))
      ]) h
      ∙ sym (take_pair p (filled xs))

-- ---- the places in use

pub used_are : (xs : List Place) → length (filled xs) ≡ count_by in_use xs
used_are xs = is_count_by (λ ys. length (filled ys)) in_use refl one_more xs
  where
    one_more : (p : Place) (xs : List Place) → length (pair_in p ++ filled xs) ≡ cond p.used (1 + length (filled xs)) (length (filled xs))
    one_more p xs =
        let P : Bool → Type 0 = λ u. length (pair_in (with p u) ++ filled xs) ≡ cond u (1 + length (filled xs)) (length (filled xs)) in
        elim p.used as P [ true ↦ omega arith | false ↦ refl ]

pub named : (xs : List Place) (n : ℕ) → name_at (filled xs) n ≡ option_map id_in (slice_get (filter in_use xs) n)
named [] n = refl
named (p ∷ xs) zero =
    let P : Bool → Type 0 = λ u. name_at (pair_in (with p u) ++ filled xs) 0 ≡ option_map id_in (slice_get (cond u (p ∷ filter in_use xs) (filter in_use xs)) 0) in
    elim p.used as P [ true ↦ refl | false ↦ named xs 0 ]
named (p ∷ xs) (suc n) =
    let P : Bool → Type 0 = λ u. name_at (pair_in (with p u) ++ filled xs) (suc n) ≡ option_map id_in (slice_get (cond u (p ∷ filter in_use xs) (filter in_use xs)) (suc n)) in
    elim p.used as P [ true ↦ named xs n | false ↦ named xs (suc n) ]

-- ---- a free place

pub free_room : (xs : List Place) → first_of is_free xs < length xs → length (filled xs) < length xs
free_room [] h = absurd (omega arith)
free_room (p ∷ xs) h =
    let P : Bool → Type 0 = λ u. cond (not u) 0 (suc (first_of is_free xs)) < suc (length xs) → length (pair_in (with p u) ++ filled xs) < suc (length xs) in
    (elim p.used as P [ true ↦ (λ k. omega (arith, free_room xs (omega arith))) | false ↦ (λ k. omega (arith, filled_most xs)) ]) h

pub free_none : (xs : List Place) → length xs ≤ first_of is_free xs → length (filled xs) ≡ length xs
free_none [] h = refl
free_none (p ∷ xs) h =
    let P : Bool → Type 0 = λ u. suc (length xs) ≤ cond (not u) 0 (suc (first_of is_free xs)) → length (pair_in (with p u) ++ filled xs) ≡ suc (length xs) in
    (elim p.used as P [ true ↦ (λ k. omega (arith, free_none xs (omega arith))) | false ↦ (λ k. absurd (omega arith)) ]) h

pub free_low : (xs : List Place) → first_of is_free xs ≤ length (filled xs)
free_low [] = omega arith
free_low (p ∷ xs) =
    let P : Bool → Type 0 = λ u. cond (not u) 0 (suc (first_of is_free xs)) ≤ length (pair_in (with p u) ++ filled xs) in
    elim p.used as P [ true ↦ omega (arith, free_low xs) | false ↦ omega arith ]

pub free_put : (id : SessionId) (s : Session) (xs : List Place) → first_of is_free xs < length xs → filled (set xs (first_of is_free xs) (place_of id s)) ≡ insert (filled xs) (first_of is_free xs) (id, s)
free_put id s [] h = absurd (omega arith)
free_put id s (p ∷ xs) h =
    let i : Bool → ℕ = λ u. cond (not u) 0 (suc (first_of is_free xs)) in
    let P : Bool → Type 0 = λ u. i u < suc (length xs) → filled (set (with p u ∷ xs) (i u) (place_of id s)) ≡ insert (pair_in (with p u) ++ filled xs) (i u) (id, s) in
    (elim p.used as P [
      | true ↦ (λ k. ap (λ (l : Pairs). (p.id, p.session) ∷ l) (free_put id s xs (omega arith)))
      | false ↦ (λ k. refl)
    ]) h

-- nothing is in free places
pub filled_none : (n : ℕ) → filled (replicate n free_place) ≡ []
filled_none zero = refl
filled_none (suc n) = filled_none n

-- the first places of some, emptied
pub emptied_part : (xs ys : List Place) (size m n : ℕ) → m ≡ size → n ≡ min m (length xs) → ys ≡ replicate (length (take (n - 0) xs)) free_place → ys ≡ replicate (min size (length xs)) free_place
emptied_part xs ys size m n e h is =
    let short : n - 0 ≤ length xs = omega arith in
    let same : n - 0 ≡ min size (length xs) = omega arith in
    is ∙ ap (λ k. replicate k free_place) (length-take-le (n - 0) xs short ∙ same)

-- ---- what is answered

module _ (id : SessionId) (xs : List Place) where
  there : first_of (holds_id id) xs < length xs → has (filled xs) id ≡ true
  there h = ap is_some (place_found id xs h)

  absent : length xs ≤ first_of (holds_id id) xs → has (filled xs) id ≡ false
  absent h = ap is_some (place_absent id xs h)

  pub need_there : first_of (holds_id id) xs < length xs → need_answer (filled xs) id ≡ Ok tt
  need_there h = cond-true (has (filled xs) id) _ _ (there h)

  pub need_absent : length xs ≤ first_of (holds_id id) xs → need_answer (filled xs) id ≡ Err (fault_at NoSession 0)
  need_absent h = cond-false (has (filled xs) id) _ _ (absent h)

  pub add_present : first_of (holds_id id) xs < length xs → add_answer (filled xs) (length xs) id ≡ Err (fault_at SessionPresent 0)
  add_present h = cond-false (not (has (filled xs) id)) _ _ (not_from_true (has (filled xs) id) (there h))

  module _ (h : length xs ≤ first_of (holds_id id) xs) where
    pub add_full : length xs ≤ first_of is_free xs → add_answer (filled xs) (length xs) id ≡ Err (fault_at StoreFull 0)
    add_full f = cond-true (not (has (filled xs) id)) _ _ (not_from_false (has (filled xs) id) (absent h)) ∙ cond-false (ltb (length (filled xs)) (length xs)) _ _ (le-ltb (length (filled xs)) (length xs) (omega (arith, free_none xs f)))

    pub add_done : first_of is_free xs < length xs → add_answer (filled xs) (length xs) id ≡ Ok tt
    add_done f = cond-true (not (has (filled xs) id)) _ _ (not_from_false (has (filled xs) id) (absent h)) ∙ cond-true (ltb (length (filled xs)) (length xs)) _ _ (lt-ltb (length (filled xs)) (length xs) (free_room xs f))
