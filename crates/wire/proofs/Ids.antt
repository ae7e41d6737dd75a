-- Where a Session ID ends. Assumes nothing.
use Rattle.std.proofs.Common.{drop, ◌≡◌, ℕ, zero, suc, ◌+◌, ◌-◌, ◌*◌, ◌^◌, ◌<◌, ◌≤◌, true, false, not, eqb, ltb, List, [], ◌∷◌, ◌++◌, length, take, Ok, Err, Result, refl, ap, ◌∙◌, inl, inr, arith, pow_mono}
use Rattle.std.specs.Int.{bytes_high_first}
use Rattle.std.specs.Int.Digits.{number_from_digits, AllBelowBase}
use Rattle.std.proofs.lemmas.Bool.{and_parts, both_ways, cases_Bool, cases_eq, eq-eqb, eqb-false, eqb-true, ltb-false, not-true}
use Rattle.wire.specs.declared.id.IdError.{IdError}
use Rattle.wire.specs.declared.id.SessionId.{SessionId}
use Rattle.wire.specs.Ids.{id_length, ends_at, is_id, id_of, id_octets}
use Rattle.wire.specs.Limits.{longest_id}
use Rattle.octets.specs.Octets.{octets, width_of}
use Rattle.octets.proofs.Numbers.{octets_std, last_of, number_holds, octets_number, width_number}

-- an ID is the same whatever follows it
pub id_before : (k n m : ℕ) (l rest : List ℕ) → id_length k n l ≡ Ok m → id_length k n (l ++ rest) ≡ Ok m
id_before zero n m l rest h = let z : ◌≡◌ {A = ℕ} 0 1 = cc in absurd (omega arith)
id_before (suc k) n m [] rest h = let z : ◌≡◌ {A = ℕ} 0 1 = cc in absurd (omega arith)
id_before (suc k) n m (x ∷ l) rest h = elim (cases_Bool (ltb x 128)) [
  | inl t ↦ rw t (rw t at h)
  | inr t ↦ rw t (id_before k (n + 1) m l rest (rw t at h))
]

-- an ID that was found has an octet, lies within what it was read from, and is found there again without what follows
pub id_found : (k n m : ℕ) (l : List ℕ) → id_length k n l ≡ Ok m → (n < m) × (m ≤ n + length l) × (m ≤ n + k) × (id_length k n (take (m - n) l) ≡ Ok m)
id_found zero n m l h = let z : ◌≡◌ {A = ℕ} 0 1 = cc in absurd (omega arith)
id_found (suc k) n m [] h = let z : ◌≡◌ {A = ℕ} 0 1 = cc in absurd (omega arith)
id_found (suc k) n m (x ∷ l) h = elim (cases_Bool (ltb x 128)) [
  | inl t ↦
      let e : ◌≡◌ {A = Result ℕ IdError} (Ok (n + 1)) (Ok m) = rw t at h in
      let i : n + 1 ≡ m = cc in
      let s : m - n ≡ suc 0 = omega arith in
      (omega arith, omega arith, omega arith, rw s (rw t e))
  | inr t ↦
      let r = id_found k (n + 1) m l (rw t at h) in
      let s : m - n ≡ suc (m - (n + 1)) = omega (arith, r.0) in
      (omega (arith, r.0), omega (arith, r.1), omega (arith, r.2), rw s (rw t r.3))
]

ends_at_lem : (n : ℕ) (r : Result ℕ IdError) → ends_at n r ≡ true → r ≡ Ok n
ends_at_lem n (Ok m) h = ap Ok (eqb-true m n h)
ends_at_lem n (Err e) h = absurd (both_ways false refl h)

-- what the test of an ID says
pub is_id_ends : (l : List ℕ) → is_id l ≡ true → (id_length longest_id 0 l ≡ Ok (length l)) × (number_from_digits 256 l ≡ 0 → ⊥)
is_id_ends l h =
    let p = and_parts (ends_at (length l) (id_length longest_id 0 l)) (not (eqb (number_from_digits 256 l) 0)) h in
    (ends_at_lem (length l) (id_length longest_id 0 l) p.0, eqb-false (number_from_digits 256 l) 0 (not-true (eqb (number_from_digits 256 l) 0) p.1))

pub is_id_from : (l : List ℕ) → id_length longest_id 0 l ≡ Ok (length l) → eqb (number_from_digits 256 l) 0 ≡ false → is_id l ≡ true
is_id_from l ends some = rw (ends, some, eq-eqb (length l) (length l) refl)

-- the octets of an ID do not begin with 00
id_first : (x : ℕ) (xs : List ℕ) → is_id (x ∷ xs) ≡ true → 1 ≤ x
id_first x [] h = elim (cases_eq x 0) [ inl z ↦ absurd ((is_id_ends (x ∷ []) h).1 (omega arith)) | inr some ↦ omega arith ]
id_first x (y ∷ ys) h = elim (cases_Bool (ltb x 128)) [
  | inl t ↦
      let e : ◌≡◌ {A = Result ℕ IdError} (Ok (0 + 1)) (Ok (length (x ∷ y ∷ ys))) = rw t at (is_id_ends (x ∷ y ∷ ys) h).0 in
      let n : 0 + 1 ≡ length (x ∷ y ∷ ys) = cc in
      absurd (omega arith)
  | inr t ↦ omega (arith, ltb-false x 128 t)
]

-- an ID's octets are those of the number that they write
pub id_octets_lem : (l : List ℕ) → AllBelowBase 256 l → is_id l ≡ true → (id_octets (id_of l) ≡ l) × (number_from_digits 256 l < 2 ^ 32)
id_octets_lem [] u h = let e = (is_id_ends [] h).0 in let z : ◌≡◌ {A = ℕ} 0 1 = cc in absurd (omega arith)
id_octets_lem (x ∷ xs) u h =
    let l = x ∷ xs in
    let short : length l ≤ longest_id = omega (arith, (id_found longest_id 0 (length l) l (is_id_ends l h).0).2) in
    let w = width_number x xs u (id_first x xs h) short in
    let top : 2 ^ (8 * length l) ≤ 2 ^ 32 = pow_mono (let q : 8 * length l ≤ 32 = omega arith in q) in
    (ap (λ n. octets n (number_from_digits 256 l)) w ∙ octets_number l u, omega (arith, number_holds l u))

-- an ID's octets are the last of its number's, as many as it is wide
pub id_written : (id : SessionId) (all : List ℕ) (w : ℕ) → all ≡ bytes_high_first 4 id.number → w ≡ width_of id.number → w ≤ 4 → take (4 - (4 - w)) (drop (4 - w) all) ≡ id_octets id
id_written id all w is width short =
    ap (λ (l : List ℕ). take (4 - (4 - w)) (drop (4 - w) l)) (is ∙ octets_std 4 id.number)
    ∙ last_of 4 w id.number short ∙ ap (λ k. octets k id.number) width
