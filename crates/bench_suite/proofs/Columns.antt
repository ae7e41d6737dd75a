-- The sums of a message's columns, octet by octet. Assumes nothing.
use Rattle.std.proofs.Common.{◌≡◌, ℕ, zero, suc, ◌+◌, ◌%◌, ◌<◌, cond, eqb, List, [], ◌∷◌, length, get_or, take, set, sym, inl, inr, le_of_suc-le-suc, not-suc-le-zero, add-zero, add-one, arith}
use Rattle.std.proofs.lemmas.List.{get_or-set_same, get_or-set_other}
use Rattle.std.proofs.lemmas.Bool.{cond-true, cond-false}
use Rattle.std.proofs.lemmas.Bool.Decides.{eqb_tells}
use Rattle.bench_suite.specs.Sums.{column}

column_step : (j i : ℕ) (xs : List ℕ) (k : ℕ) → k < length xs → column j i (take (suc k) xs) ≡ column j i (take k xs) + cond (eqb ((i + k) % 16) j) (get_or xs k 0) 0
column_step j i [] k h = absurd (not-suc-le-zero h)
column_step j i (x ∷ xs) zero h = simp add-zero (omega arith)
column_step j i (x ∷ xs) (suc k) h =
    let r = column_step j (i + 1) xs k (le_of_suc-le-suc h) in
    let e : i + 1 + k ≡ i + suc k = omega arith in
    let r' = rw e at r in
    omega arith

column_more : (j : ℕ) (xs : List ℕ) (k : ℕ) → k < length xs → column j 0 (take (k + 1) xs) ≡ column j 0 (take k xs) + cond (eqb (k % 16) j) (get_or xs k 0) 0
column_more j xs k h =
    let s = column_step j 0 xs k h in
    let z : 0 + k ≡ k = omega arith in
    let o = add-one k in
    cc

-- one octet of a message more, added to its column of a tag that began as a
pub added : (tag : List ℕ) (a : ℕ → ℕ) (xs : List ℕ) (i : ℕ) → i < length xs → length tag ≡ 16
    → ((j : ℕ) → j < 16 → get_or tag j 0 ≡ (a j + column j 0 (take i xs)) % 256)
    → (j : ℕ) → j < 16 → get_or (set tag (i % 16) ((get_or tag (i % 16) 0 + get_or xs i 0) % 256)) j 0 ≡ (a j + column j 0 (take (i + 1) xs)) % 256
added tag a xs i h l inv j w =
    let more = column_more j xs i h in
    let was = inv j w in
    elim (eqb_tells (i % 16) j) [
      | inl p ↦
          let here = get_or-set_same tag j ((get_or tag j 0 + get_or xs i 0) % 256) 0 (omega arith) in
          let adds = cond-true (eqb (i % 16) j) (get_or xs i 0) 0 p.0 in
          rw p.1 (omega arith)
      | inr p ↦
          let there = get_or-set_other tag (i % 16) j ((get_or tag (i % 16) 0 + get_or xs i 0) % 256) 0 (λ e. p.1 (sym e)) in
          let adds = cond-false (eqb (i % 16) j) (get_or xs i 0) 0 p.0 in
          omega arith
    ]
