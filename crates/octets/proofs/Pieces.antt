-- A buffer that is written piece by piece from its start. Assumes nothing.
use Rattle.std.proofs.Common.{◌≡◌, ℕ, ◌+◌, ◌-◌, ◌≤◌, List, [], ◌∷◌, ◌++◌, length, take, drop, set, refl, ap, ◌∙◌, arith, length-append, length-drop, drop-drop, take_at, drop_at}
use borrow.Rule.Slice.PartMut.{put_mid}
use Rattle.std.specs.List.{between}
use Rattle.std.proofs.lemmas.List.Edits.{length-between}
use Rattle.std.proofs.lemmas.List.{append_assoc}

-- the first octet
pub first_written : (old : List ℕ) (x : ℕ) → 1 ≤ length old → set old 0 x ≡ (x ∷ []) ++ drop 1 old
first_written [] x h = absurd (omega arith)
first_written (y ∷ old) x h = refl

-- one piece more, from k up to j, behind what is written up to k
module _ (old written now : List ℕ) (k j : ℕ) (is : now ≡ written ++ drop k old) (n : length written ≡ k) (order : k ≤ j) (room : j ≤ length old) where
  pub piece_length : length (between k j now) ≡ j - k
  piece_length =
      let l : length now ≡ length old = ap length is ∙ length-append written (drop k old) ∙ (let d = length-drop k old in omega arith) in
      length-between now k j (omega arith)

  pub piece_written : (piece : List ℕ) → length piece ≡ j - k → (put_mid k (j - k) now piece ≡ (written ++ piece) ++ drop j old) × (length (written ++ piece) ≡ j)
  piece_written piece l =
      let a : take k (written ++ drop k old) ≡ written = take_at written (drop k old) k n in
      let b : drop k (written ++ drop k old) ≡ drop k old = drop_at written (drop k old) k n in
      let s : k + (j - k) ≡ j = omega arith in
      let d : drop (j - k) (drop k old) ≡ drop j old = drop-drop (j - k) k old ∙ ap (λ i. drop i old) s in
      let g = append_assoc written piece (drop j old) in
      (cc, length-append written piece ∙ omega arith)
