-- A text cut at its first newline.
use Rattle.std.proofs.Common.{◌≡◌, ℕ, ◌+◌, ◌-◌, ◌<◌, ◌≤◌, Bool, false, cond, eqb, ltb, List, [], ◌∷◌, length, take, drop, Some, None, sym, refl, ap, ◌∙◌, arith, All}
use Rattle.std.specs.List.{slice_split, position, position_or_len, before_first, after_first}
use Rattle.std.proofs.lemmas.List.{take_rest}
use Rattle.std.proofs.lemmas.List.Splits.{slice_split_first, slice_split_none, length-slice_split}
use Rattle.std.proofs.lemmas.List.Elements.{All-from_get_or}
use Rattle.std.proofs.lemmas.List.Sums.{fails_before_first}
use Rattle.std.proofs.lemmas.Bool.Decides.{nat_tests}
use Rattle.script.specs.Pieces.{line_or_none, without_empty_last, lines_of}

abbrev pub is_newline : ℕ → Bool
is_newline x = eqb x 10

found : (k m n : ℕ) → Some n ≡ cond (ltb k m) (Some k) None → (n ≡ k) × (k < m)
found k m n e = grind (arith, nat_tests)

not_found : (k m : ℕ) → None ≡ cond (ltb k m) (Some k) None → m ≤ k
not_found k m e = grind (arith, nat_tests)

last_behind : (piece : List ℕ) (pieces : List (List ℕ)) → 0 < length pieces → without_empty_last (piece ∷ pieces) ≡ piece ∷ without_empty_last pieces
last_behind piece [] h = absurd (omega arith)
last_behind piece (next ∷ pieces) h = refl

pieces_some : (l : List ℕ) → 0 < length (slice_split is_newline l)
pieces_some l = omega (arith, length-slice_split is_newline l)

-- the line before the first newline, and the lines behind it
pub line_cut : (l : List ℕ) (n : ℕ) → Some n ≡ position is_newline l → lines_of l ≡ take n l ∷ lines_of (take (length l - (n + 1)) (drop (n + 1) l))
line_cut l n e =
    let p = found (position_or_len is_newline l) (length l) n e in
    let k : n ≡ position_or_len is_newline l = p.0 in
    let s = slice_split_first is_newline l 0 p.1 in
    let r : take (length l - (n + 1)) (drop (n + 1) l) ≡ after_first is_newline l = take_rest l (n + 1) ∙ ap (λ (m : ℕ). drop (m + 1) l) k in
    let t : take n l ≡ before_first is_newline l = ap (λ (m : ℕ). take m l) k in
    ap without_empty_last s ∙ last_behind (before_first is_newline l) (slice_split is_newline (after_first is_newline l)) (pieces_some (after_first is_newline l))
    ∙ sym (ap (λ (x : List ℕ). x ∷ lines_of (take (length l - (n + 1)) (drop (n + 1) l))) t ∙ ap (λ (x : List ℕ). before_first is_newline l ∷ lines_of x) r)

some_line : (l : List ℕ) → 0 < length l → line_or_none l ≡ l ∷ []
some_line [] h = absurd (omega arith)
some_line (x ∷ l) h = refl

-- the last line, where no newline ends it
pub line_last : (l : List ℕ) → false ≡ eqb (length l) 0 → None ≡ position is_newline l → lines_of l ≡ l ∷ []
line_last l some e =
    let h : 0 < length l = grind (arith, nat_tests) in
    let k = not_found (position_or_len is_newline l) (length l) e in
    let none : All (λ x. is_newline x ≡ false) l = All-from_get_or (λ x. is_newline x ≡ false) l 0 (λ i b. fails_before_first is_newline l i 0 (omega arith)) in
    ap without_empty_last (slice_split_none is_newline l none) ∙ some_line l h

-- fewer lines stand behind the first newline
pub lines_fewer : (l : List ℕ) (n : ℕ) → Some n ≡ position is_newline l
    → length (lines_of (take (length l - (n + 1)) (drop (n + 1) l))) < length (lines_of l)
lines_fewer l n e = rw (line_cut l n e) (omega arith)
