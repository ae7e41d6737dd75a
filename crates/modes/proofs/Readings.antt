-- A text in two parts, read octet by octet. Assumes nothing.
use Rattle.std.proofs.Common.{◌≡◌, ℕ, suc, ◌+◌, ◌-◌, ◌<◌, ◌≤◌, cond, eqb, ltb, List, ◌∷◌, length, get_or, take, drop, replicate, sym, refl, ap, ◌∙◌, inl, inr, arith, length-append, length-drop, length-take-le}
use lib.ListN.{length-replicate}
use Rattle.std.proofs.lemmas.List.FromFn.{fill_by_all}
use Rattle.std.proofs.lemmas.List.{get_or_append_left, get_or-append_right, get_or_at, get_or-drop, get_or-replicate, get_or-take}
use Rattle.std.proofs.lemmas.Bool.{cases_order, cond-true, cond-false, eq-eqb, le-ltb, lt-ltb, ne_eqb}
use Rattle.modes.specs.Cmac.{filled}
use Rattle.modes.specs.Texts.{octet_at, octets_from}

-- an octet of the text
octet_inside : (text : List ℕ) (place : ℕ) → place < length text → octet_at text place ≡ get_or text place 0
octet_inside text place h = cond-true (ltb place (length text)) _ _ (lt-ltb place (length text) h)

-- what stands behind the text
octet_behind : (text : List ℕ) (place : ℕ) → length text ≤ place → octet_at text place ≡ cond (eqb place (length text)) 0x80 0
octet_behind text place h = cond-false (ltb place (length text)) _ _ (le-ltb place (length text) h)

octet_end : (text : List ℕ) (place : ℕ) → place ≡ length text → octet_at text place ≡ 0x80
octet_end text place at = octet_behind text place (omega arith) ∙ cond-true (eqb place (length text)) 0x80 0 (eq-eqb place (length text) at)

octet_past : (text : List ℕ) (place : ℕ) → length text < place → octet_at text place ≡ 0
octet_past text place h = octet_behind text place (omega arith) ∙ cond-false (eqb place (length text)) 0x80 0 (ne_eqb place (length text) (λ e. omega arith))

-- a block that lies whole in the text
pub block_whole : (text : List ℕ) (start : ℕ) → start + 16 ≤ length text → octets_from text start 16 ≡ take 16 (drop start text)
block_whole text start h =
    let rest = drop start text in
    let n : length rest ≡ length text - start = length-drop start text in
    sym (fill_by_all (λ k. octet_at text (start + k)) (take 16 rest) 16 0 (length-take-le 16 rest (omega arith))
    (λ k l. get_or-take 16 rest k 0 l ∙ get_or-drop start text k 0 ∙ sym (octet_inside text (start + k) (omega arith))))

-- a block in which the text ends
pub block_filled : (text : List ℕ) (start : ℕ) → start ≤ length text → length text - start < 16 → octets_from text start 16 ≡ filled (drop start text)
block_filled text start inside short =
    let rest = drop start text in
    let n = length rest in
    let tail : List ℕ = replicate (15 - n) 0 in
    let tail_is : length tail ≡ 15 - n = length-replicate (15 - n) 0 in
    let n_is : n ≡ length text - start = length-drop start text in
    let size : length (filled rest) ≡ 16 = length-append rest (0x80 ∷ tail) ∙ omega arith in
    sym (fill_by_all (λ k. octet_at text (start + k)) (filled rest) 16 0 size (λ k l. elim (cases_order k n) [
      | inl same ↦
          ap (λ i. get_or (filled rest) i 0) same ∙ get_or_at rest 0x80 tail 0 n refl
          ∙ sym (octet_end text (start + k) (omega arith))
      | inr other ↦ elim other [
        | inl before ↦ get_or_append_left rest (0x80 ∷ tail) 0 k before ∙ get_or-drop start text k 0 ∙ sym (octet_inside text (start + k) (omega arith))
        | inr behind ↦
            let j : k - n ≡ suc (k - n - 1) = omega arith in
            get_or-append_right rest (0x80 ∷ tail) n k 0 refl (omega arith) ∙ ap (λ i. get_or (0x80 ∷ tail) i 0) j ∙ get_or-replicate (15 - n) (k - n - 1) 0 0 (omega arith)
            ∙ sym (octet_past text (start + k) (omega arith))
      ]
    ]))
