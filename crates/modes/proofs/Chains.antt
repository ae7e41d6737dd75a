-- The chain of CMAC, block by block. Assumes nothing.
use Rattle.std.proofs.Common.{◌≡◌, ℕ, ◌+◌, ◌-◌, ◌*◌, ◌<◌, ◌≤◌, true, false, cond, eqb, List, length, take, drop, sym, refl, ap, ◌∙◌, inl, inr, add-one, arith, length-drop, take_all}
use Rattle.std.proofs.lemmas.Bool.Decides.{eqb_tells}
use Rattle.aes.specs.Cipher.{xors}
use Rattle.modes.specs.Cmac.{zeros, subkey1, subkey2, filled, last_block, chained, blocks_before, cmac_of}
use Rattle.modes.specs.Texts.{octets_from}
use Rattle.modes.proofs.Readings.{block_whole, block_filled}

pub chained_none : (ciph : List ℕ → List ℕ) (m : List ℕ) → chained ciph m 0 ≡ zeros
unfolding chained
chained_none ciph m = refl

pub chained_more : (ciph : List ℕ → List ℕ) (text state block mixed state' : List ℕ) (i : ℕ) → 16 * i + 16 ≤ length text → state ≡ chained ciph text i
    → block ≡ octets_from text (16 * i) 16 → mixed ≡ xors state block → state' ≡ ciph mixed → state' ≡ chained ciph text (i + 1)
unfolding chained
chained_more ciph text state block mixed state' i inside state_is block_is mixed_is next_is =
    let w = block_whole text (16 * i) inside in
    let o = add-one i in
    let b : block ≡ take 16 (drop (16 * i) text) = block_is ∙ w in
    next_is ∙ ap ciph (mixed_is ∙ ap (λ (s : List ℕ). xors s block) state_is ∙ ap (xors (chained ciph text i)) b) ∙ ap (chained ciph text) (sym o)

-- the last block
last_is : (ciph : List ℕ → List ℕ) (text block key : List ℕ) (start : ℕ) → start ≤ length text → length text - start ≤ 16
    → block ≡ octets_from text start 16 → key ≡ cond (eqb (length text - start) 16) (subkey1 ciph) (subkey2 ciph)
    → xors block key ≡ last_block ciph (drop start text)
last_is ciph text block key start inside short block_is key_is =
    let n : length (drop start text) ≡ length text - start = length-drop start text in
    elim (eqb_tells (length text - start) 16) [
      | inl p ↦
          let t = take_all 16 (drop start text) (omega arith) in
          let b : block ≡ drop start text = block_is ∙ block_whole text start (omega (arith, p.1)) ∙ t in
          let k : key ≡ subkey1 ciph = key_is ∙ (rw p.0) in
          let test : eqb (length (drop start text)) 16 ≡ true = ap (λ i. eqb i 16) n ∙ p.0 in
          rw (test, b, k)
      | inr p ↦
          let small : length text - start < 16 = (let q = p.1 in omega arith) in
          let b : block ≡ filled (drop start text) = block_is ∙ block_filled text start inside small in
          let k : key ≡ subkey2 ciph = key_is ∙ (rw p.0) in
          let test : eqb (length (drop start text)) 16 ≡ false = ap (λ i. eqb i 16) n ∙ p.0 in
          rw (test, b, k)
    ]

pub cmac_is : (ciph : List ℕ → List ℕ) (text state block key last mixed tag : List ℕ) (before : ℕ) → before ≡ blocks_before (length text) → state ≡ chained ciph text before
    → block ≡ octets_from text (16 * before) 16 → key ≡ cond (eqb (length text - 16 * before) 16) (subkey1 ciph) (subkey2 ciph)
    → last ≡ xors block key → mixed ≡ xors state last → tag ≡ ciph mixed → tag ≡ cmac_of ciph text
unfolding cmac_of
cmac_is ciph text state block key last mixed tag before before_is state_is block_is key_is last_eq mixed_is tag_is =
    let e = last_is ciph text block key (16 * before) (omega arith) (omega arith) block_is key_is in
    tag_is ∙ ap ciph (mixed_is ∙ ap (λ (s : List ℕ). xors s last) state_is ∙ ap (xors (chained ciph text before)) (last_eq ∙ e))
    ∙ ap (λ b. ciph (xors (chained ciph text b) (last_block ciph (drop (16 * b) text)))) before_is
