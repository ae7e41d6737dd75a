-- Blocks as numbers. Assumes nothing.
use Rattle.std.proofs.Common.{◌≡◌, ℕ, suc, ◌+◌, ◌-◌, ◌*◌, ◌/◌, ◌%◌, ◌^◌, ◌<◌, List, [], ◌++◌, length, refl, ap, ◌∙◌, inl, inr, arith}
use lib.Bits.{bit_xor, xor_lt, xor_zero_r}
use Rattle.std.specs.Int.Digits.{number_from_digits, AllBelowBase}
use Rattle.std.proofs.lemmas.Bool.Decides.{leb_tells}
use Rattle.octets.specs.Octets.{octets}
use Rattle.octets.proofs.Numbers.{octets_join, under_append, under_octets}
use Rattle.aes.specs.declared.Block.{Block}
use Rattle.aes.specs.Words.{block_octets}
use Rattle.modes.specs.Cmac.{twice, doubled}

-- the two halves of a number of 128 bits, one behind the other
pub halves : (y : ℕ) → octets 8 (y / 2 ^ 64) ++ octets 8 (y % 2 ^ 64) ≡ octets 16 y
halves y = octets_join 8 8 (y / 2 ^ 64) (y % 2 ^ 64) (omega arith) ∙ ap (octets 16) (let e : y / 2 ^ 64 * 2 ^ 64 + y % 2 ^ 64 ≡ y = omega arith in e)

-- the shift and the addition of 87 without a branch
pub twice_is : (n : ℕ) → n < 2 ^ 128 → bit_xor (n * 2 % 2 ^ 128) (n / 2 ^ 127 * 0x87) ≡ twice n
twice_is n h = elim (leb_tells (suc n) (2 ^ 127)) [
  | inl p ↦
      let z : n / 2 ^ 127 * 0x87 ≡ 0 = omega arith in
      let m : n * 2 % 2 ^ 128 ≡ n * 2 = omega arith in
      rw p.0 (let x = xor_zero_r (n * 2) in cc)
  | inr p ↦
      let z : n / 2 ^ 127 * 0x87 ≡ 0x87 = omega arith in
      let m : n * 2 % 2 ^ 128 ≡ n * 2 - 2 ^ 128 = omega arith in
      rw p.0 cc
]

pub doubled_is : (block r : List ℕ) (n y : ℕ) → n ≡ number_from_digits 256 block → n < 2 ^ 128 → y ≡ bit_xor (n * 2 % 2 ^ 128) (n / 2 ^ 127 * 0x87)
    → r ≡ octets 8 (y / 2 ^ 64) ++ octets 8 (y % 2 ^ 64) → r ≡ doubled block
unfolding doubled
doubled_is block r n y n_is h y_is r_is =
    let t = twice_is n h in
    r_is ∙ halves y ∙ ap (octets 16) (y_is ∙ t ∙ ap twice n_is)

-- the high half of what is written is below 2 ^ 64
pub high_fits : (n : ℕ) → n < 2 ^ 128 → bit_xor (n * 2 % 2 ^ 128) (n / 2 ^ 127 * 0x87) / 2 ^ 64 < 2 ^ 64
high_fits n h =
    let b : bit_xor (n * 2 % 2 ^ 128) (n / 2 ^ 127 * 0x87) < 2 ^ 128 = xor_lt 128 (n * 2 % 2 ^ 128) (n / 2 ^ 127 * 0x87) (omega arith) (omega arith) in
    omega arith

-- a block has sixteen octets
pub octets_whole : (b : Block) → (length (block_octets b) ≡ 16) × AllBelowBase 256 (block_octets b)
unfolding block_octets
octets_whole b =
    let w : ℕ → List ℕ = octets 4 in
    let d = under_append (w b.d) [] (under_octets 4 b.d) tt in
    let c = under_append (w b.c) (w b.d ++ []) (under_octets 4 b.c) d in
    let e = under_append (w b.b) (w b.c ++ (w b.d ++ [])) (under_octets 4 b.b) c in
    (refl, under_append (w b.a) (w b.b ++ (w b.c ++ (w b.d ++ []))) (under_octets 4 b.a) e)
