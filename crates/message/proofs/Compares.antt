-- A comparison that looks at every octet. Assumes nothing.
use Rattle.std.proofs.Common.{◌≡◌, ℕ, eqb, List, [], ◌∷◌, length, sym, refl, ap, ◌∙◌, arith}
use lib.Bits.{bit_or, bit_xor, or_add_and, and_le_l, and_le_r, xor_self, xor_zero_l, or_zero_l}
use Rattle.std.specs.List.{fold, zip}
use Rattle.std.specs.Str.{bytes_eq}
use Rattle.std.proofs.lemmas.Slice.Eq.{bytes_eq-Decides}
use Rattle.std.proofs.lemmas.Bool.{eqb-true, eq-eqb}
use Rattle.std.proofs.lemmas.Bool.Decides.{same_from_decides}
use Rattle.suite.proofs.Ciphering.{xor_twice}
use Rattle.message.specs.Opens.{differing}

or_none : (x y : ℕ) → bit_or x y ≡ 0 → (x ≡ 0) × (y ≡ 0)
or_none x y h = let s = or_add_and x y in let l = and_le_l x y in let r = and_le_r x y in (omega arith, omega arith)

xor_none : (x y : ℕ) → bit_xor x y ≡ 0 → x ≡ y
xor_none x y h = let t = xor_twice x y in let z = xor_zero_l y in cc

-- no difference is gathered exactly where the octets are the same
none_gathered : (a b : List ℕ) (d : ℕ) → length a ≡ length b → fold differing d (zip a b) ≡ 0 → (d ≡ 0) × (a ≡ b)
none_gathered [] [] d same h = (h, refl)
none_gathered [] (y ∷ b) d same h = absurd (omega arith)
none_gathered (x ∷ a) [] d same h = absurd (omega arith)
none_gathered (x ∷ a) (y ∷ b) d same h =
    let rest = none_gathered a b (bit_or d (bit_xor x y)) (omega arith) h in
    let n = or_none d (bit_xor x y) rest.0 in
    let first = xor_none x y n.1 in
    let others = rest.1 in
    (n.0, cc)

gathers_none : (a : List ℕ) (d : ℕ) → d ≡ 0 → fold differing d (zip a a) ≡ 0
gathers_none [] d h = h
gathers_none (x ∷ a) d h = gathers_none a (bit_or d (bit_xor x x)) (let s = xor_self x in let o = or_zero_l 0 in cc)

pub gathered : (a b : List ℕ) → length a ≡ length b → eqb (fold differing 0 (zip a b)) 0 ≡ bytes_eq a b
gathered a b same =
    same_from_decides (eqb (fold differing 0 (zip a b)) 0) (bytes_eq a b) (
      λ t. (none_gathered a b 0 same (eqb-true (fold differing 0 (zip a b)) 0 t)).1,
      λ e. eq-eqb (fold differing 0 (zip a b)) 0 (ap (λ l. fold differing 0 (zip a l)) (sym e) ∙ gathers_none a 0 refl),
    )
    (bytes_eq-Decides a b)
