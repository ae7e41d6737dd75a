-- Exclusive or of words is that of their octets. Assumes nothing.
use Rattle.std.proofs.Common.{◌≡◌, ℕ, zero, suc, ◌/◌, ◌%◌, List, [], ◌∷◌, ◌++◌, length, sym, refl, ap, ◌∙◌, arith}
use lib.Bits.{bit_xor, xor_shr, xor_mod}
use Rattle.std.specs.List.{flat_map}
use Rattle.octets.specs.Octets.{octets}
use Rattle.octets.proofs.Numbers.{length-octets}
use Rattle.aes.specs.Cipher.{xors}

pub xors_append : (xs us ys vs : List ℕ) → length xs ≡ length us → xors (xs ++ ys) (us ++ vs) ≡ xors xs us ++ xors ys vs
xors_append [] [] ys vs h = refl
xors_append [] (u ∷ us) ys vs h = absurd (omega arith)
xors_append (x ∷ xs) [] ys vs h = absurd (omega arith)
xors_append (x ∷ xs) (u ∷ us) ys vs h = ap (λ l. bit_xor x u ∷ l) (xors_append xs us ys vs (omega arith))

pub octets_xor : (n x y : ℕ) → octets n (bit_xor x y) ≡ xors (octets n x) (octets n y)
octets_xor zero x y = refl
octets_xor (suc n) x y =
    let r = octets_xor n (x / 256) (y / 256) in
    let s : bit_xor x y / 256 ≡ bit_xor (x / 256) (y / 256) = xor_shr x y 8 in
    let m : bit_xor x y % 256 ≡ bit_xor (x % 256) (y % 256) = xor_mod x y 8 in
    let p = xors_append (octets n (x / 256)) (octets n (y / 256)) (x % 256 ∷ []) (y % 256 ∷ []) (length-octets n (x / 256) ∙ sym (length-octets n (y / 256))) in
    cc

-- the words of two blocks
pub joined_xors : (n : ℕ) (ws ks : List ℕ) → length ws ≡ length ks → flat_map (octets n) (xors ws ks) ≡ xors (flat_map (octets n) ws) (flat_map (octets n) ks)
joined_xors n [] [] h = refl
joined_xors n [] (k ∷ ks) h = absurd (omega arith)
joined_xors n (w ∷ ws) [] h = absurd (omega arith)
joined_xors n (w ∷ ws) (k ∷ ks) h =
    let r = joined_xors n ws ks (omega arith) in
    let x = octets_xor n w k in
    let p = xors_append (octets n w) (octets n k) (flat_map (octets n) ws) (flat_map (octets n) ks) (length-octets n w ∙ sym (length-octets n k)) in
    cc
