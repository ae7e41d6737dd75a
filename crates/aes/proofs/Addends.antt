-- The table of addends, from its rule. Assumes nothing.
use Rattle.std.proofs.Common.{◌≡◌, ℕ, ◌+◌, ◌-◌, ◌%◌, ◌<◌, List, [], ◌∷◌, map, length, get_or, ap, ◌∙◌, arith}
use Rattle.std.specs.List.{range_with_len}
use Rattle.std.specs.Int.Digits.{number_from_digits}
use Rattle.std.proofs.lemmas.List.FromFn.{get_or-map-range_with_len, length-map-range_with_len}
use Rattle.std.proofs.ByRecursion.{All-get_or}
use Rattle.std.proofs.lemmas.List.{get_or-map}
use Rattle.octets.specs.Octets.{octets}
use Rattle.octets.proofs.Numbers.{octets_number}
use Rattle.aes.specs.Field.{product, sbox}
use Rattle.aes.specs.Cipher.{addends, factor}
use Rattle.aes.proofs.Products.{product_lt}

-- the words of what each octet, substituted, adds in row k
unfoldable pub addend_table : ℕ → List ℕ
addend_table k = map (λ x. number_from_digits 256 (addends k x)) (map sbox (range_with_len 0 256))

product-factor_lt : (r k x : ℕ) → product (factor r k) x < 256
product-factor_lt r k x =
    product_lt (factor r k) x
    (All-get_or (λ n. n < 256) (2 ∷ 3 ∷ 1 ∷ 1 ∷ []) ((k + 4 - r) % 4) 0 (omega arith) (omega arith, (omega arith, (omega arith, (omega arith, tt)))))

octets-addends : (k x : ℕ) → octets 4 (number_from_digits 256 (addends k x)) ≡ addends k x
octets-addends k x =
    octets_number (addends k x) (product-factor_lt 0 k x, (product-factor_lt 1 k x, (product-factor_lt 2 k x, (product-factor_lt 3 k x, tt))))

pub addend_entry : (k x : ℕ) → k < 4 → x < 256 → octets 4 (get_or (get_or (map addend_table (range_with_len 0 4)) k []) x 0) ≡ addends k (sbox x)
unfolding addend_table
addend_entry k x row octet =
    let substituted : List ℕ = map sbox (range_with_len 0 256) in
    let length_is : length substituted ≡ 256 = length-map-range_with_len sbox 0 256 in
    let table = get_or-map-range_with_len addend_table 0 4 k k [] row (omega arith) in
    let word = get_or-map (λ x. number_from_digits 256 (addends k x)) substituted x 0 0 (omega arith) in
    let is = get_or-map-range_with_len sbox 0 256 x x 0 octet (omega arith) in
    ap (λ l. octets 4 (get_or l x 0)) table ∙ ap (octets 4) word ∙ ap (λ y. octets 4 (number_from_digits 256 (addends k y))) is ∙ octets-addends k (sbox x)
