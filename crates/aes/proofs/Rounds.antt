-- The steps of a round, column by column. Assumes nothing.
use Rattle.std.proofs.Common.{◌≡◌, ℕ, ◌+◌, ◌<◌, List, [], ◌∷◌, ◌++◌, map, length, get_or, sym, ap, ◌∙◌, arith, add-one}
use lib.Bits.{bit_xor}
use Rattle.std.specs.List.{flat_map}
use Rattle.std.proofs.lemmas.List.{get_or-map}
use Rattle.octets.specs.Octets.{octets}
use Rattle.aes.specs.Field.{sbox}
use Rattle.aes.specs.Cipher.{xors, sub_bytes, shift_rows, addends, mix_column, mix_columns, add_round_key, round_key, rounds}
use Rattle.aes.proofs.Xors.{octets_xor}

-- a block whose columns are known
pub block_is : (a b c d : ℕ) (k l m n : List ℕ) → octets 4 a ≡ k → octets 4 b ≡ l → octets 4 c ≡ m → octets 4 d ≡ n
    → flat_map (octets 4) (a ∷ b ∷ c ∷ d ∷ []) ≡ k ++ (l ++ (m ++ (n ++ [])))
block_is a b c d k l m n p q r s = cc

pub sum_is : (w v : ℕ) (k l : List ℕ) → octets 4 w ≡ k → octets 4 v ≡ l → octets 4 (bit_xor w v) ≡ xors k l
sum_is w v k l p q = let x = octets_xor 4 w v in cc

-- a mixed column, from what its octets add
pub mixed_is : (column : List ℕ) (p q r s : ℕ) → length column ≡ 4 → octets 4 p ≡ addends 0 (sbox (get_or column 0 0)) → octets 4 q ≡ addends 1 (sbox (get_or column 1 0))
    → octets 4 r ≡ addends 2 (sbox (get_or column 2 0)) → octets 4 s ≡ addends 3 (sbox (get_or column 3 0)) → octets 4 (bit_xor (bit_xor (bit_xor p q) r) s) ≡ mix_column (map sbox column)
unfolding mix_column
mixed_is column p q r s long a b c d =
    let at : (k : ℕ) → k < 4 → addends k (sbox (get_or column k 0)) ≡ addends k (get_or (map sbox column) k 0) =
    λ k h. ap (addends k) (sym (get_or-map sbox column k 0 0 (omega arith))) in
    sum_is _ _ _ _
    (sum_is _ _ _ _ (sum_is _ _ _ _ (a ∙ at 0 (omega arith)) (b ∙ at 1 (omega arith))) (c ∙ at 2 (omega arith)))
    (d ∙ at 3 (omega arith))

-- one round more
pub rounds_more : (words : List (List ℕ)) (first state mixed key next : List ℕ) (n : ℕ) → state ≡ rounds words first n
    → mixed ≡ mix_columns (shift_rows (sub_bytes state)) → key ≡ round_key words (n + 1) → next ≡ xors mixed key → next ≡ rounds words first (n + 1)
unfolding rounds add_round_key
rounds_more words first state mixed key next n p q r s = let o = add-one n in cc
