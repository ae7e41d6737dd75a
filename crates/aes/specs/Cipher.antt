-- AES-128: keys and blocks are lists of 16 octets, words lists of 4. Assumes nothing.
use Rattle.std.specs.Prelude.{ℕ, zero, suc, ◌+◌, ◌-◌, ◌*◌, ◌/◌, ◌%◌, cond, List, [], ◌∷◌, ◌++◌, map, take, drop, ◌==◌, bit_xor, slice_index, slice_index_or}
use Rattle.std.specs.List.{range_with_len, flat_map}
use Rattle.aes.specs.Field.{xtime, product, sbox}

-- exclusive or of two lists, octet by octet
abbrev pub xors : List ℕ → List ℕ → List ℕ
xors [] ys = []
xors (x ∷ xs) [] = []
xors (x ∷ xs) (y ∷ ys) = bit_xor x y ∷ xors xs ys

-- A state has its 16 octets column after column, and so has a key its words: this is column c.
abbrev pub column : List ℕ → ℕ → List ℕ
column state c = take 4 (drop (4 * c) state)

unfoldable pub sub_bytes : List ℕ → List ℕ
sub_bytes state = map sbox state

-- the octet in row r of column c comes from r columns to the right, and round
abbrev pub shifted : List ℕ → ℕ → ℕ → ℕ
shifted state r c = slice_index (column state ((c + r) % 4)) r

unfoldable pub shift_rows : List ℕ → List ℕ
shift_rows state = map (λ i. shifted state (i % 4) (i / 4)) (range_with_len 0 16)

-- the factor of row k in row r of a mixed column: 02 03 01 01 in row 0, and each row one place further to the right
abbrev pub factor : ℕ → ℕ → ℕ
factor r k = slice_index (2 ∷ 3 ∷ 1 ∷ 1 ∷ []) ((k + 4 - r) % 4)

-- what an octet in row k adds to each row of its mixed column
abbrev pub addends : ℕ → ℕ → List ℕ
addends k x = map (λ r. product (factor r k) x) (range_with_len 0 4)

-- the sum of what the octets of a column add
unfoldable pub mix_column : List ℕ → List ℕ
mix_column word =
    xors (xors (xors (addends 0 (slice_index word 0)) (addends 1 (slice_index word 1))) (addends 2 (slice_index word 2))) (addends 3 (slice_index word 3))

unfoldable pub mix_columns : List ℕ → List ℕ
mix_columns state = flat_map (λ c. mix_column (column state c)) (range_with_len 0 4)

unfoldable pub add_round_key : List ℕ → List ℕ → List ℕ
add_round_key state key = xors state key

-- the key of round r, from the words of an expanded key
abbrev pub round_key : List (List ℕ) → ℕ → List ℕ
round_key words r = flat_map (λ j. slice_index_or words (4 * r + j) []) (range_with_len 0 4)

-- a state after n rounds, of which the first takes the key of round 1
unfoldable pub rounds : List (List ℕ) → List ℕ → ℕ → List ℕ
rounds words state zero = state
rounds words state (suc n) = add_round_key (mix_columns (shift_rows (sub_bytes (rounds words state n)))) (round_key words (suc n))

-- the key of round 0 is added, nine rounds follow, and the tenth mixes no columns
unfoldable pub cipher : List (List ℕ) → List ℕ → List ℕ
cipher words block =
    add_round_key (shift_rows (sub_bytes (rounds words (add_round_key block (round_key words 0)) 9))) (round_key words 10)

unfoldable pub rot_word : List ℕ → List ℕ
rot_word word = drop 1 word ++ take 1 word

unfoldable pub sub_word : List ℕ → List ℕ
sub_word word = map sbox word

-- x to the power i
unfoldable pub rcon : ℕ → ℕ
rcon zero = 1
rcon (suc i) = xtime (rcon i)

-- what is added to word i of an expanded key for word i + 4, where word i + 3 is given
abbrev pub added : ℕ → List ℕ → List ℕ
added i word = cond (i % 4 == 0) (xors (sub_word (rot_word word)) (rcon (i / 4) ∷ 0 ∷ 0 ∷ 0 ∷ [])) word

-- word i of an expanded key: the first four are the key's own
unfoldable pub key_word : List ℕ → ℕ → List ℕ
key_word key zero = column key 0
key_word key (suc zero) = column key 1
key_word key (suc (suc zero)) = column key 2
key_word key (suc (suc (suc zero))) = column key 3
key_word key (suc (suc (suc (suc i)))) = xors (key_word key i) (added i (key_word key (suc (suc (suc i)))))

unfoldable pub key_expansion : List ℕ → List (List ℕ)
key_expansion key = map (key_word key) (range_with_len 0 44)

-- a block enciphered under a key
abbrev pub aes : List ℕ → List ℕ → List ℕ
aes key block = cipher (key_expansion key) block
