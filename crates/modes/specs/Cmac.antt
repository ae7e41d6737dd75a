-- CMAC over a cipher of 16-octet blocks. Assumes nothing.
use Rattle.std.specs.Prelude.{ℕ, zero, suc, ◌-◌, ◌*◌, ◌/◌, ◌^◌, cond, List, ◌∷◌, ◌++◌, length, take, drop, replicate, ◌==◌, bit_xor, nat_lt}
use Rattle.std.specs.Int.Digits.{number_from_digits}
use Rattle.octets.specs.Octets.{octets}
use Rattle.aes.specs.Cipher.{xors}

-- sixteen octets 00
abbrev pub zeros : List ℕ
zeros = replicate 16 0

-- a number of 128 bits moved up by one bit; for the bit that falls out at the top, 87 is added at the bottom
abbrev pub twice : ℕ → ℕ
twice n = cond (nat_lt n (2 ^ 127)) (n * 2) (bit_xor (n * 2 - 2 ^ 128) 0x87)

-- the same of a block, as the number that it writes
unfoldable pub doubled : List ℕ → List ℕ
doubled block = octets 16 (twice (number_from_digits 256 block))

-- the two subkeys
abbrev pub subkey1 : (List ℕ → List ℕ) → List ℕ
subkey1 ciph = doubled (ciph zeros)

abbrev pub subkey2 : (List ℕ → List ℕ) → List ℕ
subkey2 ciph = doubled (subkey1 ciph)

-- what is left of a message, filled up with 80 and zeros
abbrev pub filled : List ℕ → List ℕ
filled rest = rest ++ (0x80 ∷ replicate (15 - length rest) 0)

-- the last block: a whole one with the first subkey, any other filled up, with the second
abbrev pub last_block : (List ℕ → List ℕ) → List ℕ → List ℕ
last_block ciph rest = cond (length rest == 16) (xors rest (subkey1 ciph)) (xors (filled rest) (subkey2 ciph))

-- the chain after the first i blocks
unfoldable pub chained : (List ℕ → List ℕ) → List ℕ → ℕ → List ℕ
chained ciph m zero = zeros
chained ciph m (suc i) = ciph (xors (chained ciph m i) (take 16 (drop (16 * i) m)))

-- how many blocks stand before the last
abbrev pub blocks_before : ℕ → ℕ
blocks_before len = (len - 1) / 16

-- the tag of a message, sixteen octets
unfoldable pub cmac_of : (List ℕ → List ℕ) → List ℕ → List ℕ
cmac_of ciph m = ciph (xors (chained ciph m (blocks_before (length m))) (last_block ciph (drop (16 * blocks_before (length m)) m)))
