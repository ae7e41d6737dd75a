-- The field of 256 elements and the S-box. An octet is a polynomial over {0, 1}, its bit k the coefficient of x^k; a sum is
-- an exclusive or, and a product is taken modulo x^8 + x^4 + x^3 + x + 1. Assumes nothing.
use Rattle.std.specs.Prelude.{ℕ, zero, suc, ◌+◌, ◌*◌, ◌/◌, ◌%◌, ◌^◌, cond, map, reverse, ◌==◌, bit_xor, nat_lt}
use Rattle.std.specs.List.{range_with_len}
use Rattle.std.specs.Int.Digits.{number_from_digits}

-- x times a
unfoldable pub xtime : ℕ → ℕ
xtime a = cond (nat_lt a 128) (2 * a) (bit_xor (2 * a) 0x11b)

-- a times the n lowest terms of b
unfoldable pub product_by : ℕ → ℕ → ℕ → ℕ
product_by zero a b = 0
product_by (suc n) a b = bit_xor (cond (b % 2 == 1) a 0) (product_by n (xtime a) (b / 2))

unfoldable pub product : ℕ → ℕ → ℕ
product a b = product_by 8 a b

-- a to the power 2 ^ n - 1
unfoldable pub power : ℕ → ℕ → ℕ
power zero a = 1
power (suc n) a = product (product (power n a) (power n a)) a

-- the multiplicative inverse, a to the power 254; that of 0 is 0
unfoldable pub inverse : ℕ → ℕ
inverse a = product (power 7 a) (power 7 a)

-- bit i of an octet, where bit 8 is bit 0 again
abbrev pub bit : ℕ → ℕ → ℕ
bit b i = b / 2 ^ (i % 8) % 2

-- bit i of what the affine map makes of b
unfoldable pub affine_bit : ℕ → ℕ → ℕ
affine_bit b i = (bit b i + bit b (i + 4) + bit b (i + 5) + bit b (i + 6) + bit b (i + 7) + bit 0x63 i) % 2

unfoldable pub affine : ℕ → ℕ
affine b = number_from_digits 2 (reverse (map (affine_bit b) (range_with_len 0 8)))

unfoldable pub sbox : ℕ → ℕ
sbox a = affine (inverse a)
