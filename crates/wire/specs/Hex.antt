-- Octets as pairs of upper-case hexadecimal digits. Assumes nothing.
use Rattle.std.specs.Prelude.{ℕ, ◌+◌, ◌/◌, ◌%◌, cond, List, [], ◌∷◌, ◌++◌, nat_lt}

-- 0 to 9, then A to F
abbrev pub hex_digit : ℕ → ℕ
hex_digit d = cond (nat_lt d 10) (48 + d) (55 + d)

abbrev pub hex_pair : ℕ → List ℕ
hex_pair x = hex_digit (x / 16) ∷ hex_digit (x % 16) ∷ []

abbrev pub hex_of : List ℕ → List ℕ
hex_of [] = []
hex_of (x ∷ octets) = hex_pair x ++ hex_of octets
