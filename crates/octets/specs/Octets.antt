-- Numbers in octets. Assumes nothing.
use Rattle.std.specs.Prelude.{ℕ, zero, suc, ◌*◌, ◌/◌, ◌%◌, ◌^◌, ◌<◌, ◌≤◌, cond, List, [], ◌∷◌, ◌++◌, nat_lt}

-- the octets of the widest number that is read or written, one on 32 bits
abbrev pub widest : ℕ
widest = 4

-- the last n octets of a number, the most significant first
abbrev pub octets : ℕ → ℕ → List ℕ
octets zero c = []
octets (suc n) c = octets n (c / 256) ++ (c % 256 ∷ [])

-- n octets hold c, n is at least one, and no smaller such number of octets holds c
pub record Fewest (c n : ℕ) : Type 0 where
  pub some : 1 ≤ n
  pub holds : c < 2 ^ (8 * n)
  pub least : (k : ℕ) → 1 ≤ k → c < 2 ^ (8 * k) → n ≤ k

-- the fewest octets of a number on 32 bits
abbrev pub width_of : ℕ → ℕ
width_of c = cond (nat_lt c (2 ^ 8)) 1 (cond (nat_lt c (2 ^ 16)) 2 (cond (nat_lt c (2 ^ 24)) 3 4))
