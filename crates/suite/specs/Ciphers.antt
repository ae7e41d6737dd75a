-- What enciphering does to octets, and how a tag is handed over. Assumes nothing.
use Rattle.std.specs.Prelude.{ℕ, ◌+◌, ◌-◌, List, [], ◌∷◌, ◌++◌, length, replicate, bit_xor}

-- the octets of the longest tag
abbrev pub longest_tag : ℕ
longest_tag = 16

-- exclusive or of each octet with that of a keystream at its place, the first being at place i
abbrev pub enciphered : (ℕ → ℕ) → ℕ → List ℕ → List ℕ
enciphered stream i [] = []
enciphered stream i (x ∷ xs) = bit_xor x (stream i) ∷ enciphered stream (i + 1) xs

-- a tag with zeros behind it, as long as the longest
abbrev pub padded : List ℕ → List ℕ
padded tag = tag ++ replicate (longest_tag - length tag) 0
