-- The bench suite; all sums are modulo 256. Assumes nothing.
use Rattle.std.specs.Prelude.{ℕ, ◌+◌, ◌-◌, ◌*◌, ◌/◌, ◌%◌, ◌^◌, cond, List, [], ◌∷◌, map, length, ◌==◌, nat_lt}
use Rattle.std.specs.List.{range_with_len}
use Rattle.suite.specs.declared.Keyset.{Keyset}
use Rattle.suite.specs.declared.Inputs.{Inputs}

-- the octets of a tag
abbrev pub bench_size : ℕ
bench_size = 16

-- the octet at a place, 0 to 15, of a key in two halves of 8 octets, the most significant first
abbrev pub key_octet : ℕ → ℕ → ℕ → ℕ
key_octet first second place = cond (nat_lt place 8) first second / 2 ^ (8 * (7 - place % 8)) % 256

-- a key's octet, the count, the bearer, the direction and one number more
abbrev pub summed : ℕ → Inputs → ℕ → ℕ
summed key inputs more = (key + inputs.count + inputs.bearer + inputs.direction + more) % 256

-- keystream octet i: encryption key octet i mod 16, the inputs, and i
abbrev pub bench_keystream : Keyset → Inputs → ℕ → ℕ
bench_keystream k inputs i = summed (key_octet k.encryption0 k.encryption1 (i % 16)) inputs i

-- the sum of every sixteenth octet, those of column j, where the first octet is in column i mod 16
abbrev pub column : ℕ → ℕ → List ℕ → ℕ
column j i [] = 0
column j i (x ∷ xs) = cond (i % 16 == j) x 0 + column j (i + 1) xs

-- tag octet j: integrity key octet j, the inputs, and the message's length with its column j
abbrev pub tag_octet : Keyset → Inputs → List ℕ → ℕ → ℕ
tag_octet k inputs m j = summed (key_octet k.integrity0 k.integrity1 j) inputs (length m + column j 0 m)

abbrev pub bench_tag : Keyset → Inputs → List ℕ → List ℕ
bench_tag k inputs m = map (tag_octet k inputs m) (range_with_len 0 bench_size)
