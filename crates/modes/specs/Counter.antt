-- Counter mode over a cipher of 16-octet blocks. Assumes nothing.
use Rattle.std.specs.Prelude.{ℕ, ◌/◌, ◌%◌, List, ◌++◌, slice_index}
use Rattle.octets.specs.Octets.{octets}

-- counter block i: eight octets of a start, then i on eight octets
unfoldable pub counter_block : ℕ → ℕ → List ℕ
counter_block start i = octets 8 start ++ octets 8 i

-- the octet of the keystream at a place: the counter blocks are enciphered one after the other
unfoldable pub counter_stream : (List ℕ → List ℕ) → ℕ → ℕ → ℕ
counter_stream ciph start place = slice_index (ciph (counter_block start (place / 16))) (place % 16)
