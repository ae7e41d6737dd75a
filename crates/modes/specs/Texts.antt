-- A text in two parts, which is read block by block. Assumes nothing.
use Rattle.std.specs.Prelude.{ℕ, ◌+◌, cond, List, ◌++◌, map, length, ◌==◌, nat_lt, slice_index}
use Rattle.std.specs.List.{range_with_len}
use Rattle.modes.specs.declared.cmac.Text.{Text}

-- the octets of a text
abbrev pub text_of : Text → List ℕ
text_of t = t.head.now ++ t.message.now

-- the octet at a place; behind the end of the text stand 80 and zeros
abbrev pub octet_at : List ℕ → ℕ → ℕ
octet_at text place = cond (nat_lt place (length text)) (slice_index text place) (cond (place == length text) 0x80 0)

-- n of these octets, from a place on
abbrev pub octets_from : List ℕ → ℕ → ℕ → List ℕ
octets_from text start n = map (λ i. octet_at text (start + i)) (range_with_len 0 n)
