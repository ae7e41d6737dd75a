-- What the words of the code stand for. Assumes nothing.
use Rattle.std.specs.Prelude.{ℕ, List, [], ◌∷◌, ◌++◌, map, slice_index}
use Rattle.std.specs.List.{flat_map}
use Rattle.octets.specs.Octets.{octets}
use Rattle.aes.specs.declared.Block.{Block}
use Rattle.aes.specs.declared.Schedule.{Schedule}

-- the four words of a block
abbrev pub words : Block → List ℕ
words block = block.a ∷ block.b ∷ block.c ∷ block.d ∷ []

-- the 16 octets of a block
unfoldable pub block_octets : Block → List ℕ
block_octets block = flat_map (octets 4) (words block)

-- row 0 of the first word, row 1 of the second, and so on
abbrev pub diagonal : ℕ → ℕ → ℕ → ℕ → List ℕ
diagonal a b c d = slice_index (octets 4 a) 0 ∷ slice_index (octets 4 b) 1 ∷ slice_index (octets 4 c) 2 ∷ slice_index (octets 4 d) 3 ∷ []

-- the 16 octets of a key in two halves
unfoldable pub key_octets : ℕ → ℕ → List ℕ
key_octets first second = octets 8 first ++ octets 8 second

-- the words of a schedule, each as four octets, key after key
unfoldable pub words_of : Schedule → List (List ℕ)
words_of schedule = flat_map (λ key. map (octets 4) (words key)) schedule.keys
