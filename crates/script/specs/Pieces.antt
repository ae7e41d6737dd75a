-- A text in pieces: the lines of a script and the fields of a line. Assumes nothing.
use Rattle.std.specs.Prelude.{ℕ, List, [], ◌∷◌, ◌==◌}
use Rattle.std.specs.List.{slice_split}

-- what stands between the marks of a text; a text with no mark is one piece
abbrev pub pieces_by : ℕ → List ℕ → List (List ℕ)
pieces_by mark text = slice_split (λ x. x == mark) text

-- the fields of a line stand between commas
abbrev pub fields_of : List ℕ → List (List ℕ)
fields_of line = pieces_by 44 line

-- an empty last piece is no line
abbrev pub line_or_none : List ℕ → List (List ℕ)
line_or_none [] = []
line_or_none (x ∷ piece) = (x ∷ piece) ∷ []

abbrev pub without_empty_last : List (List ℕ) → List (List ℕ)
without_empty_last [] = []
without_empty_last (piece ∷ []) = line_or_none piece
without_empty_last (piece ∷ next ∷ pieces) = piece ∷ without_empty_last (next ∷ pieces)

-- the lines of a script stand between newlines, and behind the last newline there is a line only if it is not empty
abbrev pub lines_of : List ℕ → List (List ℕ)
lines_of input = without_empty_last (pieces_by 10 input)
