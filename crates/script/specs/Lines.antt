-- The lines of a script that an iterator still gives. Assumes nothing.
use Rattle.std.specs.Prelude.{ℕ, List}
use Rattle.script.specs.declared.lines.Lines.{Lines}
use Rattle.script.specs.Pieces.{lines_of}

abbrev pub lines_left : Lines → List (List ℕ)
lines_left l = lines_of l.rest.now
