-- The lines of a transcript. Assumes nothing.
use Rattle.std.specs.Prelude.{◌≡◌, ℕ, ◌+◌, Bool, cond, List, [], ◌++◌}
use Rattle.transcript.specs.Outcomes.{Outcome, line_of}

-- the lines that were written, and how many they are
pub record Written : Type 0 where
  pub text : List ℕ
  pub lines : ℕ

abbrev pub nothing_written : Written
nothing_written = record { text = []; lines = 0 }

-- one line more, which tells an outcome under the next number
abbrev pub with_line : Written → Outcome → Written
with_line w o = record { text = w.text ++ line_of (w.lines + 1) o; lines = w.lines + 1 }

-- a line was appended, or nothing where there was no memory for it
abbrev pub Appended : Written → Written → Outcome → Bool → Type 0
Appended before after o ok = after ≡ cond ok (with_line before o) before
