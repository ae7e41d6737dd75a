-- One line more is answered. Assumes nothing.
use Rattle.std.proofs.Common.{◌≡◌, ℕ, ◌+◌, List, ◌∷◌, ◌++◌, Option, sym, ap, ◌∙◌}
use Rattle.std.proofs.lemmas.List.{append_assoc}
use Rattle.script.specs.Asked.{AskedLine}
use Rattle.script.specs.Requests.{line_read}
use Rattle.transcript.specs.Outcomes.{line_of}
use Rattle.transcript.specs.Lines.{Written, with_line}
use Rattle.bench_run.specs.Runs.{Two, outcome_for, after_line, answers_to}

-- what was written and what is still to be answered is the whole transcript, before a line and after it
pub line_more : (t u : Two) (before after : Written) (whole line : List ℕ) (lines rest : List (List ℕ)) (l : Option AskedLine)
    → before.text ++ answers_to t before.lines lines ≡ whole → lines ≡ line ∷ rest → l ≡ line_read line → after ≡ with_line before (outcome_for t l) → u ≡ after_line t l
    → after.text ++ answers_to u after.lines rest ≡ whole
line_more t u before after whole line lines rest l so is read written go =
    let told : after ≡ with_line before (outcome_for t (line_read line)) = written ∙ ap (λ (x : Option AskedLine). with_line before (outcome_for t x)) read in
    let went : u ≡ after_line t (line_read line) = go ∙ ap (after_line t) read in
    ap (λ (w : Written). w.text ++ answers_to u w.lines rest) told
    ∙ ap (λ (x : Two). (before.text ++ line_of (before.lines + 1) (outcome_for t (line_read line))) ++ answers_to x (before.lines + 1) rest) went
    ∙ append_assoc before.text (line_of (before.lines + 1) (outcome_for t (line_read line))) (answers_to (after_line t (line_read line)) (before.lines + 1) rest)
    ∙ ap (λ (x : List (List ℕ)). before.text ++ answers_to t before.lines x) (sym is)
    ∙ so
