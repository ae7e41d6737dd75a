-- A whole script: what a logger and a service answer to it, line by line. Assumes nothing.
use Rattle.std.specs.Prelude.{◌≡◌, ℕ, ◌+◌, List, [], ◌∷◌, ◌++◌, Some, None, Option}
use Rattle.wire.specs.declared.parties.Role.{Role}
use Rattle.wire.specs.declared.parties.Role.TheVariants as role
use Rattle.bench_suite.specs.Sums.{bench_keystream, bench_tag}
use Rattle.store.specs.Stores.{lookup}
use Rattle.store.specs.StoreLaws.{Kept}
use Rattle.endpoint.specs.Ends.{EndMeaning, EndView, viewed}
use Rattle.script.specs.declared.words.Side.{Side}
use Rattle.script.specs.declared.words.Side.TheVariants.{Logger, Service}
use Rattle.script.specs.Asked.{AskedLine}
use Rattle.script.specs.Pieces.{lines_of}
use Rattle.script.specs.Requests.{line_read}
use Rattle.transcript.specs.Outcomes.{Outcome, bad, line_of}
use Rattle.bench_run.specs.Requests.{outcome_on, view_after}

pub record Two : Type 0 where
  pub logger : EndView
  pub service : EndView

-- what is found at two ends
abbrev pub both : EndMeaning → EndMeaning → Two
both logger service = record { logger = viewed logger; service = viewed service }

-- a new end with the bench suite, and room for so many sessions
abbrev pub new_end : Role → ℕ → EndView
new_end r room = record { role = r; look = lookup []; count = 0; room = room; keystream = bench_keystream; tag = bench_tag; size = 16 }

-- the logger has one place, the service four
abbrev pub new_ends : Two
new_ends = record { logger = new_end role.Logger 1; service = new_end role.Service 4 }

abbrev pub end_of : Two → Side → EndView
end_of t Logger = t.logger
end_of t Service = t.service

abbrev pub with_end : Two → Side → EndView → Two
with_end t Logger v = record { logger = v; service = t.service }
with_end t Service v = record { logger = t.logger; service = v }

-- a line that is none is bad, and changes nothing
abbrev pub outcome_for : Two → Option AskedLine → Outcome
outcome_for t None = bad
outcome_for t (Some l) = outcome_on (end_of t l.side) l.request

abbrev pub after_line : Two → Option AskedLine → Two
after_line t None = t
after_line t (Some l) = with_end t l.side (view_after (end_of t l.side) l.request)

-- the two ends keep the rules, and what is found there is as defined
pub record BothGo (logger service : EndMeaning) (t : Two) : Type 0 where
  pub found : both logger service ≡ t
  pub logger_kept : Kept logger.pairs
  pub service_kept : Kept service.pairs

abbrev pub BothGoOn : EndMeaning → EndMeaning → EndMeaning → EndMeaning → Option AskedLine → Type 0
BothGoOn u h u_after h_after l = Kept u.pairs → Kept h.pairs → BothGo u_after h_after (after_line (both u h) l)

-- a line of the transcript for each line of the script, n lines having gone by
abbrev pub answers_to : Two → ℕ → List (List ℕ) → List ℕ
answers_to t n [] = []
answers_to t n (line ∷ lines) = line_of (n + 1) (outcome_for t (line_read line)) ++ answers_to (after_line t (line_read line)) (n + 1) lines

abbrev pub transcript_of : List ℕ → List ℕ
transcript_of input = answers_to new_ends 0 (lines_of input)
