-- The outcome of a line of a script, and the line that tells it. Assumes nothing.
use Rattle.std.specs.Prelude.{ℕ, List, ◌++◌, codes, decimal}
use Rattle.refusal.specs.Refusals.{number_of, layer_name}
use Rattle.refusal.specs.declared.Fault.{Fault}
use Rattle.wire.specs.declared.parties.Plane.{Plane}
use Rattle.wire.specs.Parties.{plane_name}
use Rattle.wire.specs.Hex.{hex_of}
use Rattle.transcript.specs.declared.answer.Answer.{Answer}
use Rattle.transcript.specs.declared.answer.Answer.TheVariants.{Bad, Done, Ignored, Sealed, Heard, Counted, Refused}
use Rattle.transcript.specs.declared.answer.Counts.{Counts}
use Rattle.transcript.specs.declared.answer.Message.{Message}

-- an accepted message: its Session ID and its content are octets
pub record HeardMessage : Type 0 where
  pub id : List ℕ
  pub plane : Plane
  pub key : ℕ
  pub counter : ℕ
  pub content : List ℕ

pub data Outcome : Type 0 where
  bad : Outcome
  done : Outcome
  ignored : Outcome
  sealed : List ℕ → Outcome
  heard : HeardMessage → Outcome
  counted : Counts → Counts → Outcome
  refused : Fault → Outcome

abbrev pub message_of : Message → HeardMessage
message_of m = record { id = m.id.now; plane = m.plane; key = m.key; counter = m.counter; content = m.content.now }

-- the outcome that an answer tells
abbrev pub outcome_of : Answer → Outcome
outcome_of Bad = bad
outcome_of Done = done
outcome_of Ignored = ignored
outcome_of (Sealed message) = sealed message.now
outcome_of (Heard m) = heard (message_of m)
outcome_of (Counted control user) = counted control user
outcome_of (Refused fault) = refused fault

-- sealed, accepted and missed
abbrev pub counts_text : Counts → List ℕ
counts_text c = decimal c.sealed ++ (codes "," ++ (decimal c.accepted ++ (codes "," ++ decimal c.missed)))

abbrev pub heard_text : HeardMessage → List ℕ
heard_text m =
    hex_of m.id ++ (codes "," ++ (plane_name m.plane ++ (codes "," ++ (decimal m.key ++ (codes "," ++ (decimal m.counter
    ++ (codes "," ++ hex_of m.content)))))))

-- what stands behind the line's number
abbrev pub text_of : Outcome → List ℕ
text_of bad = codes "bad"
text_of done = codes "ok"
text_of ignored = codes "ignored"
text_of (sealed message) = codes "ok," ++ hex_of message
text_of (heard m) = codes "ok," ++ heard_text m
text_of (counted control user) = codes "ok," ++ (counts_text control ++ (codes "," ++ counts_text user))
text_of (refused fault) =
    codes "no," ++ (decimal (number_of fault.refusal) ++ (codes "," ++ (layer_name fault.layer ++ (codes "," ++ decimal fault.place))))

-- a line: its number, its outcome and a newline
abbrev pub line_of : ℕ → Outcome → List ℕ
line_of number o = decimal number ++ (codes "," ++ (text_of o ++ codes "\n"))
