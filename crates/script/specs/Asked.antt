-- What a line asks for, with a list of octets where the code has a vector. Assumes nothing.
use Rattle.std.specs.Prelude.{ℕ, List, vec_items}
use Rattle.script.specs.declared.words.Side.{Side}
use Rattle.script.specs.declared.request.KeyFields.{KeyFields}
use Rattle.script.specs.declared.request.BeginFields.{BeginFields}
use Rattle.script.specs.declared.request.Line.{Line}
use Rattle.script.specs.declared.request.Request.{Request}
use Rattle.script.specs.declared.request.Request.TheVariants.{Begin, Give, Choose, Drop, Data, Command, Report, End, Hear}

-- first the Session ID, then what the verb takes; hear takes only a message
pub data Asked : Type 0 where
  to_begin : List ℕ → BeginFields → Asked
  to_give : List ℕ → KeyFields → Asked
  to_choose : List ℕ → ℕ → Asked
  to_drop : List ℕ → ℕ → Asked
  to_data : List ℕ → List ℕ → Asked
  to_command : List ℕ → List ℕ → Asked
  to_report : List ℕ → Asked
  to_end : List ℕ → Asked
  to_hear : List ℕ → Asked

pub record AskedLine : Type 0 where
  pub side : Side
  pub request : Asked

abbrev pub asked : Request → Asked
asked (Begin id fields) = to_begin (vec_items id) fields
asked (Give id key) = to_give (vec_items id) key
asked (Choose id key) = to_choose (vec_items id) key
asked (Drop id key) = to_drop (vec_items id) key
asked (Data id content) = to_data (vec_items id) (vec_items content)
asked (Command id content) = to_command (vec_items id) (vec_items content)
asked (Report id) = to_report (vec_items id)
asked (End id) = to_end (vec_items id)
asked (Hear message) = to_hear (vec_items message)

abbrev pub asked_line : Line → AskedLine
asked_line line = record { side = line.side; request = asked line.request }
