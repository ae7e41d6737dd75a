-- The words of a line, each spelled in one way. Assumes nothing.
use Rattle.std.specs.Prelude.{ℕ, cond, List, Some, None, codes, Option}
use Rattle.std.specs.Str.{bytes_eq}
use Rattle.script.specs.declared.words.Side.{Side}
use Rattle.script.specs.declared.words.Side.TheVariants.{Logger, Service}
use Rattle.script.specs.declared.words.Verb.{Verb}
use Rattle.script.specs.declared.words.Verb.TheVariants.{Begin, Give, Choose, Drop, Data, Command, Report, End, Hear}

abbrev pub side_of : List ℕ → Option Side
side_of word = cond (bytes_eq word (codes "U")) (Some Logger) (cond (bytes_eq word (codes "H")) (Some Service) None)

abbrev pub verb_of : List ℕ → Option Verb
verb_of word =
    cond (bytes_eq word (codes "begin")) (Some Begin)
    (cond (bytes_eq word (codes "give")) (Some Give)
    (cond (bytes_eq word (codes "choose")) (Some Choose)
    (cond (bytes_eq word (codes "drop")) (Some Drop)
    (cond (bytes_eq word (codes "data")) (Some Data)
    (cond (bytes_eq word (codes "command")) (Some Command)
    (cond (bytes_eq word (codes "report")) (Some Report)
    (cond (bytes_eq word (codes "end")) (Some End)
    (cond (bytes_eq word (codes "hear")) (Some Hear) None))))))))

-- how many fields a line with a verb has
abbrev pub field_count : Verb → ℕ
field_count Begin = 9
field_count Give = 6
field_count Choose = 4
field_count Drop = 4
field_count Data = 4
field_count Command = 4
field_count Report = 3
field_count End = 3
field_count Hear = 3

-- no line has more than begin
abbrev pub most_fields : ℕ
most_fields = field_count Begin
