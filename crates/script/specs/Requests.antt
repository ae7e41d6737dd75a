-- How a line is read. Assumes nothing.
use Rattle.std.specs.Prelude.{ℕ, ◌+◌, cond, List, [], length, Some, None, Option, ◌==◌, nat_lt, slice_index_or}
use Rattle.script.specs.declared.words.Verb.{Verb}
use Rattle.script.specs.declared.words.Verb.TheVariants.{Begin, Give, Choose, Drop, Data, Command, Report, End, Hear}
use Rattle.script.specs.declared.request.KeyFields.{KeyFields}
use Rattle.script.specs.declared.request.BeginFields.{BeginFields}
use Rattle.script.specs.Asked.{Asked, to_begin, to_give, to_choose, to_drop, to_data, to_command, to_report, to_end, to_hear, AskedLine}
use Rattle.script.specs.Digits.{and_then, octets_read, octet_read, number_read}
use Rattle.script.specs.Pieces.{fields_of}
use Rattle.script.specs.Words.{side_of, verb_of, field_count}

-- the octets of the longest line
abbrev pub longest_line : ℕ
longest_line = 4608

-- the field that has n fields before it
abbrev pub field_at : List (List ℕ) → ℕ → List ℕ
field_at fields n = slice_index_or fields n []

-- Key ID, integrity key and encryption key, which stand in a row from the field n on
abbrev pub key_read : List (List ℕ) → ℕ → Option KeyFields
key_read fields n =
    and_then (number_read (field_at fields n)) (λ key.
    and_then (octet_read (field_at fields (n + 1))) (λ integrity.
    and_then (octet_read (field_at fields (n + 2))) (λ encryption.
    Some (record { key = key; integrity = integrity; encryption = encryption }))))

-- M, D, leap and the first key
abbrev pub begin_read : List (List ℕ) → Option BeginFields
begin_read fields =
    and_then (number_read (field_at fields 3)) (λ tag.
    and_then (number_read (field_at fields 4)) (λ data_length.
    and_then (number_read (field_at fields 5)) (λ leap.
    and_then (key_read fields 6) (λ key.
    Some (record { tag = tag; length = data_length; leap = leap; key = key })))))

-- what a verb takes behind its first octets, which are the Session ID, and of hear the message
abbrev pub request_with : Verb → List ℕ → List (List ℕ) → Option Asked
request_with Begin id fields = and_then (begin_read fields) (λ begin. Some (to_begin id begin))
request_with Give id fields = and_then (key_read fields 3) (λ key. Some (to_give id key))
request_with Choose id fields = and_then (number_read (field_at fields 3)) (λ key. Some (to_choose id key))
request_with Drop id fields = and_then (number_read (field_at fields 3)) (λ key. Some (to_drop id key))
request_with Data id fields = and_then (octets_read (field_at fields 3)) (λ content. Some (to_data id content))
request_with Command id fields = and_then (octets_read (field_at fields 3)) (λ content. Some (to_command id content))
request_with Report id fields = Some (to_report id)
request_with End id fields = Some (to_end id)
request_with Hear message fields = Some (to_hear message)

abbrev pub request_of : Verb → List (List ℕ) → Option Asked
request_of verb fields = and_then (octets_read (field_at fields 2)) (λ first. request_with verb first fields)

-- the second field is the verb, and a line has exactly as many fields as its verb says
abbrev pub request_read : List (List ℕ) → Option Asked
request_read fields =
    and_then (verb_of (field_at fields 1)) (λ verb. cond (length fields == field_count verb) (request_of verb fields) None)

-- the first field is the end
abbrev pub fields_read : List (List ℕ) → Option AskedLine
fields_read fields =
    and_then (side_of (field_at fields 0)) (λ side. and_then (request_read fields) (λ request. Some (record { side = side; request = request })))

-- the line that octets write; a line that is too long, or breaks any other rule, is none
abbrev pub line_read : List ℕ → Option AskedLine
line_read line = cond (nat_lt longest_line (length line)) None (fields_read (fields_of line))
