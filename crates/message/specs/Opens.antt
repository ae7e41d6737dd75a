-- Opening. Assumes nothing.
use Rattle.std.specs.Prelude.{ℕ, ◌-◌, Bool, cond, ◌||◌, List, ◌++◌, length, take, drop, Ok, Err, Result, ◌==◌, nat_le}
use Rattle.std.specs.List.{between}
use Rattle.std.specs.Int.Digits.{number_from_digits}
use Rattle.std.specs.Str.{bytes_eq}
use Rattle.std.specs.Int.Bits.{bit_or, bit_xor}
use Rattle.refusal.specs.declared.Fault.{Fault}
use Rattle.refusal.specs.declared.Refusal.TheVariants.{TagDiffers, DataLengthDiffers, OutOfRange}
use Rattle.refusal.specs.Refusals.{fault_at}
use Rattle.refusal.specs.Tests.{need, and_then}
use Rattle.suite.specs.Ciphers.{enciphered, padded}
use Rattle.wire.specs.declared.front.Header.{Header}
use Rattle.wire.specs.declared.front.Front.{Front}
use Rattle.wire.specs.Fronts.{front_read}
use Rattle.framing.specs.declared.format.Protection.{Protection}
use Rattle.framing.specs.declared.layout.Layout.{Layout}
use Rattle.message.specs.declared.open.Opened.{Opened}
use Rattle.framing.specs.Formats.{tag_octets, inputs_of}
use Rattle.framing.specs.Layouts.{located}
use Rattle.message.specs.Messages.{Keystream, Tag}

-- the bits in which octets differ, gathered
abbrev pub differing : ℕ → ℕ × ℕ → ℕ
differing seen p = bit_or seen (bit_xor p.0 p.1)

-- a message with what stands from a place on deciphered
abbrev pub cleared : (ℕ → ℕ) → ℕ → List ℕ → List ℕ
cleared stream to m = take to m ++ enciphered stream 0 (drop to m)

-- behind the content stands the front of the tag of all from the Session ID up to there
abbrev pub tag_matches : (List ℕ → List ℕ) → Layout → List ℕ → Bool
tag_matches tag w m = bytes_eq (between w.tag w.end m) (take (w.end - w.tag) (padded (tag (between w.from w.tag m))))

-- Data Length, where there is one, is the number of octets between it and the tag
abbrev pub length_matches : Layout → List ℕ → Bool
length_matches w m = w.content - w.to == 0 || number_from_digits 256 (between w.to w.content m) == w.tag - w.content

-- the two tests of a clear message
abbrev pub checked : (List ℕ → List ℕ) → Layout → List ℕ → Result (Unit {0}) Fault
checked tag w m =
    need (tag_matches tag w m) (fault_at TagDiffers w.tag)
    (need (length_matches w m) (fault_at DataLengthDiffers w.to)
    (Ok tt))

abbrev pub opened_as : Header → Layout → Opened
opened_as h w = record { header = h; place = w.content; length = w.tag - w.content }

-- the answer for a message whose front was read
abbrev pub body_answer : Keystream → Tag → Protection → Front → List ℕ → Result Opened Fault
body_answer stream tag p f m =
    and_then (located p.format f (length m)) (λ w.
    and_then (checked (tag p.keys (inputs_of p f.header)) w (cleared (stream p.keys (inputs_of p f.header)) f.to m)) (λ _.
    Ok (opened_as f.header w)))

-- the answer, for a suite whose tags have T octets
abbrev pub open_answer : Keystream → Tag → ℕ → Protection → List ℕ → Result Opened Fault
open_answer stream tag t p m =
    need (nat_le (tag_octets p.format.tag) t) (fault_at OutOfRange 0)
    (and_then (front_read m) (λ f. body_answer stream tag p f m))

-- the octets that arrived, or the clear ones if the message was accepted
abbrev pub clear_if : {X : Type 0} → Result X Fault → List ℕ → List ℕ → List ℕ
clear_if (Ok x) clear m = clear
clear_if (Err e) clear m = m

abbrev pub body_buffer : Keystream → Tag → Protection → Front → List ℕ → List ℕ
body_buffer stream tag p f m = clear_if (body_answer stream tag p f m) (cleared (stream p.keys (inputs_of p f.header)) f.to m) m

-- the buffer afterwards
abbrev pub front_buffer : Keystream → Tag → Protection → Result Front Fault → List ℕ → List ℕ
front_buffer stream tag p (Ok f) m = body_buffer stream tag p f m
front_buffer stream tag p (Err e) m = m

abbrev pub open_buffer : Keystream → Tag → ℕ → Protection → List ℕ → List ℕ
open_buffer stream tag t p m = cond (nat_le (tag_octets p.format.tag) t) (front_buffer stream tag p (front_read m) m) m
