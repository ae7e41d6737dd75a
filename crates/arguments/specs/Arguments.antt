-- What a caller may hand over. Assumes nothing.
use Rattle.std.specs.Prelude.{ℕ, not, ◌&&◌, List, length, is_some, Ok, Result, ◌==◌, nat_le, slice_index}
use Rattle.std.specs.Option.{ok_or}
use Rattle.refusal.specs.declared.Fault.{Fault}
use Rattle.refusal.specs.declared.Refusal.TheVariants.{OutOfRange}
use Rattle.refusal.specs.Refusals.{fault_at}
use Rattle.refusal.specs.Tests.{need, and_then}
use Rattle.wire.specs.declared.id.SessionId.{SessionId}
use Rattle.wire.specs.declared.parties.Plane.{Plane}
use Rattle.wire.specs.declared.parties.Plane.TheVariants.{Control, User}
use Rattle.wire.specs.declared.parties.Role.{Role}
use Rattle.wire.specs.Ids.{id_given}
use Rattle.framing.specs.Formats.{tag_octets, tag_length_of, data_length_of}
use Rattle.keys.specs.declared.id.KeyId.{KeyId}
use Rattle.keys.specs.Ids.{key_of}
use Rattle.commands.specs.Commands.{command_of}
use Rattle.session.specs.declared.session.Settings.{Settings}
use Rattle.session.specs.Counting.{last_counter}
use Rattle.arguments.specs.declared.RawSettings.{RawSettings}

abbrev pub out_of_range : Fault
out_of_range = fault_at OutOfRange 0

-- octets that are a Session ID
abbrev pub id_asked : List ℕ → Result SessionId Fault
id_asked octets = ok_or (id_given octets) out_of_range

-- 1 to 7
abbrev pub key_asked : ℕ → Result KeyId Fault
key_asked n = ok_or (key_of n) out_of_range

-- M is 4, 8, 12 or 16 and at most T, D is 1 or 2, and the leap is 1 to the last counter
abbrev pub settings_asked : Role → ℕ → RawSettings → Result Settings Fault
settings_asked role most raw =
    and_then (ok_or (tag_length_of raw.tag) out_of_range) (λ tag.
    and_then (ok_or (data_length_of raw.length) out_of_range) (λ length.
    need (nat_le (tag_octets tag) most && (nat_le 1 raw.leap && nat_le raw.leap last_counter)) out_of_range
    (Ok (record { role = role; format = record { tag = tag; length = length }; leap = raw.leap }))))

-- a control message begins with a command of the list
abbrev pub content_asked : Plane → List ℕ → Result (Unit {0}) Fault
content_asked Control octets = need (not (length octets == 0) && is_some (command_of (slice_index octets 0))) out_of_range (Ok tt)
content_asked User octets = Ok tt
