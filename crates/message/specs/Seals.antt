-- Sealing. Assumes nothing.
use Rattle.std.specs.Prelude.{ℕ, Bool, true, ◌&&◌, List, ◌++◌, length, drop, Ok, Err, Result, nat_le}
use Rattle.refusal.specs.declared.Fault.{Fault}
use Rattle.refusal.specs.declared.Refusal.TheVariants.{OutOfRange}
use Rattle.refusal.specs.Refusals.{fault_at}
use Rattle.refusal.specs.Tests.{need, and_then}
use Rattle.wire.specs.declared.parties.Plane.{Plane}
use Rattle.wire.specs.declared.parties.Plane.TheVariants.{Control, User}
use Rattle.wire.specs.declared.front.Header.{Header}
use Rattle.wire.specs.Fronts.{counter_octets}
use Rattle.wire.specs.Ids.{id_octets, is_id}
use Rattle.framing.specs.declared.format.Format.{Format}
use Rattle.framing.specs.declared.format.Protection.{Protection}
use Rattle.framing.specs.Formats.{tag_octets}
use Rattle.framing.specs.Layouts.{planned}
use Rattle.message.specs.Messages.{Keystream, Tag, message}

-- a control message has a command
abbrev pub has_content : Plane → ℕ → Bool
has_content Control n = nat_le 1 n
has_content User n = true

-- a tag of T octets has M octets, the Key ID is 1 to 7, the Session ID is one, and a control message has a command
abbrev pub in_range : ℕ → Format → Header → ℕ → Bool
in_range t f h n = nat_le (tag_octets f.tag) t && (nat_le 1 h.key && (nat_le h.key 7 && (is_id (id_octets h.id) && has_content h.plane n)))

-- the length of the sealed message, for a suite whose tags have T octets
abbrev pub seal_answer : ℕ → Protection → Header → ℕ → ℕ → Result ℕ Fault
seal_answer t p h n room = need (in_range t p.format h n) (fault_at OutOfRange 0) (and_then (planned p.format h n room) (λ w. Ok w.end))

-- a message over the front of a buffer, unless it was refused
abbrev pub over : Result ℕ Fault → List ℕ → List ℕ → List ℕ
over (Ok n) m old = m ++ drop n old
over (Err e) m old = old

-- the buffer afterwards
abbrev pub seal_buffer : Keystream → Tag → ℕ → Protection → Header → List ℕ → List ℕ → List ℕ
seal_buffer stream tag t p h content out =
    over (seal_answer t p h (length content) (length out)) (message stream tag p h (counter_octets h.counter) content) out
