-- Seal: the next message of a session. Assumes nothing.
use Rattle.std.specs.Prelude.{◌≡◌, ℕ, ◌<◌, ◌≤◌, List, ◌++◌, length, drop, Some, Ok, Err, Result}
use Rattle.refusal.specs.declared.Fault.{Fault}
use Rattle.refusal.specs.Tests.{and_then}
use Rattle.wire.specs.declared.id.SessionId.{SessionId}
use Rattle.wire.specs.declared.parties.Plane.{Plane}
use Rattle.wire.specs.declared.front.Header.{Header}
use Rattle.wire.specs.Fronts.{counter_octets}
use Rattle.framing.specs.declared.format.Protection.{Protection}
use Rattle.framing.specs.Layouts.{planned, Laid}
use Rattle.message.specs.Messages.{message}
use Rattle.keys.specs.Ids.{key_number}
use Rattle.session.specs.declared.session.Session.{Session}
use Rattle.session.specs.declared.session.Outgoing.{Outgoing}
use Rattle.session.specs.Sessions.{protection_by, outgoing, sealed}
use Rattle.store.specs.Stores.{Pairs, lookup}
use Rattle.arguments.specs.Arguments.{id_asked, content_asked}
use Rattle.endpoint.specs.declared.message_calls.Plan.{Plan}
use Rattle.endpoint.specs.Ends.{EndMeaning, EndView, viewed, with_pairs, found, put_back}

abbrev pub header_of : Plane → SessionId → Outgoing → Header
header_of plane id o = record { plane = plane; key = key_number o.key.id; counter = o.counter; id = id }

-- 13, 6, 15, 19, 16, 17, in this order
abbrev pub sealing : EndView → Plane → List ℕ → List ℕ → ℕ → Result Plan Fault
sealing v plane octets content room =
    and_then (id_asked octets) (λ id.
    and_then (content_asked plane content) (λ _.
    and_then (found v.look id 0) (λ s.
    and_then (outgoing s plane) (λ o.
    and_then (planned s.settings.format (header_of plane id o) (length content) room) (λ w.
    Ok (record { session = s; header = header_of plane id o; keyset = o.key.keyset; layout = w }))))))

abbrev pub sent_under : Plan → Protection
sent_under p = protection_by p.session.settings p.session.settings.role p.keyset

abbrev pub seal_answer : EndView → Plane → List ℕ → List ℕ → ℕ → Result ℕ Fault
seal_answer v plane octets content room = and_then (sealing v plane octets content room) (λ p. Ok p.layout.end)

-- the message over the front of the buffer
abbrev pub sealed_over : EndView → Result Plan Fault → List ℕ → List ℕ → List ℕ
sealed_over v (Ok p) content out = message v.keystream v.tag (sent_under p) p.header (counter_octets p.header.counter) content ++ drop p.layout.end out
sealed_over v (Err x) content out = out

abbrev pub seal_buffer : EndView → Plane → List ℕ → List ℕ → List ℕ → List ℕ
seal_buffer v plane octets content out = sealed_over v (sealing v plane octets content (length out)) content out

-- the session, and its counter sealed
abbrev pub sealed_of : Plane → Result Plan Fault → Result (SessionId × Session) Fault
sealed_of plane r = and_then r (λ p. Ok (p.header.id, sealed p.session plane p.header.counter))

abbrev pub seal_end : EndMeaning → Plane → List ℕ → List ℕ → ℕ → EndMeaning
seal_end e plane octets content room = with_pairs e (put_back (sealed_of plane (sealing (viewed e) plane octets content room)) e.pairs)

-- a plan can be written, and its session is the one in the store
pub record Writable (l : Pairs) (n room : ℕ) (p : Plan) : Type 0 where
  pub key : p.header.key < 8
  pub laid : Laid p.session.settings.format p.header n p.layout
  pub fits : p.layout.end ≤ room
  pub there : lookup l p.header.id ≡ Some p.session
