-- Hear: what is answered to octets that arrive, what the buffer holds then, and what sessions there are. Assumes nothing.
use Rattle.std.specs.Prelude.{◌≡◌, ℕ, List, Some, Ok, Err, Result}
use Rattle.refusal.specs.declared.Fault.{Fault}
use Rattle.refusal.specs.Tests.{and_then}
use Rattle.wire.specs.declared.id.SessionId.{SessionId}
use Rattle.wire.specs.Fronts.{front_read, Within}
use Rattle.wire.specs.Parties.{other_role}
use Rattle.framing.specs.declared.format.Protection.{Protection}
use Rattle.framing.specs.Formats.{inputs_of}
use Rattle.message.specs.declared.open.Opened.{Opened}
use Rattle.message.specs.Opens.{cleared, body_answer}
use Rattle.session.specs.declared.session.Session.{Session}
use Rattle.session.specs.Sessions.{protection_by, admission, accepted}
use Rattle.store.specs.Stores.{Pairs, lookup}
use Rattle.endpoint.specs.declared.message_calls.Judged.{Judged}
use Rattle.endpoint.specs.declared.order.Heard.{Heard}
use Rattle.endpoint.specs.Ends.{EndMeaning, EndView, viewed, with_pairs, found, put_back}
use Rattle.endpoint.specs.Orders.{heard_of}

-- 1 to 9, of the front: the session that it names, and the key
abbrev pub judged : EndView → List ℕ → Result Judged Fault
judged v m =
    and_then (front_read m) (λ f.
    and_then (found v.look f.header.id f.from) (λ s.
    and_then (admission s f.header.plane f.header.key f.header.counter) (λ k.
    Ok (record { front = f; session = s; key = k }))))

-- the other end sealed it, under the key that it names
abbrev pub received_under : Judged → Protection
received_under j = protection_by j.session.settings (other_role j.session.settings.role) j.key.keyset

abbrev pub accepted_in : Judged → Session
accepted_in j = accepted j.session j.front.header.plane j.key.id j.front.header.counter

-- 1 to 12
abbrev pub hearing : EndView → List ℕ → Result (Judged × Opened) Fault
hearing v m =
    and_then (judged v m) (λ j.
    and_then (body_answer v.keystream v.tag (received_under j) j.front m) (λ o.
    Ok (j, o)))

-- the octets that arrived, or the clear ones of a message that is accepted
abbrev pub clear_for : EndView → Result (Judged × Opened) Fault → List ℕ → List ℕ
clear_for v (Ok h) m = cleared (v.keystream h.0.key.keyset (inputs_of (received_under h.0) h.0.front.header)) h.0.front.to m
clear_for v (Err x) m = m

abbrev pub hear_buffer : EndView → List ℕ → List ℕ
hear_buffer v m = clear_for v (hearing v m) m

abbrev pub hear_answer : EndView → List ℕ → Result Heard Fault
hear_answer v m = and_then (hearing v m) (λ h. Ok (heard_of h.1 (hear_buffer v m)))

-- the session that the message was accepted in
abbrev pub accepted_of : Result (Judged × Opened) Fault → Result (SessionId × Session) Fault
accepted_of r = and_then r (λ h. Ok (h.0.front.header.id, accepted_in h.0))

abbrev pub hear_end : EndMeaning → List ℕ → EndMeaning
hear_end e m = with_pairs e (put_back (accepted_of (hearing (viewed e) m)) e.pairs)

-- the front lies in the message, and the session is the one in the store
pub record Stands (l : Pairs) (n : ℕ) (j : Judged) : Type 0 where
  pub within : Within j.front n
  pub there : lookup l j.front.header.id ≡ Some j.session
