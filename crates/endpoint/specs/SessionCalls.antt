-- Begin, Report and End. Assumes nothing.
use Rattle.std.specs.Prelude.{◌≡◌, ℕ, not, List, is_some, Ok, Err, Result, nat_lt}
use Rattle.refusal.specs.declared.Fault.{Fault}
use Rattle.refusal.specs.declared.Refusal.TheVariants.{NoSession, SessionPresent, StoreFull}
use Rattle.refusal.specs.Refusals.{fault_at}
use Rattle.refusal.specs.Tests.{need, and_then}
use Rattle.suite.specs.declared.Keyset.{Keyset}
use Rattle.wire.specs.declared.id.SessionId.{SessionId}
use Rattle.session.specs.declared.counters.Counters.{Counters}
use Rattle.session.specs.declared.session.Session.{Session}
use Rattle.session.specs.Counting.{missed_of}
use Rattle.session.specs.Sessions.{new_session}
use Rattle.store.specs.Stores.{Pairs, without, Added}
use Rattle.arguments.specs.declared.RawSettings.{RawSettings}
use Rattle.arguments.specs.Arguments.{id_asked, key_asked, settings_asked}
use Rattle.endpoint.specs.declared.session_calls.PlaneReport.{PlaneReport}
use Rattle.endpoint.specs.declared.session_calls.Report.{Report}
use Rattle.endpoint.specs.Ends.{EndMeaning, EndView, with_pairs, found}

-- 13: the session that is to be added
abbrev pub beginning : EndView → List ℕ → RawSettings → ℕ → Keyset → Result (SessionId × Session) Fault
beginning v octets raw n x =
    and_then (id_asked octets) (λ id.
    and_then (settings_asked v.role v.size raw) (λ settings.
    and_then (key_asked n) (λ k.
    Ok (id, new_session settings k x))))

-- 14, 20
abbrev pub begin_answer : EndView → List ℕ → RawSettings → ℕ → Keyset → Result (Unit {0}) Fault
begin_answer v octets raw n x =
    and_then (beginning v octets raw n x) (λ p.
    need (not (is_some (v.look p.0))) (fault_at SessionPresent 0)
    (need (nat_lt v.count v.room) (fault_at StoreFull 0)
    (Ok tt)))

-- the sessions afterwards: the new one stands at a position of the store's own
abbrev pub Begun : Pairs → Pairs → Result (SessionId × Session) Fault → Result (Unit {0}) Fault → Type 0
Begun l after (Ok p) r = Added l after p.0 p.1 r
Begun l after (Err e) r = after ≡ l

abbrev pub plane_report : Counters → PlaneReport
plane_report c = record { sealed = c.last_sealed; accepted = c.accepted; missed = missed_of c }

-- 13, 6
abbrev pub report_answer : EndView → List ℕ → Result Report Fault
report_answer v octets =
    and_then (id_asked octets) (λ id.
    and_then (found v.look id 0) (λ s.
    Ok (record { control = plane_report s.control; user = plane_report s.user })))

-- 13, 6
abbrev pub end_answer : EndView → List ℕ → Result (Unit {0}) Fault
end_answer v octets = and_then (id_asked octets) (λ id. need (is_some (v.look id)) (fault_at NoSession 0) (Ok tt))

abbrev pub removed : Pairs → Result SessionId Fault → Pairs
removed l (Ok id) = without l id
removed l (Err e) = l

abbrev pub end_end : EndMeaning → List ℕ → EndMeaning
end_end e octets = with_pairs e (removed e.pairs (id_asked octets))
