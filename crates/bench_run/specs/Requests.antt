-- What a request does at an end: the outcome, and what is found there afterwards. Assumes nothing.
use Rattle.std.specs.Prelude.{◌≡◌, ℕ, ◌+◌, List, take, replicate, Ok, Err, Result}
use Rattle.std.specs.List.{between}
use Rattle.refusal.specs.declared.Fault.{Fault}
use Rattle.suite.specs.declared.Keyset.{Keyset}
use Rattle.suite.specs.Keysets as keysets
use Rattle.wire.specs.declared.parties.Plane.{Plane}
use Rattle.wire.specs.declared.parties.Plane.TheVariants.{Control, User}
use Rattle.wire.specs.Ids.{id_octets}
use Rattle.wire.specs.Limits.{longest_message}
use Rattle.arguments.specs.declared.RawSettings.{RawSettings}
use Rattle.arguments.specs.Arguments.{id_asked}
use Rattle.store.specs.StoreLaws.{Kept}
use Rattle.endpoint.specs.declared.key_calls.Effect.{Effect}
use Rattle.endpoint.specs.declared.key_calls.Effect.TheVariants as effect
use Rattle.endpoint.specs.declared.order.Heard.{Heard}
use Rattle.endpoint.specs.declared.session_calls.PlaneReport.{PlaneReport}
use Rattle.endpoint.specs.declared.session_calls.Report.{Report}
use Rattle.endpoint.specs.Ends.{EndMeaning, EndView, viewed}
use Rattle.endpoint.specs.Hearing.{hearing, accepted_of, hear_answer, hear_buffer}
use Rattle.endpoint.specs.Sealing.{sealing, sealed_of, seal_answer, seal_buffer}
use Rattle.endpoint.specs.KeyCalls.{giving, choosing, dropping, done_answer, effect_answer}
use Rattle.endpoint.specs.SessionCalls.{beginning, begin_answer, report_answer, end_answer}
use Rattle.endpoint.specs.Views.{put_view, effect_view, begin_view, take_view}
use Rattle.script.specs.declared.request.KeyFields.{KeyFields}
use Rattle.script.specs.declared.request.BeginFields.{BeginFields}
use Rattle.script.specs.Asked.{Asked, to_begin, to_give, to_choose, to_drop, to_data, to_command, to_report, to_end, to_hear}
use Rattle.transcript.specs.declared.answer.Counts.{Counts}
use Rattle.transcript.specs.Outcomes.{Outcome, done, ignored, sealed, heard, counted, refused}

-- a key is one octet, sixteen times
abbrev pub keyset_of : KeyFields → Keyset
keyset_of k = keysets.keyset_of k.integrity k.encryption

abbrev pub settings_of : BeginFields → RawSettings
settings_of b = record { tag = b.tag; length = b.length; leap = b.leap }

-- ---- outcomes

abbrev pub plain : Result (Unit {0}) Fault → Outcome
plain (Ok u) = done
plain (Err e) = refused e

abbrev pub of_effect : Effect → Outcome
of_effect effect.Done = done
of_effect effect.Ignored = ignored

abbrev pub effected : Result Effect Fault → Outcome
effected (Ok e) = of_effect e
effected (Err e) = refused e

-- the octets of the message, which stand at the start of the buffer
abbrev pub written : Result ℕ Fault → List ℕ → Outcome
written (Ok n) buffer = sealed (take n buffer)
written (Err e) buffer = refused e

-- a message is sealed into a buffer of zeros that has room for the longest
abbrev pub empty_buffer : List ℕ
empty_buffer = replicate longest_message 0

abbrev pub seal_outcome : EndView → Plane → List ℕ → List ℕ → Outcome
seal_outcome v plane id content = written (seal_answer v plane id content longest_message) (seal_buffer v plane id content empty_buffer)

-- what an accepted message says, its content read from the clear octets
abbrev pub told : Result Heard Fault → List ℕ → Outcome
told (Ok h) clear = heard (record {
  id = id_octets h.header.id;
  plane = h.header.plane;
  key = h.header.key;
  counter = h.header.counter;
  content = between h.place (h.place + h.length) clear;
})
told (Err e) clear = refused e

abbrev pub counts_of : PlaneReport → Counts
counts_of r = record { sealed = r.sealed; accepted = r.accepted; missed = r.missed }

abbrev pub reported : Result Report Fault → Outcome
reported (Ok r) = counted (counts_of r.control) (counts_of r.user)
reported (Err e) = refused e

-- what an end answers
abbrev pub outcome_on : EndView → Asked → Outcome
outcome_on v (to_begin id b) = plain (begin_answer v id (settings_of b) b.key.key (keyset_of b.key))
outcome_on v (to_give id k) = plain (done_answer (giving v id k.key (keyset_of k)))
outcome_on v (to_choose id k) = plain (done_answer (choosing v id k))
outcome_on v (to_drop id k) = effected (effect_answer (dropping v id k))
outcome_on v (to_data id content) = seal_outcome v User id content
outcome_on v (to_command id content) = seal_outcome v Control id content
outcome_on v (to_report id) = reported (report_answer v id)
outcome_on v (to_end id) = plain (end_answer v id)
outcome_on v (to_hear m) = told (hear_answer v m) (hear_buffer v m)

-- ---- what is found afterwards

abbrev pub seal_view : EndView → Plane → List ℕ → List ℕ → EndView
seal_view v plane id content = put_view v (sealed_of plane (sealing v plane id content longest_message))

abbrev pub view_after : EndView → Asked → EndView
view_after v (to_begin id b) = begin_view v (beginning v id (settings_of b) b.key.key (keyset_of b.key)) (begin_answer v id (settings_of b) b.key.key (keyset_of b.key))
view_after v (to_give id k) = put_view v (giving v id k.key (keyset_of k))
view_after v (to_choose id k) = put_view v (choosing v id k)
view_after v (to_drop id k) = effect_view v (dropping v id k)
view_after v (to_data id content) = seal_view v User id content
view_after v (to_command id content) = seal_view v Control id content
view_after v (to_report id) = v
view_after v (to_end id) = take_view v (id_asked id)
view_after v (to_hear m) = put_view v (accepted_of (hearing v m))

-- an end whose sessions keep the rules goes on so, and what is found there is as defined
pub record Goes (after : EndMeaning) (view : EndView) : Type 0 where
  pub found : viewed after ≡ view
  pub kept : Kept after.pairs

abbrev pub GoesOn : EndMeaning → EndMeaning → Asked → Type 0
GoesOn e after a = Kept e.pairs → Goes after (view_after (viewed e) a)

-- an end answers a request and goes on as defined
pub record Performed (e after : EndMeaning) (a : Asked) (o : Outcome) : Type 0 where
  pub outcome : o ≡ outcome_on (viewed e) a
  pub goes : GoesOn e after a

abbrev pub SealGoesOn : EndMeaning → EndMeaning → Plane → List ℕ → List ℕ → Type 0
SealGoesOn e after plane id content = Kept e.pairs → Goes after (seal_view (viewed e) plane id content)
