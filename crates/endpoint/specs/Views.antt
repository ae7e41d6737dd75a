-- How what is found under each ID follows the calls. Assumes nothing.
use Rattle.std.specs.Prelude.{◌≡◌, ℕ, ◌+◌, ◌-◌, true, cond, ◌&&◌, List, is_some, Some, None, Ok, Err, Option, Result}
use Rattle.refusal.specs.declared.Fault.{Fault}
use Rattle.suite.specs.declared.Keyset.{Keyset}
use Rattle.wire.specs.declared.id.SessionId.{SessionId}
use Rattle.wire.specs.declared.parties.Plane.{Plane}
use Rattle.wire.specs.Ids.{same_id}
use Rattle.session.specs.declared.session.Session.{Session}
use Rattle.store.specs.Stores.{Pairs, apart}
use Rattle.arguments.specs.declared.RawSettings.{RawSettings}
use Rattle.arguments.specs.Arguments.{id_asked}
use Rattle.endpoint.specs.Ends.{EndMeaning, EndView, viewed, with_pairs}
use Rattle.endpoint.specs.Hearing.{hearing, accepted_of, hear_end}
use Rattle.endpoint.specs.Sealing.{sealing, sealed_of, seal_end}
use Rattle.endpoint.specs.KeyCalls.{giving, choosing, dropping, swapping, done_end, effect_end}
use Rattle.endpoint.specs.SessionCalls.{beginning, begin_answer, Begun, end_end}

-- an end where other sessions are found
abbrev pub finding : EndView → (SessionId → Option Session) → ℕ → EndView
finding v look n = record { role = v.role; look = look; count = n; room = v.room; keystream = v.keystream; tag = v.tag; size = v.size }

-- another session for an ID that is there
abbrev pub put_look : (SessionId → Option Session) → SessionId → Session → SessionId → Option Session
put_look look id s j = cond (is_some (look id) && same_id id j) (Some s) (look j)

abbrev pub put_view : EndView → Result (SessionId × Session) Fault → EndView
put_view v (Ok p) = finding v (put_look v.look p.0 p.1) v.count
put_view v (Err e) = v

abbrev pub change_view : EndView → SessionId → Option Session → EndView
change_view v id (Some s) = finding v (put_look v.look id s) v.count
change_view v id None = v

abbrev pub effect_view : EndView → Result (SessionId × Option Session) Fault → EndView
effect_view v (Ok p) = change_view v p.0 p.1
effect_view v (Err e) = v

-- one session more
abbrev pub add_view : EndView → SessionId × Session → Result (Unit {0}) Fault → EndView
add_view v p (Ok u) = finding v (λ j. cond (same_id p.0 j) (Some p.1) (v.look j)) (v.count + 1)
add_view v p (Err e) = v

abbrev pub begin_view : EndView → Result (SessionId × Session) Fault → Result (Unit {0}) Fault → EndView
begin_view v (Ok p) r = add_view v p r
begin_view v (Err e) r = v

-- one session fewer
abbrev pub take_view : EndView → Result SessionId Fault → EndView
take_view v (Ok id) = finding v (λ j. cond (same_id id j) None (v.look j)) (cond (is_some (v.look id)) (v.count - 1) v.count)
take_view v (Err e) = v

-- after each call, wherever its store keeps the sessions
pub record ViewsFollow : Type 0 where
  pub begin : (e : EndMeaning) (after : Pairs) (id : List ℕ) (raw : RawSettings) (k : ℕ) (x : Keyset)
      → Begun e.pairs after (beginning (viewed e) id raw k x) (begin_answer (viewed e) id raw k x)
      → viewed (with_pairs e after) ≡ begin_view (viewed e) (beginning (viewed e) id raw k x) (begin_answer (viewed e) id raw k x)
  pub give : (e : EndMeaning) (id : List ℕ) (k : ℕ) (x : Keyset) → viewed (done_end e (giving (viewed e) id k x)) ≡ put_view (viewed e) (giving (viewed e) id k x)
  pub choose : (e : EndMeaning) (id : List ℕ) (k : ℕ) → viewed (done_end e (choosing (viewed e) id k)) ≡ put_view (viewed e) (choosing (viewed e) id k)
  pub drop : (e : EndMeaning) (id : List ℕ) (k : ℕ) → viewed (effect_end e (dropping (viewed e) id k)) ≡ effect_view (viewed e) (dropping (viewed e) id k)
  pub swap : (e : EndMeaning) (id : List ℕ) (new old : ℕ) (x : Keyset) → viewed (effect_end e (swapping (viewed e) id new old x)) ≡ effect_view (viewed e) (swapping (viewed e) id new old x)
  pub seal : (e : EndMeaning) (plane : Plane) (id content : List ℕ) (room : ℕ) → viewed (seal_end e plane id content room) ≡ put_view (viewed e) (sealed_of plane (sealing (viewed e) plane id content room))
  pub hear : (e : EndMeaning) (m : List ℕ) → viewed (hear_end e m) ≡ put_view (viewed e) (accepted_of (hearing (viewed e) m))
  pub end : (e : EndMeaning) (id : List ℕ) → apart e.pairs ≡ true → viewed (end_end e id) ≡ take_view (viewed e) (id_asked id)
