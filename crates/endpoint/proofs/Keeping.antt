-- Every call keeps the rules of all sessions. Assumes nothing.
use Rattle.std.proofs.Common.{◌≡◌, ℕ, ◌≤◌, false, not, ◌&&◌, leb, List, length, IfOk, IfSome, Some, None, Ok, Err, Option, Result, sym, refl, ap, subst, arith}
use Rattle.std.proofs.lemmas.Bool.{and_parts, leb-true, not-true}
use Rattle.std.specs.Option.{ok_or}
use Rattle.refusal.specs.declared.Fault.{Fault}
use Rattle.refusal.specs.Tests.{and_then}
use Rattle.refusal.proofs.Rows.{need_held}
use Rattle.suite.specs.declared.Keyset.{Keyset}
use Rattle.wire.specs.declared.id.SessionId.{SessionId}
use Rattle.wire.specs.declared.parties.Plane.{Plane}
use Rattle.wire.specs.declared.parties.Role.{Role}
use Rattle.wire.specs.Fronts.{front_read}
use Rattle.framing.specs.Formats.{tag_octets, tag_length_of, data_length_of}
use Rattle.framing.specs.Layouts.{planned}
use Rattle.message.specs.declared.open.Opened.{Opened}
use Rattle.message.specs.Opens.{body_answer}
use Rattle.session.specs.declared.session.Session.{Session}
use Rattle.session.specs.declared.session.Settings.{Settings}
use Rattle.session.specs.Counting.{last_counter}
use Rattle.session.specs.Rules.{Sound}
use Rattle.session.specs.Sessions as session
use Rattle.session.proofs.Keeping as sessions
use Rattle.store.specs.Stores.{Pairs, lookup, has, add_answer, Added}
use Rattle.store.specs.StoreLaws.{Kept}
use Rattle.store.proofs.Keeping as stores
use Rattle.arguments.specs.declared.RawSettings.{RawSettings}
use Rattle.arguments.specs.Arguments.{out_of_range, id_asked, key_asked, settings_asked, content_asked}
use Rattle.endpoint.specs.declared.message_calls.Judged.{Judged}
use Rattle.endpoint.specs.declared.message_calls.Plan.{Plan}
use Rattle.endpoint.specs.Ends.{EndMeaning, EndView, viewed, found, put_back}
use Rattle.endpoint.specs.Hearing.{judged, received_under, hearing, accepted_of, accepted_in}
use Rattle.endpoint.specs.Sealing.{header_of, sealing, sealed_of}
use Rattle.endpoint.specs.KeyCalls.{giving, choosing, dropping, swapping, changed_pairs, effect_pairs}
use Rattle.endpoint.specs.SessionCalls.{beginning, Begun, removed}
use Rattle.endpoint.specs.Rules.{RulesAreKept}

-- ---- what a chain of steps makes

-- what is made, if anything, has a property
abbrev Makes : {X : Type 0} → Result X Fault → (X → Type 0) → Type 0
Makes {X} r P = (x : X) → r ≡ Ok x → P x

-- a chain that came to an end took its first step
step : {X Y : Type 0} (r : Result X Fault) (rest : X → Result Y Fault) (y : Y) (Q : Type 0) → and_then r rest ≡ Ok y → ((x : X) → r ≡ Ok x → rest x ≡ Ok y → Q) → Q
step (Ok x) rest y Q h k = k x refl h
step (Err e) rest y Q h k = let z : ◌≡◌ {A = ℕ} 0 1 = cc in absurd (omega arith)

last : {Y : Type 0} (P : Y → Type 0) (x y : Y) → ◌≡◌ {A = Result Y Fault} (Ok x) (Ok y) → P x → P y
last P x y h p = let q : x ≡ y = cc in subst P q p

made_ok : {X : Type 0} (P : X → Type 0) (r : Result X Fault) → IfOk r P → Makes r P
made_ok P (Ok y) m x e = last P y x e m
made_ok P (Err y) m x e = let z : ◌≡◌ {A = ℕ} 0 1 = cc in absurd (omega arith)

found_is : (l : Pairs) (id : SessionId) (place : ℕ) (s : Session) → found (lookup l) id place ≡ Ok s → lookup l id ≡ Some s
found_is l id place s h = go s (lookup l id) _ h
  where
    go : (s : Session) (o : Option Session) (e : Fault) → ok_or o e ≡ Ok s → o ≡ Some s
    go s None e h = let z : ◌≡◌ {A = ℕ} 0 1 = cc in absurd (omega arith)
    go s (Some t) e h = let q : t ≡ s = cc in ap Some q

-- ---- a session put back

abbrev SoundPair : SessionId × Session → Type 0
SoundPair p = Sound p.1

abbrev SoundChange : SessionId × Option Session → Type 0
SoundChange p = IfSome p.1 Sound

put_kept : (l : Pairs) (r : Result (SessionId × Session) Fault) → Kept l → Makes r SoundPair → Kept (put_back r l)
put_kept l (Ok p) h s = (stores.rules_are_kept).put l p.0 p.1 h (s p refl)
put_kept l (Err e) h s = h

change_kept : (l : Pairs) (id : SessionId) (c : Option Session) → Kept l → IfSome c Sound → Kept (changed_pairs l id c)
change_kept l id (Some s) h k = (stores.rules_are_kept).put l id s h k
change_kept l id None h k = h

effect_kept : (l : Pairs) (r : Result (SessionId × Option Session) Fault) → Kept l → Makes r SoundChange → Kept (effect_pairs r l)
effect_kept l (Ok p) h s = change_kept l p.0 p.1 h (s p refl)
effect_kept l (Err e) h s = h

module _ (e : EndMeaning) (h : Kept e.pairs) where
  abbrev v : EndView
  v = viewed e

  -- a session that is found keeps its rules
  sound_found : (id : SessionId) (place : ℕ) (s : Session) → found (lookup e.pairs) id place ≡ Ok s → Sound s
  sound_found id place s q = (stores.rules_are_kept).look e.pairs id s h (found_is e.pairs id place s q)

  give_sound : (octets : List ℕ) (n : ℕ) (x : Keyset) → Makes (giving v octets n x) SoundPair
  give_sound octets n x p e0 =
      step (id_asked octets) _ p (SoundPair p) e0 (λ id _ e1.
      step (key_asked n) _ p (SoundPair p) e1 (λ k _ e2.
      step (found (lookup e.pairs) id 0) _ p (SoundPair p) e2 (λ s there e3.
      step (session.given k x s) _ p (SoundPair p) e3 (λ t is e4.
      last SoundPair (id, t) p e4 (made_ok Sound (session.given k x s) ((sessions.rules_are_kept).give k x s (sound_found id 0 s there)) t is)))))

  choose_sound : (octets : List ℕ) (n : ℕ) → Makes (choosing v octets n) SoundPair
  choose_sound octets n p e0 =
      step (id_asked octets) _ p (SoundPair p) e0 (λ id _ e1.
      step (key_asked n) _ p (SoundPair p) e1 (λ k _ e2.
      step (found (lookup e.pairs) id 0) _ p (SoundPair p) e2 (λ s there e3.
      step (session.chosen k s) _ p (SoundPair p) e3 (λ t is e4.
      last SoundPair (id, t) p e4 (made_ok Sound (session.chosen k s) ((sessions.rules_are_kept).choose k s (sound_found id 0 s there)) t is)))))

  drop_sound : (octets : List ℕ) (n : ℕ) → Makes (dropping v octets n) SoundChange
  drop_sound octets n p e0 =
      step (id_asked octets) _ p (SoundChange p) e0 (λ id _ e1.
      step (key_asked n) _ p (SoundChange p) e1 (λ k _ e2.
      step (found (lookup e.pairs) id 0) _ p (SoundChange p) e2 (λ s there e3.
      last SoundChange (id, session.dropped k s) p e3 ((sessions.rules_are_kept).drop k s (sound_found id 0 s there)))))

  swap_sound : (octets : List ℕ) (new old : ℕ) (x : Keyset) → Makes (swapping v octets new old x) SoundChange
  swap_sound octets new old x p e0 =
      step (id_asked octets) _ p (SoundChange p) e0 (λ id _ e1.
      step (key_asked new) _ p (SoundChange p) e1 (λ k _ e2.
      step (key_asked old) _ p (SoundChange p) e2 (λ j _ e3.
      step (found (lookup e.pairs) id 0) _ p (SoundChange p) e3 (λ s there e4.
      step (session.swapped k j x s) _ p (SoundChange p) e4 (λ c is e5.
      last SoundChange (id, c) p e5 (made_ok (λ c. IfSome c Sound) (session.swapped k j x s) ((sessions.rules_are_kept).swap k j x s (sound_found id 0 s there)) c is))))))

  -- the session of a plan is the one found
  plan_sound : (plane : Plane) (octets content : List ℕ) (room : ℕ) → Makes (sealing v plane octets content room) (λ p. Sound p.session)
  plan_sound plane octets content room p e0 =
      step (id_asked octets) _ p (Sound p.session) e0 (λ id _ e1.
      step (content_asked plane content) _ p (Sound p.session) e1 (λ _ _ e2.
      step (found (lookup e.pairs) id 0) _ p (Sound p.session) e2 (λ s there e3.
      step (session.outgoing s plane) _ p (Sound p.session) e3 (λ o _ e4.
      step (planned s.settings.format (header_of plane id o) (length content) room) _ p (Sound p.session) e4 (λ w _ e5.
      last (λ (q : Plan). Sound q.session) _ p e5 (sound_found id 0 s there))))))

  seal_sound : (plane : Plane) (octets content : List ℕ) (room : ℕ) → Makes (sealed_of plane (sealing v plane octets content room)) SoundPair
  seal_sound plane octets content room q e0 =
      step (sealing v plane octets content room) _ q (SoundPair q) e0 (λ p is e1.
      last SoundPair (p.header.id, session.sealed p.session plane p.header.counter) q e1
      ((sessions.rules_are_kept).seal p.session plane p.header.counter (plan_sound plane octets content room p is)))

  -- what was judged may be accepted
  judge_sound : (m : List ℕ) → Makes (judged v m) (λ j. Sound (accepted_in j))
  judge_sound m j e0 =
      step (front_read m) _ j (Sound (accepted_in j)) e0 (λ f _ e1.
      step (found (lookup e.pairs) f.header.id f.from) _ j (Sound (accepted_in j)) e1 (λ s there e2.
      step (session.admission s f.header.plane f.header.key f.header.counter) _ j (Sound (accepted_in j)) e2 (λ k is e3.
      last (λ (q : Judged). Sound (accepted_in q)) _ j e3
      ((sessions.rules_are_kept).accept s f.header.plane f.header.key f.header.counter (sound_found f.header.id f.from s there) k is))))

hear_sound : (e : EndMeaning) (m : List ℕ) → Kept e.pairs → Makes (accepted_of (hearing (viewed e) m)) SoundPair
hear_sound e m h q e0 =
    step (hearing (viewed e) m) _ q (SoundPair q) e0 (λ p is e1.
    last SoundPair (p.0.front.header.id, accepted_in p.0) q e1
    (step (judged (viewed e) m) _ p (Sound (accepted_in p.0)) is (λ j was e2.
    step (body_answer e.keystream e.tag (received_under j) j.front m) _ p (Sound (accepted_in p.0)) e2 (λ o _ e3.
    last (λ (r : Judged × Opened). Sound (accepted_in r.0)) (j, o) p e3 (judge_sound e h m j was)))))

-- ---- Begin

settings_leap : (role : Role) (most : ℕ) (raw : RawSettings) → Makes (settings_asked role most raw) (λ s. 1 ≤ s.leap)
settings_leap role most raw s e0 =
    step (ok_or (tag_length_of raw.tag) out_of_range) _ s (1 ≤ s.leap) e0 (λ tag _ e1.
    step (ok_or (data_length_of raw.length) out_of_range) _ s (1 ≤ s.leap) e1 (λ length _ e2.
    let t = need_held (leb (tag_octets tag) most && (leb 1 raw.leap && leb raw.leap last_counter)) _ _ s e2 in
    last (λ (q : Settings). 1 ≤ q.leap) _ s t.1
    (leb-true 1 raw.leap (and_parts (leb 1 raw.leap) _ (and_parts (leb (tag_octets tag) most) _ t.0).1).0)))

begin_sound : (e : EndView) (octets : List ℕ) (raw : RawSettings) (n : ℕ) (x : Keyset) → Makes (beginning e octets raw n x) SoundPair
begin_sound e octets raw n x p e0 =
    step (id_asked octets) _ p (SoundPair p) e0 (λ id _ e1.
    step (settings_asked e.role e.size raw) _ p (SoundPair p) e1 (λ settings is e2.
    step (key_asked n) _ p (SoundPair p) e2 (λ k _ e3.
    last SoundPair (id, session.new_session settings k x) p e3
    ((sessions.rules_are_kept).new settings k x (settings_leap e.role e.size raw settings is)))))

added_kept : (l after : Pairs) (room : ℕ) (p : SessionId × Session) (r : Result (Unit {0}) Fault) → r ≡ add_answer l room p.0 → Added l after p.0 p.1 r → Kept l → Sound p.1 → Kept after
added_kept l after room p (Err e) is a h s = subst Kept (sym a) h
added_kept l after room p (Ok u) is a h s =
    let free : has l p.0 ≡ false = not-true (has l p.0) (need_held (not (has l p.0)) _ _ u (sym is)).0 in
    subst Kept (sym a.2) ((stores.rules_are_kept).add l a.0 p.0 p.1 h free s)

begun_kept : (e : EndMeaning) (after : Pairs) (r : Result (SessionId × Session) Fault) → Begun e.pairs after r (and_then r (λ p. add_answer e.pairs e.room p.0)) → Kept e.pairs → Makes r SoundPair → Kept after
begun_kept e after (Ok p) b h s = added_kept e.pairs after e.room p _ refl b h (s p refl)
begun_kept e after (Err x) b h s = subst Kept (sym b) h

pub rules_are_kept : RulesAreKept
rules_are_kept = record {
  begin = λ e after id raw k x b h. begun_kept e after (beginning (viewed e) id raw k x) b h (begin_sound (viewed e) id raw k x);
  give = λ e id k x h. put_kept e.pairs (giving (viewed e) id k x) h (give_sound e h id k x);
  choose = λ e id k h. put_kept e.pairs (choosing (viewed e) id k) h (choose_sound e h id k);
  drop = λ e id k h. effect_kept e.pairs (dropping (viewed e) id k) h (drop_sound e h id k);
  swap = λ e id new old x h. effect_kept e.pairs (swapping (viewed e) id new old x) h (swap_sound e h id new old x);
  seal = λ e plane id content room h. put_kept e.pairs (sealed_of plane (sealing (viewed e) plane id content room)) h (seal_sound e h plane id content room);
  hear = λ e m h. put_kept e.pairs (accepted_of (hearing (viewed e) m)) h (hear_sound e m h);
  end = λ e id h. end_kept e (id_asked id) h;
}
  where
    end_kept : (e : EndMeaning) (r : Result SessionId Fault) → Kept e.pairs → Kept (removed e.pairs r)
    end_kept e (Ok i) h = (stores.rules_are_kept).take e.pairs i h
    end_kept e (Err x) h = h
