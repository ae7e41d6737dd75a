-- Every change of a session keeps the rules. Assumes nothing.
use Rattle.std.proofs.Common.{◌≡◌, ℕ, ◌+◌, ◌<◌, ◌≤◌, true, ltb, IfOk, IfSome, Some, None, Ok, Err, Option, Result, refl, ap, ◌∙◌, subst, arith}
use Rattle.std.proofs.lemmas.Bool.{ltb-true}
use Rattle.refusal.specs.declared.Fault.{Fault}
use Rattle.refusal.specs.Tests.{and_then}
use Rattle.refusal.proofs.Rows.{need_held, and_then_went}
use Rattle.suite.specs.declared.Keyset.{Keyset}
use Rattle.wire.specs.declared.parties.Plane.{Plane}
use Rattle.wire.specs.declared.parties.Plane.TheVariants.{Control, User}
use Rattle.keys.specs.declared.id.KeyId.{KeyId}
use Rattle.keys.specs.declared.keys.Keys.{Keys}
use Rattle.keys.specs.declared.keys.HeldKey.{HeldKey}
use Rattle.keys.specs.Changes as keys
use Rattle.keys.specs.Rules.{SoundKeys}
use Rattle.keys.proofs.Keeping as keeping
use Rattle.keys.proofs.Held.{received_held}
use Rattle.session.specs.declared.counters.Counters.{Counters}
use Rattle.session.specs.declared.session.Settings.{Settings}
use Rattle.session.specs.declared.session.Session.{Session}
use Rattle.session.specs.Counting.{last_counter, admitted, counted, sealed_up_to}
use Rattle.session.specs.Sessions.{new_session, counters_of, with_counters, with_keys, changed, admission, accepted}
use Rattle.session.specs.Rules.{Sound, RulesAreKept}

-- ---- keys changed

with_keys_lem : (s : Session) (ks : Keys) → Sound s → SoundKeys ks → Sound (with_keys s ks)
with_keys_lem s ks h k = record { leap = h.leap; counts = counts s ks h; keys = k }
  where
    counts : (s : Session) (ks : Keys) → Sound s → (plane : Plane) → (counters_of (with_keys s ks) plane).accepted ≤ (counters_of (with_keys s ks) plane).last_accepted
    counts s ks h Control = h.counts Control
    counts s ks h User = h.counts User

then_keys : (s : Session) (r : Result Keys Fault) → Sound s → IfOk r SoundKeys → IfOk (and_then r (λ ks. Ok (with_keys s ks))) Sound
then_keys s (Ok ks) h k = with_keys_lem s ks h k
then_keys s (Err e) h k = tt

change_keys : (s : Session) (c : Option Keys) → Sound s → IfSome c SoundKeys → IfSome (changed s c) Sound
change_keys s (Some ks) h k = with_keys_lem s ks h k
change_keys s None h k = tt

then_change : (s : Session) (r : Result (Option Keys) Fault) → Sound s → IfOk r (λ c. IfSome c SoundKeys) → IfOk (and_then r (λ c. Ok (changed s c))) (λ c. IfSome c Sound)
then_change s (Ok c) h k = change_keys s c h k
then_change s (Err e) h k = tt

-- ---- counters changed

with_counters_lem : (s : Session) (plane : Plane) (c : Counters) → Sound s → c.accepted ≤ c.last_accepted → Sound (with_counters s plane c)
with_counters_lem s Control c h k = record { leap = h.leap; counts = counts s c h k; keys = h.keys }
  where
    counts : (s : Session) (c : Counters) → Sound s → c.accepted ≤ c.last_accepted → (p : Plane) → (counters_of (with_counters s Control c) p).accepted ≤ (counters_of (with_counters s Control c) p).last_accepted
    counts s c h k Control = k
    counts s c h k User = h.counts User
with_counters_lem s User c h k = record { leap = h.leap; counts = counts s c h k; keys = h.keys }
  where
    counts : (s : Session) (c : Counters) → Sound s → c.accepted ≤ c.last_accepted → (p : Plane) → (counters_of (with_counters s User c) p).accepted ≤ (counters_of (with_counters s User c) p).last_accepted
    counts s c h k Control = h.counts Control
    counts s c h k User = k

counters_set : (s : Session) (plane : Plane) (c : Counters) → counters_of (with_counters s plane c) plane ≡ c
counters_set s Control c = refl
counters_set s User c = refl

-- ---- a message accepted

-- what an admission tells
record Admitted (s : Session) (plane : Plane) (n : ℕ) (h : HeldKey) : Type 0 where
  held : keys.holds s.keys h.id ≡ true
  above : (counters_of s plane).last_accepted < n

admission_tells : (s : Session) (plane : Plane) (key n : ℕ) (h : HeldKey) → admission s plane key n ≡ Ok h → Admitted s plane n h
admission_tells s plane key n h e =
    let a = and_then_went (keys.receiving_key key s.keys) _ h e in
    let b = and_then_went (admitted (counters_of s plane) n s.settings.leap) _ h a.2 in
    let same : a.0 ≡ h = (let q = b.2 in cc) in
    record {
      held = subst (λ (x : HeldKey). keys.holds s.keys x.id ≡ true) same (received_held key s.keys a.0 a.1);
      above = ltb-true _ _ (need_held (ltb (counters_of s plane).last_accepted n) _ _ _ b.1).0;
    }

module _ (s : Session) (plane : Plane) (key n : ℕ) (h : Sound s) (k : HeldKey) (ok : admission s plane key n ≡ Ok k) where
  accepted_sound : Sound (accepted s plane k.id n)
  accepted_sound =
      let t = admission_tells s plane key n k ok in
      let above = t.above in
      let most = h.counts plane in
      let enough : (counted (counters_of s plane) n).accepted ≤ n = omega arith in
      with_counters_lem _ plane _ (with_keys_lem s _ h ((keeping.rules_are_kept).accept k.id s.keys h.keys t.held)) enough

  accepted-counted : n ≤ last_counter → (counters_of (accepted s plane k.id n) plane).accepted ≡ (counters_of s plane).accepted + 1
  accepted-counted short =
      let above = (admission_tells s plane key n k ok).above in
      let most = h.counts plane in
      let one : (counted (counters_of s plane) n).accepted ≡ (counters_of s plane).accepted + 1 = omega arith in
      ap (λ (c : Counters). c.accepted) (counters_set _ plane _) ∙ one

pub rules_are_kept : RulesAreKept
rules_are_kept = record {
  new = λ settings k x l. record { leap = l; counts = none settings k x; keys = (keeping.rules_are_kept).first k x };
  give = λ k x s h. then_keys s _ h ((keeping.rules_are_kept).give k x s.keys h.keys);
  choose = λ k s h. then_keys s _ h ((keeping.rules_are_kept).choose k s.keys h.keys);
  drop = λ k s h. change_keys s _ h ((keeping.rules_are_kept).drop k s.keys h.keys);
  swap = λ new old x s h. then_change s (keys.swapped new old x s.keys) h ((keeping.rules_are_kept).swap new old x s.keys h.keys);
  accept = λ s plane key n h k ok. accepted_sound s plane key n h k ok;
  count = λ s plane key n short h k ok. accepted-counted s plane key n h k ok short;
  seal = λ s plane n h. with_counters_lem s plane (sealed_up_to (counters_of s plane) n) h (h.counts plane);
}
  where
    none : (settings : Settings) (k : KeyId) (x : Keyset) (plane : Plane) → (counters_of (new_session settings k x) plane).accepted ≤ (counters_of (new_session settings k x) plane).last_accepted
    none settings k x Control = omega arith
    none settings k x User = omega arith
