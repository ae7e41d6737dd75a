-- Every change of keys keeps the rules. Assumes nothing.
use Rattle.std.proofs.Common.{◌≡◌, Bool, true, false, cond, not, IfOk, IfSome, Some, None, Ok, Option, Result, sym, refl, ap, ◌∙◌, subst}
use Rattle.std.proofs.lemmas.Bool.{cond_both, cond-false, both_ways}
use Rattle.refusal.specs.declared.Fault.{Fault}
use Rattle.refusal.specs.Tests.{need}
use Rattle.suite.specs.declared.Keyset.{Keyset}
use Rattle.keys.specs.declared.id.KeyId.{KeyId}
use Rattle.keys.specs.declared.record.Slot.{Slot}
use Rattle.keys.specs.declared.record.Slot.TheVariants.{Empty, Held, Leaving}
use Rattle.keys.specs.declared.record.Dropped.{Dropped}
use Rattle.keys.specs.declared.record.Dropped.TheVariants.{Key, WaitingFor}
use Rattle.keys.specs.declared.keys.Keys.{Keys}
use Rattle.keys.specs.Ids.{same_key}
use Rattle.keys.specs.Slots.{is_held, waits_for, left_for, freed, slot_of, each, no_keys, is_gone, kept_in}
use Rattle.keys.specs.Changes.{holds, first_key, filled, sending_after, emptied, dropped, replaced_by, swapped, used}
use Rattle.keys.specs.Rules.{SoundKeys, RulesAreKept}
use Rattle.keys.proofs.Views.{each_back, none_some, some_same, same_key_lem, same_self}

-- the rules of slots that a function gives, and of a sending key
record Sound (f : KeyId → Slot) (o : Option KeyId) : Type 0 where
  sending : (k : KeyId) → o ≡ Some k → is_held (f k) ≡ true
  waiting : (k to : KeyId) → waits_for to (f k) ≡ true → is_held (f to) ≡ true
  apart : (k : KeyId) → waits_for k (f k) ≡ false

from_view : (f : KeyId → Slot) (o : Option KeyId) → Sound f o → SoundKeys (record { slots = each f; sending = o })
from_view f o h = record {
  sending = λ k e. ap is_held (each_back f k) ∙ h.sending k e;
  waiting = λ k to e. ap is_held (each_back f to) ∙ h.waiting k to (sym (ap (waits_for to) (each_back f k)) ∙ e);
  apart = λ k. ap (waits_for k) (each_back f k) ∙ h.apart k;
}

to_view : (ks : Keys) → SoundKeys ks → Sound (slot_of ks.slots) ks.sending
to_view ks h = record { sending = h.sending; waiting = h.waiting; apart = h.apart }

-- ---- one slot filled

module _ (k : KeyId) (s : Slot) (f : KeyId → Slot) (held : is_held s ≡ true) where
  abbrev filling : KeyId → Slot
  filling j = cond (same_key j k) s (f j)

  held_more : (j : KeyId) → is_held (f j) ≡ true → is_held (filling j) ≡ true
  held_more j h = cond_both (same_key j k) s (f j) (λ x. is_held x ≡ true) (λ _. held) (λ _. h)

  fill : (o : Option KeyId) → ((to : KeyId) → waits_for to s ≡ true → is_held (f to) ≡ true) → waits_for k s ≡ false → Sound f o → Sound filling o
  fill o waits own h = record {
    sending = λ j e. held_more j (h.sending j e);
    waiting = λ j to. cond_both (same_key j k) s (f j) (λ x. waits_for to x ≡ true → is_held (filling to) ≡ true) (λ _ e. held_more to (waits to e)) (λ _ e. held_more to (h.waiting j to e));
    apart = λ j. cond_both (same_key j k) s (f j) (λ x. waits_for j x ≡ false) (λ e. ap (λ (i : KeyId). waits_for i s) (same_key_lem j k e) ∙ own) (λ _. h.apart j);
  }

-- a plainly held key waits for none
plain : (k : KeyId) (x : Keyset) (ks : Keys) → SoundKeys ks → SoundKeys (filled k x ks)
plain k x ks h = from_view _ _ (fill k (Held x) (slot_of ks.slots) refl ks.sending (λ to e. absurd (both_ways false refl e)) refl (to_view ks h))

-- a new record with one key
no_keys_lem : SoundKeys (record { slots = no_keys; sending = None })
no_keys_lem = from_view (λ _. Empty) None (record { sending = λ j e. absurd (none_some j e); waiting = λ j to e. absurd (both_ways false refl e); apart = λ j. refl })

first_held : (k : KeyId) (x : Keyset) → holds (first_key k x) k ≡ true
first_held k x = ap is_held (each_back (λ j. cond (same_key j k) (Held x) (slot_of no_keys j)) k) ∙ ap (λ (b : Bool). is_held (cond b (Held x) (slot_of no_keys k))) (same_self k)

first_sound : (k : KeyId) (x : Keyset) → SoundKeys (first_key k x)
first_sound k x =
    let some = plain k x _ no_keys_lem in
    record { sending = λ j e. subst (λ (i : KeyId). holds (first_key k x) i ≡ true) (some_same k j e) (first_held k x); waiting = some.waiting; apart = some.apart }

-- ---- an old key leaves for a new one

left_held : (new : KeyId) (s : Slot) → is_held s ≡ true → is_held (left_for new s) ≡ true
left_held new Empty h = h
left_held new (Held x) h = refl
left_held new (Leaving x to) h = refl

left_waits : (new to : KeyId) (s : Slot) → waits_for to (left_for new s) ≡ true → same_key new to ≡ true
left_waits new to Empty h = absurd (both_ways false refl h)
left_waits new to (Held x) h = h
left_waits new to (Leaving x w) h = h

left_apart : (new old : KeyId) (s : Slot) → same_key new old ≡ false → waits_for old (left_for new s) ≡ false
left_apart new old Empty h = refl
left_apart new old (Held x) h = h
left_apart new old (Leaving x w) h = h

replaced_sound : (new old : KeyId) (x : Keyset) (ks : Keys) → SoundKeys ks → holds ks old ≡ true → same_key new old ≡ false → SoundKeys (replaced_by new old x ks)
replaced_sound new old x ks h there differ =
    let s = slot_of ks.slots old in
    let more = filled new x ks in
    let there_now : holds more new ≡ true = ap is_held (each_back (λ j. cond (same_key j new) (Held x) (slot_of ks.slots j)) new) ∙ ap (λ (b : Bool). is_held (cond b (Held x) (slot_of ks.slots new))) (same_self new) in
    from_view _ _ (fill old (left_for new s) (slot_of more.slots) (left_held new s there) ks.sending
    (λ to e. subst (λ (i : KeyId). holds more i ≡ true) (same_key_lem new to (left_waits new to s e)) there_now)
    (left_apart new old s differ)
    (to_view more (plain new x ks h)))

-- ---- keys dropped

module _ (gone : KeyId → Bool) where
  freed_held : (s : Slot) → is_held s ≡ true → is_held (freed gone s) ≡ true
  freed_held Empty h = h
  freed_held (Held x) h = refl
  freed_held (Leaving x to) h = cond_both (gone to) (Held x) (Leaving x to) (λ s. is_held s ≡ true) (λ _. refl) (λ _. refl)

  freed_waits : (to : KeyId) (s : Slot) → waits_for to (freed gone s) ≡ true → (waits_for to s ≡ true) × (gone to ≡ false)
  freed_waits to Empty h = absurd (both_ways false refl h)
  freed_waits to (Held x) h = absurd (both_ways false refl h)
  freed_waits to (Leaving x w) h =
      let P : Slot → Type 0 = λ s. waits_for to s ≡ true → (same_key w to ≡ true) × (gone to ≡ false) in
      cond_both (gone w) (Held x) (Leaving x w) P (λ _ e. absurd (both_ways false refl e)) (λ stays e. (e, ap gone (sym (same_key_lem w to e)) ∙ stays)) h

  freed-apart : (k : KeyId) (s : Slot) → waits_for k s ≡ false → waits_for k (freed gone s) ≡ false
  freed-apart k Empty h = refl
  freed-apart k (Held x) h = refl
  freed-apart k (Leaving x to) h = cond_both (gone to) (Held x) (Leaving x to) (λ s. waits_for k s ≡ false) (λ _. refl) (λ _. h)

  module _ (f : KeyId → Slot) where
    abbrev kept : KeyId → Slot
    kept j = cond (gone j) Empty (freed gone (f j))

    still_held : (j : KeyId) → gone j ≡ false → is_held (f j) ≡ true → is_held (kept j) ≡ true
    still_held j stays h = ap is_held (cond-false (gone j) Empty (freed gone (f j)) stays) ∙ freed_held (f j) h

    sends : (o instead : Option KeyId) (k : KeyId) → ((j : KeyId) → instead ≡ Some j → is_held (kept j) ≡ true) → ((j : KeyId) → o ≡ Some j → is_held (f j) ≡ true)
        → sending_after gone instead o ≡ Some k → is_held (kept k) ≡ true
    sends None instead k other was h = absurd (none_some k h)
    sends (Some j) instead k other was h =
        cond_both (gone j) instead (Some j) (λ s. s ≡ Some k → is_held (kept k) ≡ true)
        (λ _ e. other k e)
        (λ stays e. subst (λ (i : KeyId). is_held (kept i) ≡ true) (some_same j k e) (still_held j stays (was j refl))) h

    kept_sound : (o instead : Option KeyId) → ((j : KeyId) → instead ≡ Some j → is_held (kept j) ≡ true) → Sound f o → Sound kept (sending_after gone instead o)
    kept_sound o instead other h = record {
      sending = λ k e. sends o instead k other h.sending e;
      waiting = λ j to. cond_both (gone j) Empty (freed gone (f j)) (λ x. waits_for to x ≡ true → is_held (kept to) ≡ true)
          (λ _ e. absurd (both_ways false refl e))
          (λ _ e. let w = freed_waits to (f j) e in still_held to w.1 (h.waiting j to w.0));
      apart = λ j. cond_both (gone j) Empty (freed gone (f j)) (λ x. waits_for j x ≡ false) (λ _. refl) (λ _. freed-apart j (f j) (h.apart j));
    }

emptied_sound : (which : Dropped) (instead : Option KeyId) (ks : Keys) → ((j : KeyId) → instead ≡ Some j → is_held (kept_in (is_gone which ks.slots) ks.slots j) ≡ true) → SoundKeys ks → SoundKeys (emptied which instead ks)
emptied_sound which instead ks other h = from_view _ _ (kept_sound (is_gone which ks.slots) (slot_of ks.slots) ks.sending instead other (to_view ks h))

-- ---- each change

needed : {X : Type 0} (P : X → Type 0) (test : Bool) (e : Fault) (x : X) → (test ≡ true → P x) → IfOk (need test e (Ok x)) P
needed P true e x h = h refl
needed P false e x h = tt

drop_sound : (k : KeyId) (ks : Keys) → SoundKeys ks → IfSome (dropped k ks) SoundKeys
drop_sound k ks h = cond_both (holds ks k) _ _ (λ c. IfSome c SoundKeys) (λ _. emptied_sound (Key k) None ks (λ j e. absurd (none_some j e)) h) (λ _. tt)

swap_sound : (new old : KeyId) (x : Keyset) (ks : Keys) → SoundKeys ks → IfOk (swapped new old x ks) (λ c. IfSome c SoundKeys)
swap_sound new old x ks h =
    let P : Result _ Fault → Type 0 = λ r. IfOk r (λ c. IfSome c SoundKeys) in
    cond_both (holds ks old) _ _ P
    (λ there. cond_both (same_key new old) _ _ P (λ _. plain new x ks h) (λ differ. needed (λ c. IfSome c SoundKeys) (not (holds ks new)) _ _ (λ _. replaced_sound new old x ks h there differ)))
    (λ _. tt)

used_sound : (k : KeyId) (ks : Keys) → SoundKeys ks → holds ks k ≡ true → SoundKeys (used k ks)
used_sound k ks h there =
    emptied_sound (WaitingFor k) (Some k) ks
    (λ j e. subst (λ (i : KeyId). is_held (kept_in (is_gone (WaitingFor k) ks.slots) ks.slots i) ≡ true) (some_same k j e) (still_held (is_gone (WaitingFor k) ks.slots) (slot_of ks.slots) k (h.apart k) there)) h

pub rules_are_kept : RulesAreKept
rules_are_kept = record {
  first = first_sound;
  give = λ k x ks h. needed SoundKeys (not (holds ks k)) _ _ (λ _. plain k x ks h);
  choose = λ k ks h. needed SoundKeys (holds ks k) _ _ (λ there. record { sending = λ j e. subst (λ (i : KeyId). holds ks i ≡ true) (some_same k j e) there; waiting = h.waiting; apart = h.apart });
  drop = drop_sound;
  swap = swap_sound;
  accept = used_sound;
}
