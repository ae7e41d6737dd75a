-- The tests of the rules decide them. Assumes nothing.
use Rattle.std.proofs.Common.{◌≡◌, Bool, true, false, not, List, [], ◌∷◌, Some, None, Decides, Option, sym, refl, ap, ◌∙◌}
use Rattle.std.proofs.lemmas.Bool.{both_ways, not-true, not_from_false, and_parts, and_from}
use Rattle.std.specs.List.{list_all}
use Rattle.keys.specs.declared.id.KeyId.{KeyId}
use Rattle.keys.specs.declared.id.KeyId.TheVariants.{One, Two, Three, Four, Five, Six, Seven}
use Rattle.keys.specs.declared.record.Slot.{Slot}
use Rattle.keys.specs.declared.record.Slot.TheVariants.{Empty, Held, Leaving}
use Rattle.keys.specs.declared.keys.Keys.{Keys}
use Rattle.keys.specs.Ids.{same_key}
use Rattle.keys.specs.Slots.{waits_for, slot_of}
use Rattle.keys.specs.Changes.{holds}
use Rattle.keys.specs.Rules.{SoundKeys, slot_test, slots_test, sending_test, every_key}
use Rattle.keys.proofs.Views.{none_some, some_same, same_key_lem, same_self}

sends : (ks : Keys) (o : Option KeyId) → sending_test ks o ≡ true → (k : KeyId) → o ≡ Some k → holds ks k ≡ true
sends ks None t k e = absurd (none_some k e)
sends ks (Some j) t k e = ap (holds ks) (sym (some_same j k e)) ∙ t

module _ (ks : Keys) (k : KeyId) where
  waits : (s : Slot) → slot_test ks k s ≡ true → (to : KeyId) → waits_for to s ≡ true → holds ks to ≡ true
  waits Empty t to e = absurd (both_ways false refl e)
  waits (Held x) t to e = absurd (both_ways false refl e)
  waits (Leaving x w) t to e = ap (holds ks) (sym (same_key_lem w to e)) ∙ (and_parts (not (same_key w k)) (holds ks w) t).1

  apart : (s : Slot) → slot_test ks k s ≡ true → waits_for k s ≡ false
  apart Empty t = refl
  apart (Held x) t = refl
  apart (Leaving x w) t = not-true (same_key w k) (and_parts (not (same_key w k)) (holds ks w) t).0

  passes : (s : Slot) → ((to : KeyId) → waits_for to s ≡ true → holds ks to ≡ true) → waits_for k s ≡ false → slot_test ks k s ≡ true
  passes Empty h a = refl
  passes (Held x) h a = refl
  passes (Leaving x w) h a = and_from (not (same_key w k)) (holds ks w) (not_from_false (same_key w k) a) (h w (same_self w))

-- a test of every Key ID in the list is one of each
all_each : (t : KeyId → Bool) → list_all t every_key ≡ true → (k : KeyId) → t k ≡ true
all_each t h =
    let a = and_parts (t One) _ h in
    let b = and_parts (t Two) _ a.1 in
    let c = and_parts (t Three) _ b.1 in
    let d = and_parts (t Four) _ c.1 in
    let e = and_parts (t Five) _ d.1 in
    let f = and_parts (t Six) _ e.1 in
    let g = and_parts (t Seven) _ f.1 in
    elim [ One ↦ a.0 | Two ↦ b.0 | Three ↦ c.0 | Four ↦ d.0 | Five ↦ e.0 | Six ↦ f.0 | Seven ↦ g.0 ]

each_all : (t : KeyId → Bool) (ks : List KeyId) → ((k : KeyId) → t k ≡ true) → list_all t ks ≡ true
each_all t [] h = refl
each_all t (k ∷ ks) h = and_from (t k) _ (h k) (each_all t ks h)

pub tests_decide : (ks : Keys) (b : Bool) → sending_test ks ks.sending ≡ true → b ≡ slots_test ks → Decides b (SoundKeys ks)
tests_decide ks b sending is =
    let t : KeyId → Bool = λ k. slot_test ks k (slot_of ks.slots k) in (
      λ h.
          let each = all_each t (sym is ∙ h) in
          record { sending = sends ks ks.sending sending; waiting = λ k to e. waits ks k (slot_of ks.slots k) (each k) to e; apart = λ k. apart ks k (slot_of ks.slots k) (each k) },
      λ h. is ∙ each_all t every_key (λ k. passes ks k (slot_of ks.slots k) (h.waiting k) (h.apart k)),
    )
