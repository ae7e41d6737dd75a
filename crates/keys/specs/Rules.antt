-- What the keys of every session keep. Assumes nothing.
use Rattle.std.specs.Prelude.{◌≡◌, Bool, true, false, not, ◌&&◌, List, [], ◌∷◌, IfOk, IfSome, Some, None, Option}
use Rattle.std.specs.List.{list_all}
use Rattle.suite.specs.declared.Keyset.{Keyset}
use Rattle.keys.specs.declared.id.KeyId.{KeyId}
use Rattle.keys.specs.declared.id.KeyId.TheVariants.{One, Two, Three, Four, Five, Six, Seven}
use Rattle.keys.specs.declared.record.Slot.{Slot}
use Rattle.keys.specs.declared.record.Slot.TheVariants.{Empty, Held, Leaving}
use Rattle.keys.specs.declared.keys.Keys.{Keys}
use Rattle.keys.specs.Ids.{same_key}
use Rattle.keys.specs.Slots.{waits_for, slot_of}
use Rattle.keys.specs.Changes.{holds, first_key, given, chosen, dropped, swapped, used}

pub record SoundKeys (ks : Keys) : Type 0 where
  -- the sending key is in its slot
  pub sending : (k : KeyId) → ks.sending ≡ Some k → holds ks k ≡ true
  -- a key that leaves waits for a key that is there
  pub waiting : (k to : KeyId) → waits_for to (slot_of ks.slots k) ≡ true → holds ks to ≡ true
  -- and never for itself
  pub apart : (k : KeyId) → waits_for k (slot_of ks.slots k) ≡ false

-- the same rules as tests, of one slot and of the sending key
abbrev pub slot_test : Keys → KeyId → Slot → Bool
slot_test ks k Empty = true
slot_test ks k (Held x) = true
slot_test ks k (Leaving x to) = not (same_key to k) && holds ks to

abbrev pub every_key : List KeyId
every_key = One ∷ Two ∷ Three ∷ Four ∷ Five ∷ Six ∷ Seven ∷ []

abbrev pub slots_test : Keys → Bool
slots_test ks = list_all (λ k. slot_test ks k (slot_of ks.slots k)) every_key

abbrev pub sending_test : Keys → Option KeyId → Bool
sending_test ks None = true
sending_test ks (Some k) = holds ks k

-- every change keeps the rules
pub record RulesAreKept : Type 0 where
  pub first : (k : KeyId) (x : Keyset) → SoundKeys (first_key k x)
  pub give : (k : KeyId) (x : Keyset) (ks : Keys) → SoundKeys ks → IfOk (given k x ks) SoundKeys
  pub choose : (k : KeyId) (ks : Keys) → SoundKeys ks → IfOk (chosen k ks) SoundKeys
  pub drop : (k : KeyId) (ks : Keys) → SoundKeys ks → IfSome (dropped k ks) SoundKeys
  pub swap : (new old : KeyId) (x : Keyset) (ks : Keys) → SoundKeys ks → IfOk (swapped new old x ks) (λ c. IfSome c SoundKeys)
  pub accept : (k : KeyId) (ks : Keys) → SoundKeys ks → holds ks k ≡ true → SoundKeys (used k ks)
