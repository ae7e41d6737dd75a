-- What is done with keys. Assumes nothing.
use Rattle.std.specs.Prelude.{ℕ, Bool, cond, not, Some, None, Ok, Err, Option, Result}
use Rattle.std.specs.Option.{ok_or}
use Rattle.refusal.specs.declared.Fault.{Fault}
use Rattle.refusal.specs.declared.Refusal.TheVariants.{KeyNotHeld, NoSendingKey, KeyInUse}
use Rattle.refusal.specs.Refusals.{fault_at}
use Rattle.refusal.specs.Tests.{need}
use Rattle.suite.specs.declared.Keyset.{Keyset}
use Rattle.keys.specs.declared.id.KeyId.{KeyId}
use Rattle.keys.specs.declared.record.Slot.TheVariants.{Held}
use Rattle.keys.specs.declared.record.Dropped.{Dropped}
use Rattle.keys.specs.declared.record.Dropped.TheVariants.{Key, WaitingFor}
use Rattle.keys.specs.declared.keys.Keys.{Keys}
use Rattle.keys.specs.declared.keys.HeldKey.{HeldKey}
use Rattle.keys.specs.Ids.{same_key, key_of}
use Rattle.keys.specs.Slots.{keyset_in, is_held, left_for, slot_of, no_keys, with_slot, is_gone, without}

-- a key is held under this Key ID
abbrev pub holds : Keys → KeyId → Bool
holds ks k = is_held (slot_of ks.slots k)

-- the key of a Key ID, if it is held
abbrev pub held_as : KeyId → Option Keyset → Option HeldKey
held_as k None = None
held_as k (Some x) = Some (record { id = k; keyset = x })

abbrev pub held_key : Keys → KeyId → Option HeldKey
held_key ks k = held_as k (keyset_in (slot_of ks.slots k))

-- a key that has to be held
abbrev pub held_or : Fault → Keys → Option KeyId → Result HeldKey Fault
held_or e ks None = Err e
held_or e ks (Some k) = ok_or (held_key ks k) e

-- the key that a message names
abbrev pub receiving_key : ℕ → Keys → Result HeldKey Fault
receiving_key n ks = held_or (fault_at KeyNotHeld 0) ks (key_of n)

-- the key that is sent with
abbrev pub sending_key : Keys → Result HeldKey Fault
sending_key ks = held_or (fault_at NoSendingKey 0) ks ks.sending

-- one key, with which is sent
abbrev pub first_key : KeyId → Keyset → Keys
first_key k x = record { slots = with_slot k (Held x) no_keys; sending = Some k }

abbrev pub filled : KeyId → Keyset → Keys → Keys
filled k x ks = record { slots = with_slot k (Held x) ks.slots; sending = ks.sending }

abbrev pub given : KeyId → Keyset → Keys → Result Keys Fault
given k x ks = need (not (holds ks k)) (fault_at KeyInUse 0) (Ok (filled k x ks))

abbrev pub chosen : KeyId → Keys → Result Keys Fault
chosen k ks = need (holds ks k) (fault_at KeyNotHeld 0) (Ok (record { slots = ks.slots; sending = Some k }))

-- the sending key, or what stands in for it if it is gone
abbrev pub sending_after : (KeyId → Bool) → Option KeyId → Option KeyId → Option KeyId
sending_after gone instead None = None
sending_after gone instead (Some k) = cond (gone k) instead (Some k)

-- some keys are gone
abbrev pub emptied : Dropped → Option KeyId → Keys → Keys
emptied which instead ks = record {
  slots = without (is_gone which ks.slots) ks.slots;
  sending = sending_after (is_gone which ks.slots) instead ks.sending;
}

abbrev pub dropped : KeyId → Keys → Option Keys
dropped k ks = cond (holds ks k) (Some (emptied (Key k) None ks)) None

-- the new key is filled in, and the old one leaves
abbrev pub replaced_by : KeyId → KeyId → Keyset → Keys → Keys
replaced_by new old x ks = record {
  slots = with_slot old (left_for new (slot_of ks.slots old)) (with_slot new (Held x) ks.slots);
  sending = ks.sending;
}

abbrev pub swapped : KeyId → KeyId → Keyset → Keys → Result (Option Keys) Fault
swapped new old x ks =
    cond (holds ks old)
    (cond (same_key new old) (Ok (Some (filled new x ks)))
    (need (not (holds ks new)) (fault_at KeyInUse 0) (Ok (Some (replaced_by new old x ks)))))
    (Ok None)

-- a message was accepted under this key: those that waited for it are dropped, and it sends in their place
abbrev pub used : KeyId → Keys → Keys
used k ks = emptied (WaitingFor k) (Some k) ks
