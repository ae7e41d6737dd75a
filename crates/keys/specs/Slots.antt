-- Seven slots, one for each Key ID. Assumes nothing.
use Rattle.std.specs.Prelude.{Bool, false, cond, is_some, Some, None, Option}
use Rattle.suite.specs.declared.Keyset.{Keyset}
use Rattle.keys.specs.declared.id.KeyId.{KeyId}
use Rattle.keys.specs.declared.id.KeyId.TheVariants.{One, Two, Three, Four, Five, Six, Seven}
use Rattle.keys.specs.declared.record.Slot.{Slot}
use Rattle.keys.specs.declared.record.Slot.TheVariants.{Empty, Held, Leaving}
use Rattle.keys.specs.declared.record.Dropped.{Dropped}
use Rattle.keys.specs.declared.record.Dropped.TheVariants.{Key, WaitingFor}
use Rattle.keys.specs.declared.record.KeyRecord.{KeyRecord}
use Rattle.keys.specs.Ids.{same_key}

-- ---- one slot

abbrev pub keyset_in : Slot → Option Keyset
keyset_in Empty = None
keyset_in (Held x) = Some x
keyset_in (Leaving x to) = Some x

-- a key counts as held while it is leaving
abbrev pub is_held : Slot → Bool
is_held slot = is_some (keyset_in slot)

abbrev pub waits_for : KeyId → Slot → Bool
waits_for k Empty = false
waits_for k (Held x) = false
waits_for k (Leaving x to) = same_key to k

-- a key that leaves, waiting for the new one
abbrev pub left_for : KeyId → Slot → Slot
left_for new Empty = Empty
left_for new (Held x) = Leaving x new
left_for new (Leaving x to) = Leaving x new

-- a key that waited for one that is gone is plainly held
abbrev pub freed : (KeyId → Bool) → Slot → Slot
freed gone Empty = Empty
freed gone (Held x) = Held x
freed gone (Leaving x to) = cond (gone to) (Held x) (Leaving x to)

-- ---- the record

abbrev pub slot_of : KeyRecord → KeyId → Slot
slot_of r One = r.key1
slot_of r Two = r.key2
slot_of r Three = r.key3
slot_of r Four = r.key4
slot_of r Five = r.key5
slot_of r Six = r.key6
slot_of r Seven = r.key7

-- the record whose slots a function gives
abbrev pub each : (KeyId → Slot) → KeyRecord
each f = record { key1 = f One; key2 = f Two; key3 = f Three; key4 = f Four; key5 = f Five; key6 = f Six; key7 = f Seven }

abbrev pub no_keys : KeyRecord
no_keys = each (λ _. Empty)

-- the record with another slot at one Key ID
abbrev pub with_slot : KeyId → Slot → KeyRecord → KeyRecord
with_slot k slot r = each (λ j. cond (same_key j k) slot (slot_of r j))

-- the keys that are dropped: one, or those that wait for one
abbrev pub is_gone : Dropped → KeyRecord → KeyId → Bool
is_gone (Key k) r j = same_key j k
is_gone (WaitingFor k) r j = waits_for k (slot_of r j)

abbrev pub kept_in : (KeyId → Bool) → KeyRecord → KeyId → Slot
kept_in gone r j = cond (gone j) Empty (freed gone (slot_of r j))

-- the record without some keys
abbrev pub without : (KeyId → Bool) → KeyRecord → KeyRecord
without gone r = each (kept_in gone r)
