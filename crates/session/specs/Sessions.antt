-- A session and its changes. Assumes nothing.
use Rattle.std.specs.Prelude.{ℕ, Some, None, Ok, Option, Result}
use Rattle.refusal.specs.declared.Fault.{Fault}
use Rattle.refusal.specs.Tests.{and_then}
use Rattle.suite.specs.declared.Keyset.{Keyset}
use Rattle.wire.specs.declared.parties.Plane.{Plane}
use Rattle.wire.specs.declared.parties.Role.{Role}
use Rattle.framing.specs.declared.format.Protection.{Protection}
use Rattle.wire.specs.declared.parties.Plane.TheVariants.{Control, User}
use Rattle.keys.specs.declared.id.KeyId.{KeyId}
use Rattle.keys.specs.declared.keys.Keys.{Keys}
use Rattle.keys.specs.declared.keys.HeldKey.{HeldKey}
use Rattle.keys.specs.Changes as keys
use Rattle.session.specs.declared.counters.Counters.{Counters}
use Rattle.session.specs.declared.session.Settings.{Settings}
use Rattle.session.specs.declared.session.Session.{Session}
use Rattle.session.specs.declared.session.Outgoing.{Outgoing}
use Rattle.session.specs.Counting.{new_counters, admitted, counted, next_counter, sealed_up_to}

-- a message from this sender is protected under these keys, in the session's format
abbrev pub protection_by : Settings → Role → Keyset → Protection
protection_by settings sender keys = record { keys = keys; sender = sender; format = settings.format }

abbrev pub new_session : Settings → KeyId → Keyset → Session
new_session settings k x = record { settings = settings; keys = keys.first_key k x; control = new_counters; user = new_counters }

abbrev pub counters_of : Session → Plane → Counters
counters_of s Control = s.control
counters_of s User = s.user

abbrev pub with_counters : Session → Plane → Counters → Session
with_counters s Control c = record { settings = s.settings; keys = s.keys; control = c; user = s.user }
with_counters s User c = record { settings = s.settings; keys = s.keys; control = s.control; user = c }

abbrev pub with_keys : Session → Keys → Session
with_keys s ks = record { settings = s.settings; keys = ks; control = s.control; user = s.user }

-- ---- keys; no counter moves

abbrev pub changed : Session → Option Keys → Option Session
changed s (Some ks) = Some (with_keys s ks)
changed s None = None

abbrev pub given : KeyId → Keyset → Session → Result Session Fault
given k x s = and_then (keys.given k x s.keys) (λ ks. Ok (with_keys s ks))

abbrev pub chosen : KeyId → Session → Result Session Fault
chosen k s = and_then (keys.chosen k s.keys) (λ ks. Ok (with_keys s ks))

abbrev pub dropped : KeyId → Session → Option Session
dropped k s = changed s (keys.dropped k s.keys)

abbrev pub swapped : KeyId → KeyId → Keyset → Session → Result (Option Session) Fault
swapped new old x s = and_then (keys.swapped new old x s.keys) (λ c. Ok (changed s c))

-- ---- messages

-- the key that a message names is held, and its counter may be accepted
abbrev pub admission : Session → Plane → ℕ → ℕ → Result HeldKey Fault
admission s plane key n =
    and_then (keys.receiving_key key s.keys) (λ h.
    and_then (admitted (counters_of s plane) n s.settings.leap) (λ _.
    Ok h))

abbrev pub accepted : Session → Plane → KeyId → ℕ → Session
accepted s plane k n = with_counters (with_keys s (keys.used k s.keys)) plane (counted (counters_of s plane) n)

abbrev pub outgoing : Session → Plane → Result Outgoing Fault
outgoing s plane =
    and_then (keys.sending_key s.keys) (λ h.
    and_then (next_counter (counters_of s plane)) (λ n.
    Ok (record { key = h; counter = n })))

abbrev pub sealed : Session → Plane → ℕ → Session
sealed s plane n = with_counters s plane (sealed_up_to (counters_of s plane) n)
