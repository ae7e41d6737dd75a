-- What every session keeps. Assumes nothing.
use Rattle.std.specs.Prelude.{◌≡◌, ℕ, ◌+◌, ◌≤◌, Bool, ◌&&◌, IfOk, IfSome, Ok, nat_le}
use Rattle.suite.specs.declared.Keyset.{Keyset}
use Rattle.wire.specs.declared.parties.Plane.{Plane}
use Rattle.keys.specs.declared.id.KeyId.{KeyId}
use Rattle.keys.specs.declared.keys.HeldKey.{HeldKey}
use Rattle.keys.specs.Rules.{SoundKeys}
use Rattle.session.specs.declared.session.Settings.{Settings}
use Rattle.session.specs.declared.session.Session.{Session}
use Rattle.session.specs.Counting.{last_counter}
use Rattle.session.specs.Sessions.{new_session, counters_of, given, chosen, dropped, swapped, admission, accepted, sealed}

pub record Sound (s : Session) : Type 0 where
  pub leap : 1 ≤ s.settings.leap
  -- no more were accepted than counters went by
  pub counts : (plane : Plane) → (counters_of s plane).accepted ≤ (counters_of s plane).last_accepted
  pub keys : SoundKeys s.keys

-- the first two rules as a test
abbrev pub counts_test : Session → Bool
counts_test s = nat_le 1 s.settings.leap && (nat_le s.control.accepted s.control.last_accepted && nat_le s.user.accepted s.user.last_accepted)

-- a message with this counter is admitted on a plane, under the key that it names, and accepted
abbrev pub After : Session → Plane → ℕ → ℕ → (Session → Type 0) → Type 0
After s plane key n P = (h : HeldKey) → admission s plane key n ≡ Ok h → P (accepted s plane h.id n)

-- every change keeps the rules, and then each message accepted is counted
pub record RulesAreKept : Type 0 where
  pub new : (settings : Settings) (k : KeyId) (x : Keyset) → 1 ≤ settings.leap → Sound (new_session settings k x)
  pub give : (k : KeyId) (x : Keyset) (s : Session) → Sound s → IfOk (given k x s) Sound
  pub choose : (k : KeyId) (s : Session) → Sound s → IfOk (chosen k s) Sound
  pub drop : (k : KeyId) (s : Session) → Sound s → IfSome (dropped k s) Sound
  pub swap : (new old : KeyId) (x : Keyset) (s : Session) → Sound s → IfOk (swapped new old x s) (λ c. IfSome c Sound)
  pub accept : (s : Session) (plane : Plane) (key n : ℕ) → Sound s → After s plane key n Sound
  pub count : (s : Session) (plane : Plane) (key n : ℕ) → n ≤ last_counter → Sound s → After s plane key n (λ t. (counters_of t plane).accepted ≡ (counters_of s plane).accepted + 1)
  pub seal : (s : Session) (plane : Plane) (n : ℕ) → Sound s → Sound (sealed s plane n)
