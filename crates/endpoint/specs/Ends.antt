-- What an end means: its role, its sessions, and the meaning of its suite. Assumes nothing.
use Rattle.std.specs.Prelude.{◌≡◌, ℕ, length, Ok, Err, Option, Result}
use Rattle.std.specs.Option.{ok_or}
use Rattle.refusal.specs.declared.Fault.{Fault}
use Rattle.refusal.specs.declared.Refusal.TheVariants.{NoSession}
use Rattle.refusal.specs.Refusals.{fault_at}
use Rattle.wire.specs.declared.id.SessionId.{SessionId}
use Rattle.wire.specs.declared.parties.Role.{Role}
use Rattle.message.specs.Messages.{Keystream, Tag}
use Rattle.session.specs.declared.session.Session.{Session}
use Rattle.store.specs.Stores.{Pairs, lookup, replaced}
use Rattle.suite.specs.declared.Suite.{Ghosts}
use Rattle.store.specs.declared.store.SessionStore as stores

-- an end as its callers see it
pub record EndState (C : Type 0) : Type 0 where
  pub role : Role
  -- the sessions, and how many there is room for
  pub pairs : Pairs
  pub room : ℕ
  pub suite : C

-- the sessions and the room are those of some store of this type
abbrev pub HeldInStore : {S C : Type 0} → stores.Ghosts S → EndState C → Type 0
HeldInStore {S} of_type e = (store : S) × (e.pairs ≡ of_type.pairs store) × (e.room ≡ of_type.capacity store)

-- an end with what its suite means in the place of the suite
pub record EndMeaning : Type 0 where
  pub role : Role
  -- the sessions, and how many there is room for
  pub pairs : Pairs
  pub room : ℕ
  -- the suite, and how many octets its tags have
  pub keystream : Keystream
  pub tag : Tag
  pub size : ℕ

-- the meaning of an end, by what suites of its type mean
abbrev pub meaning : {C : Type 0} → Ghosts C → EndState C → EndMeaning
meaning suites e = record {
  role = e.role;
  pairs = e.pairs;
  room = e.room;
  keystream = suites.keystream e.suite;
  tag = suites.tag_of e.suite;
  size = suites.size e.suite;
}

-- what an end's answers depend on: of its sessions only which one is found under each ID, and how many there are
pub record EndView : Type 0 where
  pub role : Role
  pub look : SessionId → Option Session
  pub count : ℕ
  pub room : ℕ
  pub keystream : Keystream
  pub tag : Tag
  pub size : ℕ

abbrev pub viewed : EndMeaning → EndView
viewed e = record {
  role = e.role;
  look = lookup e.pairs;
  count = length e.pairs;
  room = e.room;
  keystream = e.keystream;
  tag = e.tag;
  size = e.size;
}

-- an end with other sessions
abbrev pub with_pairs : EndMeaning → Pairs → EndMeaning
with_pairs e l = record { role = e.role; pairs = l; room = e.room; keystream = e.keystream; tag = e.tag; size = e.size }

-- the session of an ID, which has to be there; the place is that of the ID in a message, else 0
abbrev pub found : (SessionId → Option Session) → SessionId → ℕ → Result Session Fault
found look id place = ok_or (look id) (fault_at NoSession place)

-- the sessions after a call that answers one of them changed, or refuses
abbrev pub put_back : Result (SessionId × Session) Fault → Pairs → Pairs
put_back (Ok p) l = replaced l p.0 p.1
put_back (Err e) l = l
