-- What a session store means: a list of pairs of Session ID and session. Assumes nothing.
use Rattle.std.specs.Prelude.{◌≡◌, ℕ, zero, suc, ◌≤◌, Bool, true, cond, not, ◌&&◌, List, [], ◌∷◌, length, is_some, Some, None, Ok, Err, Option, Result, nat_lt}
use Rattle.std.specs.List.{insert}
use Rattle.refusal.specs.declared.Fault.{Fault}
use Rattle.refusal.specs.declared.Refusal.TheVariants.{NoSession, SessionPresent, StoreFull}
use Rattle.refusal.specs.Refusals.{fault_at}
use Rattle.refusal.specs.Tests.{need}
use Rattle.wire.specs.declared.id.SessionId.{SessionId}
use Rattle.wire.specs.Ids.{same_id}
use Rattle.session.specs.declared.session.Session.{Session}

abbrev pub Pair : Type 0
Pair = SessionId × Session

abbrev pub Pairs : Type 0
Pairs = List Pair

-- the session of an ID
abbrev pub lookup : Pairs → SessionId → Option Session
lookup [] id = None
lookup (p ∷ ps) id = cond (same_id p.0 id) (Some p.1) (lookup ps id)

abbrev pub has : Pairs → SessionId → Bool
has l id = is_some (lookup l id)

-- no ID stands twice
abbrev pub apart : Pairs → Bool
apart [] = true
apart (p ∷ ps) = not (has ps p.0) && apart ps

-- the ID of the n-th pair
abbrev pub name_at : Pairs → ℕ → Option SessionId
name_at [] n = None
name_at (p ∷ ps) zero = Some p.0
name_at (p ∷ ps) (suc n) = name_at ps n

-- another session for an ID; the other pairs, and the order, stay
abbrev pub replaced : Pairs → SessionId → Session → Pairs
replaced [] id s = []
replaced (p ∷ ps) id s = cond (same_id p.0 id) ((id, s) ∷ ps) (p ∷ replaced ps id s)

-- the pair of an ID left out; the others keep their order
abbrev pub without : Pairs → SessionId → Pairs
without [] id = []
without (p ∷ ps) id = cond (same_id p.0 id) ps (p ∷ without ps id)

abbrev pub add_answer : Pairs → ℕ → SessionId → Result (Unit {0}) Fault
add_answer l room id = need (not (has l id)) (fault_at SessionPresent 0) (need (nat_lt (length l) room) (fault_at StoreFull 0) (Ok tt))

abbrev pub need_answer : Pairs → SessionId → Result (Unit {0}) Fault
need_answer l id = need (has l id) (fault_at NoSession 0) (Ok tt)

-- a new pair stands at some position, and the others keep their order
abbrev pub Added : Pairs → Pairs → SessionId → Session → Result (Unit {0}) Fault → Type 0
Added l after id s (Ok u) = (k : ℕ) × (k ≤ length l) × (after ≡ insert l k (id, s))
Added l after id s (Err e) = after ≡ l
