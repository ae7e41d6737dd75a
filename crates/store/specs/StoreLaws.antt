-- What holds of every session store, whatever its places are. Assumes nothing.
use Rattle.std.specs.Prelude.{◌≡◌, ℕ, true, false, cond, ◌&&◌, [], ◌∷◌, Some, None}
use Rattle.std.specs.List.{insert}
use Rattle.wire.specs.declared.id.SessionId.{SessionId}
use Rattle.wire.specs.Ids.{same_id}
use Rattle.session.specs.declared.session.Session.{Session}
use Rattle.session.specs.Rules.{Sound}
use Rattle.store.specs.Stores.{Pairs, lookup, has, apart, replaced, without}

abbrev pub AllSound : Pairs → Type 0
AllSound [] = Unit {0}
AllSound (p ∷ ps) = Sound p.1 × AllSound ps

-- no ID stands twice, and every session keeps its rules
pub record Kept (l : Pairs) : Type 0 where
  pub apart : apart l ≡ true
  pub sound : AllSound l

-- an empty store keeps the rules, and so does every change to a session that keeps its own
pub record RulesAreKept : Type 0 where
  pub empty : Kept []
  pub look : (l : Pairs) (id : SessionId) (s : Session) → Kept l → lookup l id ≡ Some s → Sound s
  pub add : (l : Pairs) (k : ℕ) (id : SessionId) (s : Session) → Kept l → has l id ≡ false → Sound s → Kept (insert l k (id, s))
  pub put : (l : Pairs) (id : SessionId) (s : Session) → Kept l → Sound s → Kept (replaced l id s)
  pub take : (l : Pairs) (id : SessionId) → Kept l → Kept (without l id)

-- what is found under any ID after a change, wherever a new pair stands
pub record FoundAfter : Type 0 where
  pub add : (l : Pairs) (k : ℕ) (id : SessionId) (s : Session) → has l id ≡ false → (j : SessionId) → lookup (insert l k (id, s)) j ≡ cond (same_id id j) (Some s) (lookup l j)
  pub put : (l : Pairs) (id : SessionId) (s : Session) (j : SessionId) → lookup (replaced l id s) j ≡ cond (has l id && same_id id j) (Some s) (lookup l j)
  pub take : (l : Pairs) (id : SessionId) → apart l ≡ true → (j : SessionId) → lookup (without l id) j ≡ cond (same_id id j) None (lookup l j)
