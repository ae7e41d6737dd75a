-- Every call keeps the rules of all sessions. Assumes nothing.
use Rattle.std.specs.Prelude.{ℕ, List}
use Rattle.suite.specs.declared.Keyset.{Keyset}
use Rattle.wire.specs.declared.parties.Plane.{Plane}
use Rattle.store.specs.Stores.{Pairs}
use Rattle.store.specs.StoreLaws.{Kept}
use Rattle.arguments.specs.declared.RawSettings.{RawSettings}
use Rattle.endpoint.specs.Ends.{EndMeaning, viewed}
use Rattle.endpoint.specs.Hearing.{hear_end}
use Rattle.endpoint.specs.Sealing.{seal_end}
use Rattle.endpoint.specs.KeyCalls.{giving, choosing, dropping, swapping, done_end, effect_end}
use Rattle.endpoint.specs.SessionCalls.{beginning, begin_answer, Begun, end_end}

-- no ID stands twice, and every session keeps its rules, before a call and so after it
pub record RulesAreKept : Type 0 where
  pub begin : (e : EndMeaning) (after : Pairs) (id : List ℕ) (raw : RawSettings) (k : ℕ) (x : Keyset)
      → Begun e.pairs after (beginning (viewed e) id raw k x) (begin_answer (viewed e) id raw k x) → Kept e.pairs → Kept after
  pub give : (e : EndMeaning) (id : List ℕ) (k : ℕ) (x : Keyset) → Kept e.pairs → Kept (done_end e (giving (viewed e) id k x)).pairs
  pub choose : (e : EndMeaning) (id : List ℕ) (k : ℕ) → Kept e.pairs → Kept (done_end e (choosing (viewed e) id k)).pairs
  pub drop : (e : EndMeaning) (id : List ℕ) (k : ℕ) → Kept e.pairs → Kept (effect_end e (dropping (viewed e) id k)).pairs
  pub swap : (e : EndMeaning) (id : List ℕ) (new old : ℕ) (x : Keyset) → Kept e.pairs → Kept (effect_end e (swapping (viewed e) id new old x)).pairs
  pub seal : (e : EndMeaning) (plane : Plane) (id content : List ℕ) (room : ℕ) → Kept e.pairs → Kept (seal_end e plane id content room).pairs
  pub hear : (e : EndMeaning) (m : List ℕ) → Kept e.pairs → Kept (hear_end e m).pairs
  pub end : (e : EndMeaning) (id : List ℕ) → Kept e.pairs → Kept (end_end e id).pairs
