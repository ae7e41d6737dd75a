-- What is found under each ID follows the calls. Assumes nothing.
use Rattle.std.proofs.Common.{None, ◌≡◌, ℕ, zero, suc, ◌+◌, ◌-◌, ◌≤◌, Bool, true, false, cond, not, [], ◌∷◌, length, is_some, Some, Ok, Err, Option, Result, sym, refl, ap, ◌∙◌, arith}
use mathlib.Core.Path.{fun_ext}
use Rattle.std.proofs.lemmas.Bool.{cond_both, both_ways, not-true}
use Rattle.std.specs.List.{insert}
use Rattle.refusal.specs.declared.Fault.{Fault}
use Rattle.refusal.specs.Tests.{and_then}
use Rattle.refusal.proofs.Rows.{need_held}
use Rattle.wire.specs.declared.id.SessionId.{SessionId}
use Rattle.wire.specs.Ids.{same_id}
use Rattle.session.specs.declared.session.Session.{Session}
use Rattle.store.specs.Stores.{Pairs, lookup, has, apart, replaced, without, add_answer, Added}
use Rattle.store.proofs.Finding.{found_after}
use Rattle.arguments.specs.Arguments.{id_asked}
use Rattle.endpoint.specs.Ends.{EndMeaning, viewed, with_pairs, put_back}
use Rattle.endpoint.specs.Hearing.{hearing, accepted_of}
use Rattle.endpoint.specs.Sealing.{sealing, sealed_of}
use Rattle.endpoint.specs.KeyCalls.{giving, choosing, dropping, swapping, changed_pairs, effect_pairs}
use Rattle.endpoint.specs.SessionCalls.{beginning, Begun, removed}
use Rattle.endpoint.specs.Views.{finding, put_look, put_view, change_view, effect_view, add_view, begin_view, take_view, ViewsFollow}

-- ---- how many there are

length_put : (id : SessionId) (s : Session) (l : Pairs) → length (replaced l id s) ≡ length l
length_put id s [] = refl
length_put id s (p ∷ ps) = cond_both (same_id p.0 id) ((id, s) ∷ ps) (p ∷ replaced ps id s) (λ (l : Pairs). length l ≡ suc (length ps)) (λ _. refl) (λ _. ap suc (length_put id s ps))

length-take : (id : SessionId) (l : Pairs) → length (without l id) ≡ cond (has l id) (length l - 1) (length l)
length-take id [] = refl
length-take id (p ∷ ps) =
    let P : Bool → Type 0 = λ b. length (cond b ps (p ∷ without ps id)) ≡ cond (is_some (cond b (Some p.1) (lookup ps id))) (suc (length ps) - 1) (suc (length ps)) in
    elim (same_id p.0 id) as P [
      | true ↦ (omega arith)
      | false ↦ ap suc (length-take id ps) ∙ under (has ps id) (length ps) (some_one id ps)
    ]
  where
    -- where an ID is there is a pair
    some_one : (id : SessionId) (l : Pairs) → has l id ≡ true → 1 ≤ length l
    some_one id [] h = let z : true ≡ false = sym h in absurd (both_ways true z refl)
    some_one id (q ∷ qs) h = omega arith

    under : (b : Bool) (n : ℕ) → (b ≡ true → 1 ≤ n) → suc (cond b (n - 1) n) ≡ cond b (suc n - 1) (suc n)
    under true n h = let k = h refl in omega arith
    under false n h = refl

length_add : (l : Pairs) (k : ℕ) (p : SessionId × Session) → length (insert l k p) ≡ length l + 1
length_add [] zero p = refl
length_add [] (suc k) p = refl
length_add (q ∷ qs) zero p = omega arith
length_add (q ∷ qs) (suc k) p = let h = length_add qs k p in omega arith

-- ---- a view by its parts

by_parts : (e : EndMeaning) (after : Pairs) (look : SessionId → Option Session) (n : ℕ) → lookup after ≡ look → length after ≡ n → viewed (with_pairs e after) ≡ finding (viewed e) look n
by_parts e after look n h k = ap (λ (f : SessionId → Option Session). finding (viewed e) f (length after)) h ∙ ap (λ (m : ℕ). finding (viewed e) look m) k

put_view_lem : (e : EndMeaning) (id : SessionId) (s : Session) → viewed (with_pairs e (replaced e.pairs id s)) ≡ finding (viewed e) (put_look (lookup e.pairs) id s) (length e.pairs)
put_view_lem e id s = by_parts e (replaced e.pairs id s) _ _ (fun_ext (λ j. found_after.put e.pairs id s j)) (length_put id s e.pairs)

done : (e : EndMeaning) (r : Result (SessionId × Session) Fault) → viewed (with_pairs e (put_back r e.pairs)) ≡ put_view (viewed e) r
done e (Ok p) = put_view_lem e p.0 p.1
done e (Err x) = refl

changed : (e : EndMeaning) (id : SessionId) (c : Option Session) → viewed (with_pairs e (changed_pairs e.pairs id c)) ≡ change_view (viewed e) id c
changed e id (Some s) = put_view_lem e id s
changed e id None = refl

effect : (e : EndMeaning) (r : Result (SessionId × Option Session) Fault) → viewed (with_pairs e (effect_pairs r e.pairs)) ≡ effect_view (viewed e) r
effect e (Ok p) = changed e p.0 p.1
effect e (Err x) = refl

ended : (e : EndMeaning) (r : Result SessionId Fault) → apart e.pairs ≡ true → viewed (with_pairs e (removed e.pairs r)) ≡ take_view (viewed e) r
ended e (Ok id) h = by_parts e (without e.pairs id) _ _ (fun_ext (λ j. found_after.take e.pairs id h j)) (length-take id e.pairs)
ended e (Err x) h = refl

added : (e : EndMeaning) (after : Pairs) (p : SessionId × Session) (r : Result (Unit {0}) Fault) → r ≡ add_answer e.pairs e.room p.0 → Added e.pairs after p.0 p.1 r → viewed (with_pairs e after) ≡ add_view (viewed e) p r
added e after p (Err x) is a = by_parts e after (lookup e.pairs) (length e.pairs) (ap lookup a) (ap (λ (l : Pairs). length l) a)
added e after p (Ok u) is a =
    let free : has e.pairs p.0 ≡ false = not-true (has e.pairs p.0) (need_held (not (has e.pairs p.0)) _ _ u (sym is)).0 in
    by_parts e after _ _
    (ap lookup a.2 ∙ fun_ext (λ j. found_after.add e.pairs a.0 p.0 p.1 free j))
    (ap (λ (l : Pairs). length l) a.2 ∙ length_add e.pairs a.0 p)

begun : (e : EndMeaning) (after : Pairs) (r : Result (SessionId × Session) Fault)
    → Begun e.pairs after r (and_then r (λ p. add_answer e.pairs e.room p.0)) → viewed (with_pairs e after) ≡ begin_view (viewed e) r (and_then r (λ p. add_answer e.pairs e.room p.0))
begun e after (Ok p) b = added e after p _ refl b
begun e after (Err x) b = by_parts e after (lookup e.pairs) (length e.pairs) (ap lookup b) (ap (λ (l : Pairs). length l) b)

pub views_follow : ViewsFollow
views_follow = record {
  begin = λ e after id raw k x b. begun e after (beginning (viewed e) id raw k x) b;
  give = λ e id k x. done e (giving (viewed e) id k x);
  choose = λ e id k. done e (choosing (viewed e) id k);
  drop = λ e id k. effect e (dropping (viewed e) id k);
  swap = λ e id new old x. effect e (swapping (viewed e) id new old x);
  seal = λ e plane id content room. done e (sealed_of plane (sealing (viewed e) plane id content room));
  hear = λ e m. done e (accepted_of (hearing (viewed e) m));
  end = λ e id h. ended e (id_asked id) h;
}
