-- Stores keep the rules. Assumes nothing.
use Rattle.std.proofs.Common.{◌≡◌, ℕ, zero, suc, Bool, true, false, not, ◌&&◌, [], ◌∷◌, is_some, Some, None, Option, sym, refl, ap, ◌∙◌, subst, rules}
use Rattle.std.proofs.lemmas.Bool.{cond_both, cond-false, both_ways, and_parts, and_from, not_from_false}
use Rattle.std.specs.List.{insert}
use Rattle.wire.specs.declared.id.SessionId.{SessionId}
use Rattle.wire.specs.Ids.{same_id}
use Rattle.session.specs.declared.session.Session.{Session}
use Rattle.session.specs.Rules.{Sound}
use Rattle.store.specs.Stores.{Pairs, lookup, has, apart, replaced, without}
use Rattle.store.specs.StoreLaws.{AllSound, RulesAreKept}
use Rattle.store.proofs.Finding.{found_after, same_id_lem, apart_parts, absent_parts}

apart_from : (b c : Bool) → b ≡ false → c ≡ true → (not b && c) ≡ true
apart_from b c h k = and_from (not b) c (not_from_false b h) k

-- ---- which IDs are there

has_put : (l : Pairs) (id : SessionId) (s : Session) (j : SessionId) → has l j ≡ false → has (replaced l id s) j ≡ false
has_put l id s j h =
    ap is_some (found_after.put l id s j)
    ∙ cond_both (has l id && same_id id j) (Some s) (lookup l j) (λ (o : Option Session). is_some o ≡ false)
    (λ t. let p = and_parts (has l id) (same_id id j) t in absurd (both_ways (has l j) h (ap (has l) (sym (same_id_lem id j p.1)) ∙ p.0)))
    (λ _. h)

has-take : (l : Pairs) (id j : SessionId) → apart l ≡ true → has l j ≡ false → has (without l id) j ≡ false
has-take l id j a h =
    ap is_some (found_after.take l id a j)
    ∙ cond_both (same_id id j) None (lookup l j) (λ (o : Option Session). is_some o ≡ false) (λ _. refl) (λ _. h)

has_add : (l : Pairs) (k : ℕ) (id : SessionId) (s : Session) (j : SessionId) → has l id ≡ false → same_id id j ≡ false → has l j ≡ false → has (insert l k (id, s)) j ≡ false
has_add l k id s j a d h = ap is_some (found_after.add l k id s a j ∙ cond-false (same_id id j) (Some s) (lookup l j) d) ∙ h

-- ---- no ID twice

apart_put : (id : SessionId) (s : Session) (l : Pairs) → apart l ≡ true → apart (replaced l id s) ≡ true
apart_put id s [] h = refl
apart_put id s (p ∷ ps) h =
    let d = apart_parts (has ps p.0) (apart ps) h in
    cond_both (same_id p.0 id) ((id, s) ∷ ps) (p ∷ replaced ps id s) (λ (l : Pairs). apart l ≡ true)
    (λ t. subst (λ (i : SessionId). apart ((i, s) ∷ ps) ≡ true) (same_id_lem p.0 id t) h)
    (λ _. apart_from (has (replaced ps id s) p.0) (apart (replaced ps id s)) (has_put ps id s p.0 d.0) (apart_put id s ps d.1))

apart-take : (id : SessionId) (l : Pairs) → apart l ≡ true → apart (without l id) ≡ true
apart-take id [] h = refl
apart-take id (p ∷ ps) h =
    let d = apart_parts (has ps p.0) (apart ps) h in
    cond_both (same_id p.0 id) ps (p ∷ without ps id) (λ (l : Pairs). apart l ≡ true)
    (λ _. d.1)
    (λ _. apart_from (has (without ps id) p.0) (apart (without ps id)) (has-take ps id p.0 d.1 d.0) (apart-take id ps d.1))

apart_add : (id : SessionId) (s : Session) (l : Pairs) (k : ℕ) → apart l ≡ true → has l id ≡ false → apart (insert l k (id, s)) ≡ true
apart_add id s [] zero h a = refl
apart_add id s [] (suc k) h a = refl
apart_add id s (p ∷ ps) zero h a = apart_from (has (p ∷ ps) id) (apart (p ∷ ps)) a h
apart_add id s (p ∷ ps) (suc k) h a =
    let d = apart_parts (has ps p.0) (apart ps) h in
    let o = absent_parts (same_id p.0 id) p.1 (lookup ps id) a in
    apart_from (has (insert ps k (id, s)) p.0) (apart (insert ps k (id, s)))
    (has_add ps k id s p.0 o.1 (turned p.0 id o.0) d.0)
    (apart_add id s ps k d.1 o.1)
  where
    turned : (x y : SessionId) → same_id x y ≡ false → same_id y x ≡ false
    turned x y h = search rules

-- ---- every session keeps its rules

all_put : (id : SessionId) (s : Session) (l : Pairs) → AllSound l → Sound s → AllSound (replaced l id s)
all_put id s [] h k = tt
all_put id s (p ∷ ps) h k = cond_both (same_id p.0 id) ((id, s) ∷ ps) (p ∷ replaced ps id s) AllSound (λ _. (k, h.1)) (λ _. (h.0, all_put id s ps h.1 k))

all_take : (id : SessionId) (l : Pairs) → AllSound l → AllSound (without l id)
all_take id [] h = tt
all_take id (p ∷ ps) h = cond_both (same_id p.0 id) ps (p ∷ without ps id) AllSound (λ _. h.1) (λ _. (h.0, all_take id ps h.1))

all_add : (id : SessionId) (s : Session) (l : Pairs) (k : ℕ) → AllSound l → Sound s → AllSound (insert l k (id, s))
all_add id s [] zero h r = (r, tt)
all_add id s [] (suc k) h r = (r, tt)
all_add id s (p ∷ ps) zero h r = (r, h)
all_add id s (p ∷ ps) (suc k) h r = (h.0, all_add id s ps k h.1 r)

all_look : (id : SessionId) (s : Session) (l : Pairs) → AllSound l → lookup l id ≡ Some s → Sound s
all_look id s [] h e = absurd (both_ways true (sym (ap is_some e)) refl)
all_look id s (p ∷ ps) h e =
    cond_both (same_id p.0 id) (Some p.1) (lookup ps id) (λ (o : Option Session). o ≡ Some s → Sound s)
    (λ _ q. let own : p.1 ≡ s = cc in subst Sound own h.0)
    (λ _ q. all_look id s ps h.1 q) e

pub rules_are_kept : RulesAreKept
rules_are_kept = record {
  empty = record { apart = refl; sound = tt };
  look = λ l id s h e. all_look id s l h.sound e;
  add = λ l k id s h a r. record { apart = apart_add id s l k h.apart a; sound = all_add id s l k h.sound r };
  put = λ l id s h r. record { apart = apart_put id s l h.apart; sound = all_put id s l h.sound r };
  take = λ l id h. record { apart = apart-take id l h.apart; sound = all_take id l h.sound };
}
