-- What is found after a change. Assumes nothing.
use Rattle.std.proofs.Common.{◌≡◌, ℕ, zero, suc, Bool, true, false, cond, not, ◌&&◌, [], ◌∷◌, is_some, Some, None, Option, sym, refl, ap, ◌∙◌, inl, inr}
use Rattle.std.proofs.lemmas.Bool.{eqb-true, eqb-false, eq-eqb, ne_eqb, cond_both, cond-true, cond-false, cases_Bool, both_ways, and_parts, and_right, not-true}
use Rattle.std.specs.List.{insert}
use Rattle.wire.specs.declared.id.SessionId.{SessionId}
use Rattle.wire.specs.Ids.{same_id}
use Rattle.session.specs.declared.session.Session.{Session}
use Rattle.store.specs.Stores.{Pairs, lookup, has, apart, replaced, without}
use Rattle.store.specs.StoreLaws.{FoundAfter}

pub same_id_lem : (x y : SessionId) → same_id x y ≡ true → x ≡ y
same_id_lem x y h = ap (λ (n : ℕ). record { number = n }) (eqb-true x.number y.number h)

pub same_self : (x : SessionId) → same_id x x ≡ true
same_self x = eq-eqb x.number x.number refl

-- two IDs that are the same are told from a third alike
alike : (x y z : SessionId) → same_id x y ≡ true → same_id x z ≡ same_id y z
alike x y z h = ap (λ (i : SessionId). same_id i z) (same_id_lem x y h)

-- an ID that is the third is not the second
differ : (x y z : SessionId) → same_id x y ≡ false → same_id x z ≡ true → same_id y z ≡ false
differ x y z h e = ne_eqb y.number z.number (λ q. eqb-false x.number y.number h (eqb-true x.number z.number e ∙ sym q))

module _ (b c : Bool) (x y z w : Option Session) where
  -- two tests that do not both hold may be made in either order
  either_order : (b ≡ true → c ≡ false) → w ≡ cond c x z → cond b y w ≡ cond c x (cond b y z)
  either_order h e = elim (cases_Bool b) [
    | inl t ↦ cond-true b y w t ∙ sym (cond-false c x (cond b y z) (h t) ∙ cond-true b y z t)
    | inr f ↦ cond-false b y w f ∙ e ∙ ap (cond c x) (sym (cond-false b y z f))
  ]

  -- a test made twice
  once : b ≡ c → cond c x z ≡ cond c x (cond b y z)
  once h = elim (cases_Bool c) [
    | inl t ↦ cond-true c x z t ∙ sym (cond-true c x (cond b y z) t)
    | inr f ↦ ap (cond c x) (sym (cond-false b y z (h ∙ f)))
  ]

none_some : (o : Option Session) → is_some o ≡ false → o ≡ None
none_some None h = refl
none_some (Some s) h = absurd (both_ways true h refl)

look_put : (id : SessionId) (s : Session) (j : SessionId) (l : Pairs) → lookup (replaced l id s) j ≡ cond (has l id && same_id id j) (Some s) (lookup l j)
look_put id s j [] = refl
look_put id s j (p ∷ ps) =
    let P : Bool → Type 0 = λ b.
    same_id p.0 id ≡ b
    → lookup (cond b ((id, s) ∷ ps) (p ∷ replaced ps id s)) j
    ≡ cond (is_some (cond b (Some p.1) (lookup ps id)) && same_id id j) (Some s) (lookup (p ∷ ps) j) in
    let all : P (same_id p.0 id) = elim (same_id p.0 id) as P [
      | true ↦ (λ e. once (same_id p.0 j) (same_id id j) (Some s) (Some p.1) (lookup ps j) None (alike p.0 id j e))
      | false ↦ (λ e. either_order (same_id p.0 j) (has ps id && same_id id j) (Some s) (Some p.1) (lookup ps j) (lookup (replaced ps id s) j) (λ t. and_right (has ps id) (same_id id j) (differ p.0 id j e t)) (look_put id s j ps))
    ] in
    all refl

-- no ID twice: what follows the first pair has not its ID
pub apart_parts : (b c : Bool) → (not b && c) ≡ true → (b ≡ false) × (c ≡ true)
apart_parts b c h = let p = and_parts (not b) c h in (not-true b p.0, p.1)

look_take : (id j : SessionId) (l : Pairs) → apart l ≡ true → lookup (without l id) j ≡ cond (same_id id j) None (lookup l j)
look_take id j [] h = cond_both (same_id id j) None None (λ (o : Option Session). None ≡ o) (λ _. refl) (λ _. refl)
look_take id j (p ∷ ps) h =
    let d = apart_parts (has ps p.0) (apart ps) h in
    let P : Bool → Type 0 = λ b. same_id p.0 id ≡ b → lookup (cond b ps (p ∷ without ps id)) j ≡ cond (same_id id j) None (lookup (p ∷ ps) j) in
    let all : P (same_id p.0 id) = elim (same_id p.0 id) as P [
      | true ↦ (λ e.
          let gone : same_id id j ≡ true → lookup ps j ≡ None = λ t. none_some (lookup ps j) (ap (has ps) (sym (same_id_lem p.0 id e ∙ same_id_lem id j t)) ∙ d.0) in
          cond_both (same_id id j) None (lookup ps j) (λ (o : Option Session). (same_id id j ≡ true → lookup ps j ≡ None) → lookup ps j ≡ o) (λ t g. g t) (λ _ _. refl) gone
          ∙ once (same_id p.0 j) (same_id id j) None (Some p.1) (lookup ps j) None (alike p.0 id j e))
      | false ↦ (λ e. either_order (same_id p.0 j) (same_id id j) None (Some p.1) (lookup ps j) (lookup (without ps id) j) (differ p.0 id j e) (look_take id j ps d.1))
    ] in
    all refl

-- an ID that is nowhere in a list is neither the first nor in the rest
pub absent_parts : (b : Bool) (x : Session) (o : Option Session) → is_some (cond b (Some x) o) ≡ false → (b ≡ false) × (is_some o ≡ false)
absent_parts true x o h = absurd (both_ways true h refl)
absent_parts false x o h = (refl, h)

look_add : (id : SessionId) (s : Session) (j : SessionId) (l : Pairs) (k : ℕ) → has l id ≡ false → lookup (insert l k (id, s)) j ≡ cond (same_id id j) (Some s) (lookup l j)
look_add id s j [] zero h = refl
look_add id s j [] (suc k) h = refl
look_add id s j (p ∷ ps) zero h = refl
look_add id s j (p ∷ ps) (suc k) h =
    let a = absent_parts (same_id p.0 id) p.1 (lookup ps id) h in
    either_order (same_id p.0 j) (same_id id j) (Some s) (Some p.1) (lookup ps j) (lookup (insert ps k (id, s)) j) (differ p.0 id j a.0) (look_add id s j ps k a.1)

-- ---- an ID that is not there

pub put_absent : (id : SessionId) (s : Session) (l : Pairs) → lookup l id ≡ None → replaced l id s ≡ l
put_absent id s [] h = refl
put_absent id s (p ∷ ps) h =
    let P : Bool → Type 0 = λ b. cond b (Some p.1) (lookup ps id) ≡ None → cond b ((id, s) ∷ ps) (p ∷ replaced ps id s) ≡ p ∷ ps in
    (elim (same_id p.0 id) as P [
      | true ↦ (λ e. absurd (both_ways true (ap is_some e) refl))
      | false ↦ (λ e. ap (λ (l : Pairs). p ∷ l) (put_absent id s ps e))
    ]) h

pub take_absent : (id : SessionId) (l : Pairs) → lookup l id ≡ None → without l id ≡ l
take_absent id [] h = refl
take_absent id (p ∷ ps) h =
    let P : Bool → Type 0 = λ b. cond b (Some p.1) (lookup ps id) ≡ None → cond b ps (p ∷ without ps id) ≡ p ∷ ps in
    (elim (same_id p.0 id) as P [
      | true ↦ (λ e. absurd (both_ways true (ap is_some e) refl))
      | false ↦ (λ e. ap (λ (l : Pairs). p ∷ l) (take_absent id ps e))
    ]) h

pub found_after : FoundAfter
found_after = record {
  add = λ l k id s h j. look_add id s j l k h;
  put = λ l id s j. look_put id s j l;
  take = λ l id h j. look_take id j l h;
}
