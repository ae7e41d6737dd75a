-- A store is emptied by taking its first pair again and again. Assumes nothing.
use Rattle.std.proofs.Common.{◌≡◌, ℕ, ◌<◌, true, [], ◌∷◌, length, Some, None, refl, ap, ◌∙◌, subst, arith}
use Rattle.std.proofs.lemmas.Bool.{cond-true}
use Rattle.wire.specs.declared.id.SessionId.{SessionId}
use Rattle.wire.specs.Ids.{same_id}
use Rattle.store.specs.Stores.{Pairs, name_at, without}
use Rattle.store.proofs.Finding.{same_self}

pub first_taken : (l after : Pairs) (id : SessionId) → name_at l 0 ≡ Some id → after ≡ without l id → length after < length l
first_taken [] after id h e = let z : ◌≡◌ {A = ℕ} 0 1 = cc in absurd (omega arith)
first_taken (p ∷ ps) after id h e =
    let own : p.0 ≡ id = cc in
    let same : same_id p.0 id ≡ true = subst (λ (i : SessionId). same_id p.0 i ≡ true) own (same_self p.0) in
    let rest : after ≡ ps = e ∙ cond-true (same_id p.0 id) ps (p ∷ without ps id) same in
    let n : length after ≡ length ps = ap length rest in
    omega arith

pub no_first : (l : Pairs) → name_at l 0 ≡ None → l ≡ []
no_first [] h = refl
no_first (p ∷ ps) h = let z : ◌≡◌ {A = ℕ} 0 1 = cc in absurd (omega arith)
