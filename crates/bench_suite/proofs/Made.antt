-- What array::from_fn makes with a closure that no call changes. Assumes nothing.
use Rattle.std.proofs.Common.{◌≡◌, ℕ, zero, suc, ◌+◌, ◌<◌, ◌≤◌, List, get_or, sym, subst, ap, ◌∙◌, inl, inr, arith}
use Rattle.std.specs.Fn.{Mut, Called}
use Rattle.std.specs.Array.{IsFromFnResultFrom}
use Rattle.std.proofs.lemmas.Bool.{cases_eq}

-- the element at each place
pub made_each : {F : Type 0} (g : Mut F (ℕ × Unit {0}) ℕ) (f : F) (h : ℕ → ℕ) → ((i y : ℕ) (q : F) → Called g f (i, tt) y q → (q ≡ f) × (y ≡ h i)) → (ys : List ℕ) (i n : ℕ)
    → IsFromFnResultFrom g f ys i n → (k : ℕ) → i ≤ k → k < i + n → get_or ys k 0 ≡ h k
made_each g f h same ys i zero made k low high = absurd (omega arith)
made_each {F} g f h same ys i (suc n) (q, y, (_, at), called, others) k low high =
    let once = same i y q called in
    let rest : IsFromFnResultFrom g f ys (i + 1) n = subst (λ (p : F). IsFromFnResultFrom g p ys (i + 1) n) once.0 others in
    elim (cases_eq k i) [
      | inl here ↦ ap (λ j. get_or ys j 0) here ∙ at 0 ∙ once.1 ∙ ap h (sym here)
      | inr there ↦ made_each g f h same ys (i + 1) n rest k (omega arith) (omega arith)
    ]
