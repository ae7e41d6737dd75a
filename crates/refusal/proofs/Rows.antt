-- What a row of tests that refuses nothing tells of each. Assumes nothing.
use Rattle.std.proofs.Common.{◌≡◌, ℕ, Bool, true, false, Ok, Err, Result, refl, arith}
use Rattle.refusal.specs.declared.Fault.{Fault}
use Rattle.refusal.specs.Tests.{need, and_then}

pub need_held : {X : Type 0} (test : Bool) (e : Fault) (rest : Result X Fault) (x : X) → need test e rest ≡ Ok x → (test ≡ true) × (rest ≡ Ok x)
need_held true e rest x h = (refl, h)
need_held false e rest x h = let z : ◌≡◌ {A = ℕ} 0 1 = cc in absurd (omega arith)

pub and_then_went : {X Y : Type 0} (r : Result X Fault) (rest : X → Result Y Fault) (y : Y) → and_then r rest ≡ Ok y → (x : X) × (r ≡ Ok x) × (rest x ≡ Ok y)
and_then_went (Ok x) rest y h = (x, refl, h)
and_then_went (Err e) rest y h = let z : ◌≡◌ {A = ℕ} 0 1 = cc in absurd (omega arith)
