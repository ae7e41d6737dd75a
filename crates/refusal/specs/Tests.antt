-- Tests in a row, of which the first that fails gives the answer. Assumes nothing.
use Rattle.std.specs.Prelude.{Bool, cond, Ok, Err, Result}
use Rattle.refusal.specs.declared.Fault.{Fault}

-- a test that must hold before what follows counts
abbrev pub need : {X : Type 0} → Bool → Fault → Result X Fault → Result X Fault
need test fault rest = cond test rest (Err fault)

-- a step that must not refuse before what follows counts
abbrev pub and_then : {X Y : Type 0} → Result X Fault → (X → Result Y Fault) → Result Y Fault
and_then (Ok x) rest = rest x
and_then (Err e) rest = Err e
