use Rattle.std.proofs.Common.{◌≡◌, ◌≤◌, length, take, replicate}
use Rattle.stores.specs.Places.{free_place}
use Rattle.stores.proofs.places.clear.Given as goal

abbrev pub invariant-loop-place : goal.invariant-loop-place
invariant-loop-place l = (l.place-index ≤ length l.places) × (take l.place-index l.places ≡ replicate l.place-index free_place)
