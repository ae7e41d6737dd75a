use Rattle.std.proofs.Common.{◌≡◌, ℕ, ◌+◌, ◌%◌, ◌<◌, length, get_or, take}
use Rattle.bench_suite.specs.Sums.{column}
use Rattle.bench_suite.proofs.BenchSuite.tag.Given as goal

abbrev pub invariant-loop-i : goal.invariant-loop-i
invariant-loop-i l =
    (length l.tag ≡ 16) × ((j : ℕ) → j < 16 → get_or l.tag j 0 ≡ (get_or l.initial.tag j 0 + column j 0 (take l.i l.message)) % 256)
