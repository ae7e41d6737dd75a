-- What the field must satisfy. Assumes nothing.
use Rattle.std.specs.Prelude.{◌≡◌, ℕ, ◌<◌}
use Rattle.aes.specs.Field.{product, inverse}

-- every octet but 0 times its inverse is 1
abbrev pub Inverses : Type 0
Inverses = (a : ℕ) → 0 < a → a < 256 → product a (inverse a) ≡ 1
