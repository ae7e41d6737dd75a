-- Keysets whose keys are one octet over and over. Assumes nothing.
use Rattle.std.specs.Prelude.{ℕ, ◌*◌}
use Rattle.suite.specs.declared.Keyset.{Keyset}

-- half of a key that is one octet sixteen times
abbrev pub half_of : ℕ → ℕ
half_of octet = 0x0101010101010101 * octet

-- an integrity key of one octet, and an encryption key of another
abbrev pub keyset_of : ℕ → ℕ → Keyset
keyset_of integrity encryption = record {
  integrity0 = half_of integrity;
  integrity1 = half_of integrity;
  encryption0 = half_of encryption;
  encryption1 = half_of encryption;
}
