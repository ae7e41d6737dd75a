-- The size of a table. Assumes nothing.
use Rattle.std.specs.Prelude.{ℕ, Bool, ◌&&◌, nat_le}

-- the places of the largest table
abbrev pub most_places : ℕ
most_places = 1024

abbrev pub is_size : ℕ → Bool
is_size n = nat_le 1 n && nat_le n most_places
