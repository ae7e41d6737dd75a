-- How long things may be. Assumes nothing.
use Rattle.std.specs.Prelude.{ℕ}

-- the octets of the longest message
abbrev pub longest_message : ℕ
longest_message = 2048

-- the octets of the longest Session ID
abbrev pub longest_id : ℕ
longest_id = 4

-- the octets of the longest counter
abbrev pub longest_counter : ℕ
longest_counter = 4
