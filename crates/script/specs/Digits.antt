-- What the digits of a field write. Assumes nothing.
use Rattle.std.specs.Prelude.{ℕ, ◌+◌, ◌-◌, ◌*◌, cond, ◌&&◌, List, [], ◌∷◌, length, Some, None, Option, ◌==◌, nat_le, slice_index}

-- a value that must be there before what follows counts
abbrev pub and_then : {X Y : Type 0} → Option X → (X → Option Y) → Option Y
and_then None rest = None
and_then (Some x) rest = rest x

-- the value of a hexadecimal digit, 0 to 9 and A to F
abbrev pub hex_digit : ℕ → Option ℕ
hex_digit c = cond (nat_le 48 c && nat_le c 57) (Some (c - 48)) (cond (nat_le 65 c && nat_le c 70) (Some (c - 65 + 10)) None)

-- the octet of a pair of hexadecimal digits
abbrev pub hex_pair : ℕ → ℕ → Option ℕ
hex_pair high low = and_then (hex_digit high) (λ h. and_then (hex_digit low) (λ l. Some (h * 16 + l)))

-- the octets of pairs of hexadecimal digits; none at all are good too
abbrev pub octets_read : List ℕ → Option (List ℕ)
octets_read [] = Some []
octets_read (high ∷ []) = None
octets_read (high ∷ low ∷ rest) = and_then (hex_pair high low) (λ x. and_then (octets_read rest) (λ xs. Some (x ∷ xs)))

-- the octet of exactly one pair
abbrev pub octet_read : List ℕ → Option ℕ
octet_read text = cond (length text == 2) (hex_pair (slice_index text 0) (slice_index text 1)) None

-- the number that decimal digits write behind the number n
abbrev pub digits_after : ℕ → List ℕ → Option ℕ
digits_after n [] = Some n
digits_after n (c ∷ rest) = cond (nat_le 48 c && nat_le c 57) (digits_after (n * 10 + (c - 48)) rest) None

-- the number of 1 to 10 decimal digits
abbrev pub number_read : List ℕ → Option ℕ
number_read text = cond (nat_le 1 (length text) && nat_le (length text) 10) (digits_after 0 text) None
