-- Session IDs. Assumes nothing.
use Rattle.std.specs.Prelude.{ℕ, zero, suc, ◌+◌, ◌≤◌, Bool, false, cond, not, ◌&&◌, List, [], ◌∷◌, length, Some, None, Option, Ok, Err, Result, ◌==◌, nat_lt}
use Rattle.std.specs.Int.Digits.{number_from_digits}
use Rattle.wire.specs.declared.id.SessionId.{SessionId}
use Rattle.wire.specs.declared.id.IdError.{IdError}
use Rattle.wire.specs.declared.id.IdError.TheVariants.{Unfinished, TooLong}
use Rattle.wire.specs.Limits.{longest_id}
use Rattle.octets.specs.Octets.{octets, width_of}

-- the top bit is clear
abbrev pub ends_id : ℕ → Bool
ends_id x = nat_lt x 128

-- where an ID ends: with its first octet whose top bit is clear; n octets have gone by, and at most `more` may follow
abbrev pub id_length : ℕ → ℕ → List ℕ → Result ℕ IdError
id_length zero n l = Err TooLong
id_length (suc more) n [] = Err Unfinished
id_length (suc more) n (x ∷ xs) = cond (ends_id x) (Ok (n + 1)) (id_length more (n + 1) xs)

abbrev pub ends_at : ℕ → Result ℕ IdError → Bool
ends_at n (Ok m) = m == n
ends_at n (Err e) = false

-- octets are an ID if it ends with the last of them and is not 00
abbrev pub is_id : List ℕ → Bool
is_id l = ends_at (length l) (id_length longest_id 0 l) && not (number_from_digits 256 l == 0)

abbrev pub id_of : List ℕ → SessionId
id_of l = record { number = number_from_digits 256 l }

abbrev pub id_given : List ℕ → Option SessionId
id_given l = cond (is_id l) (Some (id_of l)) None

abbrev pub id_octets : SessionId → List ℕ
id_octets id = octets (width_of id.number) id.number

abbrev pub same_id : SessionId → SessionId → Bool
same_id a b = a.number == b.number

-- an ID that ends within n octets
abbrev pub IdInside : ℕ → Result ℕ IdError → Type 0
IdInside n (Ok m) = (1 ≤ m) × (m ≤ n) × (m ≤ longest_id)
IdInside n (Err e) = Unit {0}
