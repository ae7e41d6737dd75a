-- The front of a message, which stays clear. Assumes nothing.
use Rattle.std.specs.Prelude.{ℕ, ◌+◌, ◌*◌, ◌/◌, ◌%◌, ◌<◌, ◌≤◌, cond, not, ◌&&◌, List, ◌∷◌, ◌++◌, length, drop, Ok, Err, Result, ◌==◌, nat_le, nat_lt, slice_index}
use Rattle.std.specs.List.{between}
use Rattle.std.specs.Int.Digits.{number_from_digits}
use Rattle.refusal.specs.declared.Fault.{Fault}
use Rattle.refusal.specs.declared.Refusal.TheVariants.{MessageTooLong, EndsInHeader, ReservedBitSet, CounterLength, NotASessionId}
use Rattle.refusal.specs.Refusals.{fault_at}
use Rattle.refusal.specs.Tests.{need, and_then}
use Rattle.wire.specs.declared.parties.Plane.{Plane}
use Rattle.wire.specs.declared.parties.Plane.TheVariants.{Control, User}
use Rattle.wire.specs.declared.id.IdError.{IdError}
use Rattle.wire.specs.declared.id.IdError.TheVariants.{Unfinished, TooLong}
use Rattle.wire.specs.declared.front.Header.{Header}
use Rattle.wire.specs.declared.front.Front.{Front}
use Rattle.wire.specs.Ids.{id_length, id_of, id_octets}
use Rattle.wire.specs.Limits.{longest_message, longest_id, longest_counter}
use Rattle.octets.specs.Octets.{octets, width_of}

-- the plane bit, the highest of the first octet
abbrev pub plane_bit : Plane → ℕ
plane_bit Control = 0
plane_bit User = 1

-- from the top: plane bit, a zero, Key ID on three bits, octets of the counter on three bits
abbrev pub first_octet : Plane → ℕ → ℕ → ℕ
first_octet plane key n = plane_bit plane * 128 + key * 8 + n

-- the front of a message whose counter is written in the given octets
abbrev pub front : Header → List ℕ → List ℕ
front h counter = first_octet h.plane h.key (length counter) ∷ (counter ++ id_octets h.id)

-- a writer takes the fewest octets for a counter
abbrev pub counter_octets : ℕ → List ℕ
counter_octets c = octets (width_of c) c

abbrev pub front_length : Header → ℕ
front_length h = 1 + width_of h.counter + width_of h.id.number

-- reading

abbrev pub plane_of : ℕ → Plane
plane_of first = cond (nat_lt first 128) Control User

-- the end of the ID that stands at `from`
abbrev pub id_end : ℕ → ℕ → Result ℕ IdError → Result ℕ Fault
id_end len from (Ok n) = Ok (from + n)
id_end len from (Err Unfinished) = Err (fault_at EndsInHeader len)
id_end len from (Err TooLong) = Err (fault_at NotASessionId from)

abbrev pub front_of : List ℕ → ℕ → ℕ → Front
front_of m from to = record {
  header = record { plane = plane_of (slice_index m 0); key = slice_index m 0 / 8 % 8; counter = number_from_digits 256 (between 1 from m); id = id_of (between from to m) };
  from = from;
  to = to;
}

-- a counter and an ID, where the counter takes n octets
abbrev pub fields_read : List ℕ → ℕ → Result Front Fault
fields_read m n =
    need (nat_le 1 n && nat_le n longest_counter) (fault_at CounterLength 0)
    (need (nat_le (1 + n) (length m)) (fault_at EndsInHeader (length m))
    (and_then (id_end (length m) (1 + n) (id_length longest_id 0 (drop (1 + n) m))) (λ to.
    need (not (number_from_digits 256 (between (1 + n) to m) == 0)) (fault_at NotASessionId (1 + n))
    (Ok (front_of m (1 + n) to)))))

abbrev pub front_read : List ℕ → Result Front Fault
front_read m =
    need (nat_le (length m) longest_message) (fault_at MessageTooLong 0)
    (need (nat_le 1 (length m)) (fault_at EndsInHeader (length m))
    (need (slice_index m 0 / 64 % 2 == 0) (fault_at ReservedBitSet 0)
    (fields_read m (slice_index m 0 % 8))))

-- a front stands whole in a message of n octets
pub record Within (f : Front) (n : ℕ) : Type 0 where
  pub key : f.header.key < 8
  pub start : 1 ≤ f.from
  pub order : f.from < f.to
  pub back : f.to ≤ n
  pub size : n ≤ longest_message

abbrev pub Inside : ℕ → Result Front Fault → Type 0
Inside n (Ok f) = Within f n
Inside n (Err e) = Unit {0}
