-- One definition of a front serves its writer and its reader. Assumes nothing.
use Rattle.std.specs.Prelude.{◌≡◌, ℕ, ◌+◌, ◌^◌, ◌<◌, ◌≤◌, true, List, ◌++◌, length, Ok}
use Rattle.std.specs.Int.Digits.{number_from_digits as number, AllBelowBase}
use Rattle.wire.specs.declared.front.Header.{Header}
use Rattle.wire.specs.declared.front.Front.{Front}
use Rattle.wire.specs.Fronts.{front, front_read, counter_octets, front_length}
use Rattle.wire.specs.Ids.{id_octets, is_id}
use Rattle.wire.specs.Limits.{longest_message, longest_counter}

-- the fields of a header that can be written
pub record Writable (h : Header) : Type 0 where
  pub key : h.key < 8
  pub id : is_id (id_octets h.id) ≡ true
  pub number : h.id.number < 2 ^ 32

-- octets that write a counter, leading zeros allowed
pub record Counts (octets : List ℕ) (counter : ℕ) : Type 0 where
  pub some : 1 ≤ length octets
  pub most : length octets ≤ longest_counter
  pub is : number 256 octets ≡ counter

-- octets begin with the front that f reads
pub record Begins (f : Front) (m : List ℕ) : Type 0 where
  pub writable : Writable f.header
  pub counter : List ℕ
  pub counts : Counts counter f.header.counter
  pub rest : List ℕ
  pub is : m ≡ front f.header counter ++ rest
  pub from : f.from ≡ 1 + length counter
  pub to : f.to ≡ f.from + length (id_octets f.header.id)

-- a front is read exactly where octets, no longer than the longest message, begin with it
pub record ReadAsWritten : Type 0 where
  pub only : (m : List ℕ) (f : Front) → AllBelowBase 256 m → front_read m ≡ Ok f → (length m ≤ longest_message) × Begins f m
  pub each : (m : List ℕ) (f : Front) → length m ≤ longest_message → Begins f m → front_read m ≡ Ok f
  pub back : (h : Header) (rest : List ℕ) → Writable h → h.counter < 2 ^ 32 → length (front h (counter_octets h.counter) ++ rest) ≤ longest_message
      → (f : Front) × (front_read (front h (counter_octets h.counter) ++ rest) ≡ Ok f) × (f.header ≡ h) × (f.to ≡ front_length h)
