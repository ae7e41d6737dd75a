-- The refusals by number, and the layer of each. Assumes nothing.
use Rattle.std.specs.Prelude.{ℕ, Bool, false, cond, ◌||◌, List, [], ◌∷◌, codes, ◌==◌}
use Rattle.refusal.specs.declared.Refusal.{Refusal}
use Rattle.refusal.specs.declared.Refusal.TheVariants.{MessageTooLong, EndsInHeader, ReservedBitSet, CounterLength, NotASessionId, NoSession, KeyNotHeld, CounterNotAbove, CounterBeyondLeap, EndsInBody, TagDiffers, DataLengthDiffers, OutOfRange, SessionPresent, NoSendingKey, TooMuchData, OutputTooSmall, KeyInUse, CountersUsedUp, StoreFull, SenselessOrder}
use Rattle.refusal.specs.declared.Layer.{Layer}
use Rattle.refusal.specs.declared.Layer.TheVariants.{Wire, Table, Keys, Counters, Suite, Call}
use Rattle.refusal.specs.declared.Fault.{Fault}
use Rattle.refusal.specs.declared.RangeError.{RangeError}

abbrev pub number_of : Refusal → ℕ
number_of MessageTooLong = 1
number_of EndsInHeader = 2
number_of ReservedBitSet = 3
number_of CounterLength = 4
number_of NotASessionId = 5
number_of NoSession = 6
number_of KeyNotHeld = 7
number_of CounterNotAbove = 8
number_of CounterBeyondLeap = 9
number_of EndsInBody = 10
number_of TagDiffers = 11
number_of DataLengthDiffers = 12
number_of OutOfRange = 13
number_of SessionPresent = 14
number_of NoSendingKey = 15
number_of TooMuchData = 16
number_of OutputTooSmall = 17
number_of KeyInUse = 18
number_of CountersUsedUp = 19
number_of StoreFull = 20
number_of SenselessOrder = 21

abbrev pub among : ℕ → List ℕ → Bool
among n [] = false
among n (x ∷ xs) = n == x || among n xs

-- the layer that refuses with a number
abbrev pub layer_of : ℕ → Layer
layer_of n =
    cond (among n (1 ∷ 2 ∷ 3 ∷ 4 ∷ 5 ∷ 10 ∷ 12 ∷ 21 ∷ [])) Wire
    (cond (among n (6 ∷ 14 ∷ 20 ∷ [])) Table
    (cond (among n (7 ∷ 15 ∷ 18 ∷ [])) Keys
    (cond (among n (8 ∷ 9 ∷ 19 ∷ [])) Counters
    (cond (among n (11 ∷ [])) Suite Call))))

abbrev pub layer_name : Layer → List ℕ
layer_name Wire = codes "wire"
layer_name Table = codes "table"
layer_name Keys = codes "keys"
layer_name Counters = codes "counters"
layer_name Suite = codes "suite"
layer_name Call = codes "call"

-- the fault of a refusal at a place carries the refusal's own layer
abbrev pub fault_at : Refusal → ℕ → Fault
fault_at r place = record { refusal = r; layer = layer_of (number_of r); place = place }

-- what a conversion answers to what stands for no value
abbrev pub range_error : RangeError
range_error = record {}
