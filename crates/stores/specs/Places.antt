-- What places mean. Assumes nothing.
use Rattle.std.specs.Prelude.{◌≡◌, suc, ◌≤◌, Bool, true, false, cond, not, ◌&&◌, List, [], ◌∷◌, ◌++◌, length, None}
use Rattle.std.proofs.Common.{arith}
use Rattle.std.specs.List.{flat_map}
use Rattle.wire.specs.declared.id.SessionId.{SessionId}
use Rattle.wire.specs.declared.parties.Role.TheVariants.{Logger}
use Rattle.wire.specs.Ids.{same_id}
use Rattle.framing.specs.declared.format.TagLength.TheVariants.{Four}
use Rattle.framing.specs.declared.format.DataLength.TheVariants.{One}
use Rattle.keys.specs.Slots.{no_keys}
use Rattle.session.specs.declared.session.Session.{Session}
use Rattle.session.specs.Counting.{new_counters}
use Rattle.store.specs.Stores.{Pair, Pairs}
use Rattle.stores.specs.declared.place.Place.{Place}

-- the pair in a place, or none
abbrev pub pair_in : Place → Pairs
pair_in p = cond p.used ((p.id, p.session) ∷ []) []

-- a place with nothing in it: its numbers are 0, and no key is left
abbrev pub free_place : Place
free_place = record {
  used = false;
  id = record { number = 0 };
  session = record {
    settings = record { role = Logger; format = record { tag = Four; length = One }; leap = 0 };
    keys = record { slots = no_keys; sending = None };
    control = new_counters;
    user = new_counters;
  };
}

-- the place of a pair
abbrev pub place_of : SessionId → Session → Place
place_of id s = record { used = true; id = id; session = s }

-- the pairs in the places, in their order
abbrev pub filled : List Place → Pairs
filled xs = flat_map pair_in xs

abbrev pub holds_id : SessionId → Place → Bool
holds_id id p = same_id p.id id && p.used

abbrev pub in_use : Place → Bool
in_use p = p.used

abbrev pub id_in : Place → SessionId
id_in p = p.id

abbrev pub session_in : Place → Session
session_in p = p.session

abbrev pub is_free : Place → Bool
is_free p = not p.used

pub filled_most : (xs : List Place) → length (filled xs) ≤ length xs
filled_most [] = omega arith
filled_most (p ∷ xs) =
    let more = filled_most xs in
    let P : Bool → Type 0 = λ u. length {A = Pair} (cond u ((p.id, p.session) ∷ []) [] ++ filled xs) ≤ suc (length xs) in
    elim p.used as P [ true ↦ omega arith | false ↦ omega arith ]

-- no more pairs than one place
pub one_most : (xs : List Place) → length xs ≡ 1 → length (filled xs) ≤ 1
one_most xs one = omega (arith, filled_most xs)

-- no more than one pair is in a place
pub pair_most : (p : Place) → length (pair_in p) ≤ 1
pair_most p =
    let P : Bool → Type 0 = λ u. length {A = Pair} (cond u ((p.id, p.session) ∷ []) []) ≤ 1 in
    elim p.used as P [ true ↦ omega arith | false ↦ omega arith ]
