-- A front is read exactly where one is written. Assumes nothing.
use Rattle.std.proofs.Common.{◌≡◌, ℕ, suc, ◌+◌, ◌-◌, ◌/◌, ◌%◌, ◌^◌, ◌<◌, ◌≤◌, true, false, not, ◌&&◌, eqb, ltb, leb, List, ◌∷◌, ◌++◌, length, get_or, take, drop, Ok, Err, Result, sym, refl, ap, ◌∙◌, subst, inl, inr, arith, length-append, length-drop, length-take-le, drop-cons, drop-drop, take_at, drop_at}
use Rattle.std.specs.List.{between}
use Rattle.std.specs.Int.Digits.{number_from_digits as number, AllBelowBase}
use Rattle.std.proofs.ByRecursion.{All-take, All-drop, All-get_or}
use Rattle.std.proofs.lemmas.List.{append_assoc, take-append-drop}
use Rattle.std.proofs.lemmas.Bool.{and_parts, cases_Bool, eq-eqb, eqb-true, le-leb, le-ltb, leb-true, lt-ltb, ltb-false, ltb-true, ne_eqb, not-true}
use Rattle.refusal.specs.declared.Fault.{Fault}
use Rattle.refusal.specs.declared.Refusal.TheVariants.{MessageTooLong, EndsInHeader, ReservedBitSet, CounterLength, NotASessionId}
use Rattle.refusal.specs.Refusals.{fault_at}
use Rattle.refusal.specs.Tests.{need, and_then}
use Rattle.refusal.proofs.Rows.{need_held, and_then_went}
use Rattle.wire.specs.declared.parties.Plane.{Plane}
use Rattle.wire.specs.declared.parties.Plane.TheVariants.{Control, User}
use Rattle.wire.specs.declared.id.IdError.{IdError}
use Rattle.wire.specs.declared.id.IdError.TheVariants.{Unfinished, TooLong}
use Rattle.wire.specs.declared.front.Header.{Header}
use Rattle.wire.specs.declared.front.Front.{Front}
use Rattle.wire.specs.FrontLaws.{Writable, Begins, ReadAsWritten}
use Rattle.wire.specs.Fronts.{plane_of, first_octet, front, front_length, front_of, front_read, fields_read, id_end, counter_octets}
use Rattle.wire.specs.Ids.{id_length, id_of, id_octets, is_id}
use Rattle.wire.specs.Limits.{longest_message, longest_id, longest_counter}
use Rattle.octets.specs.Octets.{width_of}
use Rattle.wire.proofs.Ids.{id_before, id_found, id_octets_lem, is_id_ends, is_id_from}
use Rattle.octets.proofs.Numbers.{length-octets, number_octets, width_fewest}

-- what a first octet holds
record Holds (x : ℕ) (plane : Plane) (key n : ℕ) : Type 0 where
  pub top : plane_of x ≡ plane
  pub reserved : x / 64 % 2 ≡ 0
  pub middle : x / 8 % 8 ≡ key
  pub low : x % 8 ≡ n

first_holds : (plane : Plane) (key n : ℕ) → key < 8 → n < 8 → Holds (first_octet plane key n) plane key n
first_holds Control key n a b =
    record { top = rw (lt-ltb (first_octet Control key n) 128 (omega arith)); reserved = omega arith; middle = omega arith; low = omega arith }
first_holds User key n a b =
    record { top = rw (le-ltb (first_octet User key n) 128 (omega arith)); reserved = omega arith; middle = omega arith; low = omega arith }

-- a first octet is that of its fields
first_is : (x : ℕ) → x < 256 → x / 64 % 2 ≡ 0 → x ≡ first_octet (plane_of x) (x / 8 % 8) (x % 8)
first_is x h reserved = elim (cases_Bool (ltb x 128)) [
  | inl t ↦ rw t (omega (arith, ltb-true x 128 t))
  | inr t ↦ rw t (omega (arith, ltb-false x 128 t))
]

-- a front by its fields
front_from : (f : Front) (plane : Plane) (key counter id from to : ℕ) → plane ≡ f.header.plane → key ≡ f.header.key → counter ≡ f.header.counter
    → id ≡ f.header.id.number → from ≡ f.from → to ≡ f.to
    → ◌≡◌ {A = Front} (record { header = record { plane = plane; key = key; counter = counter; id = record { number = id } }; from = from; to = to }) f
front_from f plane key counter id from to a b c d e g = rw (a, b, c, d, e, g)

-- octets that begin with a front are read so
pub each : (m : List ℕ) (f : Front) → length m ≤ longest_message → Begins f m → front_read m ≡ Ok f
each m f size b =
    let h = f.header in
    let counter = b.counter in
    let name = id_octets h.id in
    let n = length counter in
    let k = length name in
    let x = first_octet h.plane h.key n in
    let some = b.counts.some in
    let most = b.counts.most in
    let holds = first_holds h.plane h.key n b.writable.key (omega arith) in
    let is : m ≡ x ∷ (counter ++ (name ++ b.rest)) = b.is ∙ ap (λ (l : List ℕ). x ∷ l) (append_assoc counter name b.rest) in
    let first : get_or m 0 0 ≡ x = ap (λ (l : List ℕ). get_or l 0 0) is in
    let whole : length m ≡ suc (n + length (name ++ b.rest)) = ap length is ∙ ap suc (length-append counter (name ++ b.rest)) in
    let at : length (x ∷ counter) ≡ 1 + n = omega arith in
    let back : drop (1 + n) m ≡ name ++ b.rest = ap (drop (1 + n)) is ∙ drop_at (x ∷ counter) (name ++ b.rest) (1 + n) at in
    let ends = is_id_ends name b.writable.id in
    let found : id_length longest_id 0 (drop (1 + n) m) ≡ Ok k = ap (id_length longest_id 0) back ∙ id_before longest_id 0 k name b.rest ends.0 in
    let z1 : 1 + n - 1 ≡ n = omega arith in
    let digits : between 1 (1 + n) m ≡ counter = ap (λ i. take i (drop 1 m)) z1 ∙ ap (λ (l : List ℕ). take n (drop 1 l)) is ∙ take_at counter (name ++ b.rest) n refl in
    let z2 : 1 + n + k - (1 + n) ≡ k = omega arith in
    let name_read : between (1 + n) (1 + n + k) m ≡ name = ap (λ i. take i (drop (1 + n) m)) z2 ∙ ap (take k) back ∙ take_at name b.rest k refl in
    let t1 : leb (length m) longest_message ≡ true = le-leb (length m) longest_message size in
    let t2 : leb 1 (length m) ≡ true = le-leb 1 (length m) (omega arith) in
    let t3 : eqb (get_or m 0 0 / 64 % 2) 0 ≡ true = eq-eqb (get_or m 0 0 / 64 % 2) 0 (ap (λ y. y / 64 % 2) first ∙ holds.reserved) in
    let t4 : leb 1 n ≡ true = le-leb 1 n some in
    let t5 : leb n longest_counter ≡ true = le-leb n longest_counter most in
    let t6 : leb (1 + n) (length m) ≡ true = le-leb (1 + n) (length m) (omega arith) in
    let t7 : eqb (number 256 (between (1 + n) (1 + n + k) m)) 0 ≡ false = ne_eqb (number 256 (between (1 + n) (1 + n + k) m)) 0 (λ e. ends.1 (sym (ap (number 256) name_read) ∙ e)) in
    let value : number 256 name ≡ h.id.number = number_octets (width_of h.id.number) h.id.number (width_fewest h.id.number b.writable.number).holds in
    let right : front_of m (1 + n) (1 + n + k) ≡ f =
    front_from f _ _ _ _ _ _ (ap plane_of first ∙ holds.top) (ap (λ y. y / 8 % 8) first ∙ holds.middle) (ap (number 256) digits ∙ b.counts.is)
    (ap (number 256) name_read ∙ value) (sym b.from) (omega (arith, b.from, b.to)) in
    let fields : fields_read m n ≡ Ok f = rw (t4, t5, t6, found, t7) (ap Ok right) in
    let low : get_or m 0 0 % 8 ≡ n = ap (λ y. y % 8) first ∙ holds.low in
    rw (t1, t2, t3, low) fields

under_part : (i j : ℕ) (m : List ℕ) → AllBelowBase 256 m → AllBelowBase 256 (between i j m)
under_part i j m u = All-take (λ d. d < 256) (j - i) (drop i m) (All-drop (λ d. d < 256) i m u)

-- an ID that ends within a message
id_ended : (len from to : ℕ) (r : Result ℕ IdError) → id_end len from r ≡ Ok to → (n : ℕ) × (r ≡ Ok n) × (to ≡ from + n)
id_ended len from to (Ok n) h = (n, refl, cc)
id_ended len from to (Err Unfinished) h = let z : ◌≡◌ {A = ℕ} 0 1 = cc in absurd (omega arith)
id_ended len from to (Err TooLong) h = let z : ◌≡◌ {A = ℕ} 0 1 = cc in absurd (omega arith)

-- what the tests of a reading tell, where none refuses
record Passed (m : List ℕ) (f : Front) : Type 0 where
  pub size : length m ≤ longest_message
  pub some : 1 ≤ length m
  pub reserved : get_or m 0 0 / 64 % 2 ≡ 0
  pub low : (1 ≤ get_or m 0 0 % 8) × (get_or m 0 0 % 8 ≤ longest_counter)
  pub counter : 1 + get_or m 0 0 % 8 ≤ length m
  pub ends : ℕ
  pub found : id_length longest_id 0 (drop (1 + get_or m 0 0 % 8) m) ≡ Ok ends
  pub number : eqb (number 256 (between (1 + get_or m 0 0 % 8) (1 + get_or m 0 0 % 8 + ends) m)) 0 ≡ false
  pub is : front_of m (1 + get_or m 0 0 % 8) (1 + get_or m 0 0 % 8 + ends) ≡ f

passed : (m : List ℕ) (f : Front) → front_read m ≡ Ok f → Passed m f
passed m f h =
    let x = get_or m 0 0 in
    let n = x % 8 in
    let last : ℕ → Result Front Fault = λ to. need (not (eqb (number 256 (between (1 + n) to m)) 0)) (fault_at NotASessionId (1 + n)) (Ok (front_of m (1 + n) to)) in
    let ended = id_end (length m) (1 + n) (id_length longest_id 0 (drop (1 + n) m)) in
    let r5 = need (leb (1 + n) (length m)) (fault_at EndsInHeader (length m)) (and_then ended last) in
    let r3 = need (eqb (x / 64 % 2) 0) (fault_at ReservedBitSet 0) (fields_read m n) in
    let r2 = need (leb 1 (length m)) (fault_at EndsInHeader (length m)) r3 in
    let h1 = need_held (leb (length m) longest_message) (fault_at MessageTooLong 0) r2 f h in
    let h2 = need_held (leb 1 (length m)) (fault_at EndsInHeader (length m)) r3 f h1.1 in
    let h3 = need_held (eqb (x / 64 % 2) 0) (fault_at ReservedBitSet 0) (fields_read m n) f h2.1 in
    let h4 = need_held (leb 1 n && leb n longest_counter) (fault_at CounterLength 0) r5 f h3.1 in
    let h5 = need_held (leb (1 + n) (length m)) (fault_at EndsInHeader (length m)) (and_then ended last) f h4.1 in
    let h6 = and_then_went ended last f h5.1 in
    let to = h6.0 in
    let e = id_ended (length m) (1 + n) to (id_length longest_id 0 (drop (1 + n) m)) h6.1 in
    let h7 = need_held (not (eqb (number 256 (between (1 + n) to m)) 0)) (fault_at NotASessionId (1 + n)) (Ok (front_of m (1 + n) to)) f h6.2 in
    let low = and_parts (leb 1 n) (leb n longest_counter) h4.0 in
    let there : front_of m (1 + n) to ≡ f = cc h7.1 in
    record {
      size = leb-true (length m) longest_message h1.0;
      some = leb-true 1 (length m) h2.0;
      reserved = eqb-true (x / 64 % 2) 0 h3.0;
      low = (leb-true 1 n low.0, leb-true n longest_counter low.1);
      counter = leb-true (1 + n) (length m) h5.0;
      ends = e.0;
      found = e.1;
      number = rw e.2 at (not-true (eqb (number 256 (between (1 + n) to m)) 0) h7.0);
      is = rw e.2 at there;
    }

-- what is read is a front that octets begin with
pub only : (m : List ℕ) (f : Front) → AllBelowBase 256 m → front_read m ≡ Ok f → (length m ≤ longest_message) × Begins f m
only m f u h =
    let p = passed m f h in
    let x = get_or m 0 0 in
    let n = x % 8 in
    let from = 1 + n in
    let k = p.ends in
    let to = from + k in
    let counter = between 1 from m in
    let name = between from to m in
    let rest = drop to m in
    let found = id_found longest_id 0 k (drop from m) p.found in
    let dm = length-drop from m in
    let z1 : from - 1 ≡ n = omega arith in
    let z2 : to - from ≡ k = omega arith in
    let z3 : k - 0 ≡ k = omega arith in
    let digits : counter ≡ take n (drop 1 m) = ap (λ i. take i (drop 1 m)) z1 in
    let name_read : name ≡ take k (drop from m) = ap (λ i. take i (drop from m)) z2 in
    let d1 = length-drop 1 m in
    let lc : length counter ≡ n = ap length digits ∙ length-take-le n (drop 1 m) (omega (arith, p.counter)) in
    let ln : length name ≡ k = ap length name_read ∙ length-take-le k (drop from m) (omega (arith, found.1)) in
    let again : id_length longest_id 0 (take k (drop from m)) ≡ Ok k = rw z3 at found.3 in
    let ends : id_length longest_id 0 name ≡ Ok (length name) = ap (id_length longest_id 0) name_read ∙ again ∙ ap Ok (sym ln) in
    let good : is_id name ≡ true = is_id_from name ends p.number in
    let written = id_octets_lem name (under_part from to m u) good in
    let below : x < 256 = All-get_or (λ d. d < 256) m 0 0 p.some u in
    let first : x ≡ first_octet (plane_of x) (x / 8 % 8) n = first_is x below p.reserved in
    let s0 : m ≡ x ∷ drop 1 m = drop-cons m 0 0 p.some in
    let s1 : drop 1 m ≡ counter ++ drop from m =
    sym (take-append-drop n (drop 1 m)) ∙ (let d = drop-drop n 1 m in cc) in
    let s2 : drop from m ≡ name ++ rest = sym (take-append-drop k (drop from m)) ∙ (let d = drop-drop k from m in cc) in
    let s3 = append_assoc counter name rest in
    let fo : first_octet (plane_of x) (x / 8 % 8) (length counter) ≡ x = ap (λ i. first_octet (plane_of x) (x / 8 % 8) i) lc ∙ sym first in
    let whole : m ≡ front (front_of m from to).header counter ++ rest =
    s0 ∙ ap (λ (l : List ℕ). x ∷ l) (s1 ∙ ap (λ (l : List ℕ). counter ++ l) s2 ∙ sym s3)
    ∙ ap (λ (l : List ℕ). x ∷ ((counter ++ l) ++ rest)) (sym written.0)
    ∙ ap (λ i. i ∷ ((counter ++ id_octets (id_of name)) ++ rest)) (sym fo) in
    let begins : Begins (front_of m from to) m = record {
      writable = record { key = omega arith; id = ap is_id written.0 ∙ good; number = written.1 };
      counter = counter;
      counts = record { some = omega (arith, p.low.0); most = omega (arith, p.low.1); is = refl };
      rest = rest;
      is = whole;
      from = omega arith;
      to = ap (λ i. from + i) (sym (ap length written.0 ∙ ln));
    } in
    (p.size, subst (λ (g : Front). Begins g m) p.is begins)

-- a header as its writer writes it, whatever follows
pub back : (h : Header) (rest : List ℕ) → Writable h → h.counter < 2 ^ 32 → length (front h (counter_octets h.counter) ++ rest) ≤ longest_message
    → (f : Front) × (front_read (front h (counter_octets h.counter) ++ rest) ≡ Ok f) × (f.header ≡ h) × (f.to ≡ front_length h)
back h rest writable fits size =
    let w = width_of h.counter in
    let counter = counter_octets h.counter in
    let name = id_octets h.id in
    let lc = length-octets w h.counter in
    let ln = length-octets (width_of h.id.number) h.id.number in
    let fewest = width_fewest h.counter fits in
    let short = fewest.least longest_counter (omega arith) (omega arith) in
    let f : Front = record { header = h; from = 1 + length counter; to = 1 + length counter + length name } in
    let begins : Begins f (front h counter ++ rest) = record {
      writable = writable;
      counter = counter;
      counts = record { some = omega (arith, fewest.some); most = omega arith; is = number_octets w h.counter fewest.holds };
      rest = rest;
      is = refl;
      from = refl;
      to = refl;
    } in
    (f, each (front h counter ++ rest) f size begins, refl, omega arith)

pub read_as_written : ReadAsWritten
read_as_written = record { only = only; each = each; back = back }
