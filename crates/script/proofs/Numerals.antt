-- The steps of the loop that reads pairs of digits, and what `parse` gives of decimal digits.
use Rattle.std.proofs.Common.{◌≡◌, ℕ, ◌+◌, ◌-◌, ◌*◌, ◌^◌, ◌<◌, ◌≤◌, min, true, false, Bool, cond, ◌&&◌, leb, List, [], ◌∷◌, ◌++◌, length, Some, None, Option, Ok, Err, Result, IsUtf8, sym, refl, ap, ◌∙◌, append_assoc, arith, rules}
use Rattle.std.specs.Option.{option_map}
use Rattle.std.specs.Char.{is_ascii_digit}
use Rattle.std.specs.List.{list_all}
use Rattle.std.specs.Result.{result_ok}
use Rattle.std.specs.Str.Parse.{ParsesUnsigned}
use Rattle.std.proofs.lemmas.Fmt.{IsAscii-from_digits}
use Rattle.std.proofs.lemmas.Str.{IsUtf8-from_ascii}
use Rattle.std.proofs.lemmas.Str.Parse.{IsNumeralModel, numerals_by_fold, digits_value_short, parse_digits, parse_gives}
use Rattle.std.proofs.lemmas.Bool.Decides.{nat_tests}
use Rattle.script.specs.Digits.{and_then, octet_read, octets_read, digits_after, number_read}

-- ---- octets

-- what is read of the rest, behind the octets that were read before
abbrev pub behind : List ℕ → Option (List ℕ) → Option (List ℕ)
behind done rest = option_map (λ xs. done ++ xs) rest

behind_one : (done : List ℕ) (x : ℕ) (rest : Option (List ℕ)) → behind (done ++ x ∷ []) rest ≡ behind done (and_then rest (λ xs. Some (x ∷ xs)))
behind_one done x None = refl
behind_one done x (Some xs) = ap Some (append_assoc done (x ∷ []) xs)

-- digits begin with a pair, or with one digit that is no pair
pair_first : (pair rest : List ℕ) → length pair ≡ min 2 (length (pair ++ rest)) → 0 < length (pair ++ rest)
    → octets_read (pair ++ rest) ≡ and_then (octet_read pair) (λ x. and_then (octets_read rest) (λ xs. Some (x ∷ xs)))
pair_first [] rest h p = absurd (omega arith)
pair_first (high ∷ []) [] h p = refl
pair_first (high ∷ []) (low ∷ rest) h p = absurd (omega arith)
pair_first (high ∷ low ∷ []) rest h p = refl
pair_first (high ∷ low ∷ x ∷ more) rest h p = absurd (omega arith)

pair_of : (left pair rest : List ℕ) → left ≡ pair ++ rest → length pair ≡ min 2 (length left) → 0 < length left
    → octets_read left ≡ and_then (octet_read pair) (λ x. and_then (octets_read rest) (λ xs. Some (x ∷ xs)))
pair_of left pair rest e h p =
    ap octets_read e ∙ pair_first pair rest (h ∙ ap (λ (l : List ℕ). min 2 (length l)) e) (omega (arith, ap length e))

pub pair_more : (left pair rest done done' : List ℕ) (x : ℕ) (all : Option (List ℕ)) → left ≡ pair ++ rest → length pair ≡ min 2 (length left) → 0 < length left
    → Some x ≡ octet_read pair → done' ≡ done ++ x ∷ [] → behind done (octets_read left) ≡ all → behind done' (octets_read rest) ≡ all
pair_more left pair rest done done' x all e h p is push v =
    let b : octet_read pair ≡ Some x = sym is in
    let s : octets_read left ≡ and_then (octets_read rest) (λ xs. Some (x ∷ xs)) = rw b at (pair_of left pair rest e h p) in
    ap (λ (t : List ℕ). behind t (octets_read rest)) push ∙ behind_one done x (octets_read rest) ∙ ap (behind done) (sym s) ∙ v

-- ---- a number

abbrev pub read_on : ℕ → List ℕ → ℕ
read_on n [] = n
read_on n (c ∷ cs) = read_on (n * 10 + (c - 48)) cs

own : IsNumeralModel (λ ds. list_all is_ascii_digit ds ≡ true) (read_on 0)
own = numerals_by_fold _ (search rules) read_on (search rules)

digits_read : (n : ℕ) (l : List ℕ) → digits_after n l ≡ cond (list_all is_ascii_digit l) (Some (read_on n l)) None
digits_read n [] = refl
digits_read n (c ∷ cs) =
    elim (leb 48 c && leb c 57) as (λ b. cond b (digits_after (n * 10 + (c - 48)) cs) None ≡ cond (b && list_all is_ascii_digit cs) (Some (read_on (n * 10 + (c - 48)) cs)) None) [
      | true ↦ digits_read (n * 10 + (c - 48)) cs
      | false ↦ refl
    ]

pub number_short : (l : List ℕ) → list_all is_ascii_digit l ≡ true → length l ≤ 10 → read_on 0 l < 2 ^ 64
number_short l p h = omega (arith, digits_value_short own l 10 p h)

-- a text that is too long, or not all digits
pub too_long : (l : List ℕ) → 10 < length l → None ≡ number_read l
too_long l h = grind (arith, nat_tests)

pub not_digits : (l : List ℕ) → list_all is_ascii_digit l ≡ false → None ≡ number_read l
not_digits l h =
    let d : digits_after 0 l ≡ None = digits_read 0 l ∙ ap (λ (b : Bool). cond b (Some (read_on 0 l)) None) h in
    grind (arith, nat_tests)

-- digits are text
pub digits_text : (l : List ℕ) → list_all is_ascii_digit l ≡ true → IsUtf8 l
digits_text l p = IsUtf8-from_ascii l (IsAscii-from_digits l (own.to l p))

digits_number : (l : List ℕ) → list_all is_ascii_digit l ≡ true → 0 < length l → length l ≤ 10 → number_read l ≡ Some (read_on 0 l)
digits_number l p some h =
    let d : digits_after 0 l ≡ Some (read_on 0 l) = digits_read 0 l ∙ ap (λ (b : Bool). cond b (Some (read_on 0 l)) None) p in
    grind (arith, nat_tests)

pub number_parsed : {E : Type 0} (l : List ℕ) (r : Result ℕ E) → list_all is_ascii_digit l ≡ true → length l ≤ 10 → ParsesUnsigned 64 10 l r → result_ok r ≡ number_read l
number_parsed {E} [] (Ok n) p h is = absurd (omega (arith, (parse_digits own {E = E} 64 [] (Ok n) is p).0.0))
number_parsed [] (Err e) p h is = refl
number_parsed (c ∷ cs) r p h is =
    let g = parse_gives own 64 (c ∷ cs) r is p (omega arith) (number_short (c ∷ cs) p h) in
    ap result_ok g ∙ sym (digits_number (c ∷ cs) p (omega arith) h)
