-- What is opened is a message. Assumes nothing.
use Rattle.std.proofs.Common.{◌≡◌, ℕ, ◌+◌, ◌-◌, ◌*◌, ◌^◌, ◌<◌, ◌≤◌, true, eqb, leb, ◌⊎◌, List, [], ◌∷◌, ◌++◌, length, take, drop, replicate, Ok, Result, sym, refl, ap, ◌∙◌, subst, inl, inr, arith, length-append, length-drop, length-take-le, take_at, drop_at}
use lib.Bits.{xor_lt}
use lib.Seq.{take-append-le}
use Rattle.std.specs.List.{between}
use Rattle.std.specs.Int.Digits.{number_from_digits, AllBelowBase}
use Rattle.std.proofs.ByRecursion.{All-take, All-drop}
use Rattle.std.proofs.lemmas.Slice.Eq.{bytes_eq-Decides}
use Rattle.std.proofs.lemmas.List.{append_assoc, nil_from_length, take-append-drop}
use Rattle.std.proofs.lemmas.Bool.{eqb-true, le-leb, leb-true, lt-ltb, or_cases}
use Rattle.refusal.specs.declared.Fault.{Fault}
use Rattle.refusal.specs.declared.Refusal.TheVariants.{OutOfRange, EndsInBody, TagDiffers, DataLengthDiffers}
use Rattle.refusal.specs.Refusals.{fault_at}
use Rattle.refusal.specs.Tests.{need, and_then}
use Rattle.refusal.proofs.Rows.{need_held, and_then_went}
use Rattle.suite.specs.declared.Keyset.{Keyset}
use Rattle.suite.specs.declared.Inputs.{Inputs}
use Rattle.suite.specs.Ciphers.{enciphered, padded, longest_tag}
use Rattle.suite.proofs.Ciphering.{enciphered-twice, length-enciphered}
use Rattle.wire.specs.declared.parties.Plane.{Plane}
use Rattle.wire.specs.declared.parties.Plane.TheVariants.{Control, User}
use Rattle.wire.specs.declared.front.Header.{Header}
use Rattle.wire.specs.declared.front.Front.{Front}
use Rattle.wire.specs.Fronts.{front, front_read}
use Rattle.wire.specs.Ids.{id_octets}
use Rattle.wire.specs.Limits.{longest_message}
use Rattle.octets.specs.Octets.{octets}
use Rattle.octets.proofs.Numbers.{number_holds, octets_number}
use Rattle.wire.proofs.Readings as readings
use Rattle.framing.specs.declared.format.DataLength.{DataLength}
use Rattle.framing.specs.declared.format.DataLength.TheVariants.{One, Two}
use Rattle.framing.specs.declared.format.Format.{Format}
use Rattle.framing.specs.declared.format.Protection.{Protection}
use Rattle.framing.specs.declared.layout.Layout.{Layout}
use Rattle.message.specs.declared.open.Opened.{Opened}
use Rattle.framing.specs.Formats.{tag_octets, length_octets, lead_of, least_of, inputs_of}
use Rattle.framing.specs.Layouts.{data_fits, read_layout, located}
use Rattle.loopback.specs.MessageLaws.{Carries, content_in, OpenedAsSealed}
use Rattle.message.specs.Messages.{Keystream, Tag, body_of, tag_for, clear_rest, message}
use Rattle.message.specs.Opens.{cleared, tag_matches, length_matches, checked, opened_as, body_answer, open_answer, open_buffer}
use Rattle.message.specs.Seals.{has_content}
use Rattle.loopback.proofs.Openings.{clear_parts, opened_by, each, back}
use Rattle.message.proofs.Writes.{length_front}

under_enciphered : (f : ℕ → ℕ) (i : ℕ) (xs : List ℕ) → ((place : ℕ) → f place < 256) → AllBelowBase 256 xs → AllBelowBase 256 (enciphered f i xs)
under_enciphered f i [] octet u = tt
under_enciphered f i (x ∷ xs) octet u = (xor_lt 8 x (f i) u.0 (octet i), under_enciphered f (i + 1) xs octet u.1)

-- a body that is long enough has its content
some_content : (f : Format) (plane : Plane) (n : ℕ) → least_of f plane ≤ lead_of f plane + n → has_content plane n ≡ true
some_content f Control n h = le-leb 1 n (omega arith)
some_content f User n h = refl

lead_least : (f : Format) (plane : Plane) → lead_of f plane ≤ least_of f plane
lead_least f Control = omega arith
lead_least f User = omega arith

some_data : (d : DataLength) → 1 ≤ length_octets d
some_data One = omega arith
some_data Two = omega arith

fits_from : (f : Format) (plane : Plane) (n : ℕ) → (lead_of f plane ≡ 0) ⊎ (n < 2 ^ (8 * lead_of f plane)) → data_fits f plane n ≡ true
fits_from f Control n h = refl
fits_from f User n h = elim h [ inl none ↦ absurd (omega (arith, some_data f.length)) | inr below ↦ lt-ltb n (2 ^ (8 * length_octets f.length)) below ]

-- a field that passes its test is the Data Length of n octets
field_is : (field : List ℕ) (n : ℕ) → AllBelowBase 256 field → (length field ≡ 0) ⊎ (number_from_digits 256 field ≡ n)
    → (field ≡ octets (length field) n) × ((length field ≡ 0) ⊎ (n < 2 ^ (8 * length field)))
field_is field n u test = elim test [
  | inl none ↦ let e = nil_from_length field none in (rw e, inl none)
  | inr read ↦
      let o = octets_number field u in
      let b = number_holds field u in
      (sym o ∙ ap (octets (length field)) read, inr (subst (λ k. k < 2 ^ (8 * length field)) read b))
]

-- what the tests of an opening tell, where none refuses
record Passed (stream : Keystream) (tag : Tag) (t : ℕ) (p : Protection) (m : List ℕ) (o : Opened) : Type 0 where
  pub fits : tag_octets p.format.tag ≤ t
  pub front : Front
  pub read : front_read m ≡ Ok front
  pub room : front.to + least_of p.format front.header.plane + tag_octets p.format.tag ≤ length m
  pub tagged : tag_matches (tag p.keys (inputs_of p front.header)) (read_layout p.format front (length m)) (cleared (stream p.keys (inputs_of p front.header)) front.to m) ≡ true
  pub counted : length_matches (read_layout p.format front (length m)) (cleared (stream p.keys (inputs_of p front.header)) front.to m) ≡ true
  pub is : opened_as front.header (read_layout p.format front (length m)) ≡ o

passed : (stream : Keystream) (tag : Tag) (t : ℕ) (p : Protection) (m : List ℕ) (o : Opened) → open_answer stream tag t p m ≡ Ok o → Passed stream tag t p m o
passed stream tag t p m o answer =
    let k = tag_octets p.format.tag in
    let opens : Front → Result Opened Fault = λ f. body_answer stream tag p f m in
    let a1 = need_held (leb k t) (fault_at OutOfRange 0) (and_then (front_read m) opens) o answer in
    let a2 = and_then_went (front_read m) opens o a1.1 in
    let f = a2.0 in
    let h = f.header in
    let tagged = tag p.keys (inputs_of p h) in
    let clear = cleared (stream p.keys (inputs_of p h)) f.to m in
    let says : Layout → Unit {0} → Result Opened Fault = λ w _. Ok (opened_as h w) in
    let tests : Layout → Result Opened Fault = λ w. and_then (checked tagged w clear) (says w) in
    let a3 = and_then_went (located p.format f (length m)) tests o a2.2 in
    let w = a3.0 in
    let a4 = and_then_went (checked tagged w clear) (says w) o a3.2 in
    let at = read_layout p.format f (length m) in
    let a5 = need_held (leb (f.to + least_of p.format h.plane + k) (length m)) (fault_at EndsInBody (length m)) (Ok at) w a3.1 in
    let a6 = need_held (tag_matches tagged w clear) (fault_at TagDiffers w.tag) (need (length_matches w clear) (fault_at DataLengthDiffers w.to) (Ok tt)) a4.0 a4.1 in
    let a7 = need_held (length_matches w clear) (fault_at DataLengthDiffers w.to) (Ok tt) a4.0 a6.1 in
    let w_is : at ≡ w = cc a5.1 in
    let o_is : opened_as h w ≡ o = cc a4.2 in
    record {
      fits = leb-true k t a1.0;
      front = f;
      read = a2.1;
      room = leb-true (f.to + least_of p.format h.plane + k) (length m) a5.0;
      tagged = ap (λ (x : Layout). tag_matches tagged x clear) w_is ∙ a6.0;
      counted = ap (λ (x : Layout). length_matches x clear) w_is ∙ a7.0;
      is = ap (opened_as h) w_is ∙ o_is;
    }

only : (stream : Keystream) (tag : Tag) (t : ℕ) (p : Protection) (m : List ℕ) (o : Opened) → ((place : ℕ) (h : Header) → stream p.keys (inputs_of p h) place < 256)
    → AllBelowBase 256 m → open_answer stream tag t p m ≡ Ok o
    → (length m ≤ longest_message) × Carries stream tag p o.header (content_in o (open_buffer stream tag t p m)) m
only stream tag t p m o octet u answer =
    let a = passed stream tag t p m o answer in
    let f = a.front in
    let h = f.header in
    let k = tag_octets p.format.tag in
    let lead = lead_of p.format h.plane in
    let cipher = stream p.keys (inputs_of p h) in
    let tagged = tag p.keys (inputs_of p h) in
    let w = read_layout p.format f (length m) in
    let clear = cleared cipher f.to m in
    let begun = readings.only m f u a.read in
    let b = begun.1 in
    let counter = b.counter in
    let name = id_octets h.id in
    let fr = front h counter in
    let rest = b.rest in
    let lf = length_front h counter in
    let to_is : length fr ≡ f.to = omega (arith, b.from, b.to) in
    let taken : take f.to m ≡ fr = ap (take f.to) b.is ∙ take_at fr rest f.to to_is in
    let dropped : drop f.to m ≡ rest = ap (drop f.to) b.is ∙ drop_at fr rest f.to to_is in
    let rest_cleared = enciphered cipher 0 rest in
    let clear_is : clear ≡ fr ++ rest_cleared = cc in
    let hidden : enciphered cipher 0 rest_cleared ≡ rest = enciphered-twice cipher 0 rest in
    let lm : length m ≡ f.to + length rest = ap length b.is ∙ length-append fr rest ∙ omega arith in
    let lr = length-enciphered cipher 0 rest in
    let least = lead_least p.format h.plane in
    let room = a.room in
    let n = w.tag - w.content in
    let field = take lead rest_cleared in
    let behind = drop lead rest_cleared in
    let content = take n behind in
    let code = drop n behind in
    let split : rest_cleared ≡ (field ++ content) ++ code =
    sym (take-append-drop lead rest_cleared) ∙ ap (λ (l : List ℕ). field ++ l) (sym (take-append-drop n behind)) ∙ sym (append_assoc field content code) in
    let lfield : length field ≡ lead = length-take-le lead rest_cleared (omega arith) in
    let lbehind : length behind ≡ length rest_cleared - lead = length-drop lead rest_cleared in
    let lcontent : length content ≡ n = length-take-le n behind (omega arith) in
    let lcode : length code ≡ length behind - n = length-drop n behind in
    let parts = clear_parts h counter field content code w clear (clear_is ∙ ap (λ (l : List ℕ). fr ++ l) split) b.from b.to (omega arith) (omega arith) (omega arith) in
    let z : w.end - w.tag ≡ k = omega arith in
    let code_is : code ≡ tag_for tagged k name (field ++ content) =
    (bytes_eq-Decides code (take k (padded (tagged (name ++ (field ++ content)))))).0 (rw (parts.tag, parts.tagged, z) at a.tagged) in
    let under_rest : AllBelowBase 256 rest = subst (AllBelowBase 256) dropped (All-drop (λ d. d < 256) f.to m u) in
    let under_field : AllBelowBase 256 field = All-take (λ d. d < 256) lead rest_cleared (under_enciphered cipher 0 rest (λ place. octet place h) under_rest) in
    let test : (length field ≡ 0) ⊎ (number_from_digits 256 field ≡ length content) =
    elim (or_cases (eqb (w.content - w.to) 0) (eqb (number_from_digits 256 (between w.to w.content clear)) n) a.counted) [
      | inl none ↦ let e = eqb-true (w.content - w.to) 0 none in inl (omega arith)
      | inr read ↦ inr (ap (number_from_digits 256) (sym parts.lead) ∙ eqb-true (number_from_digits 256 (between w.to w.content clear)) n read ∙ sym lcontent)
    ] in
    let counted = field_is field (length content) under_field test in
    let field_octets : field ≡ octets lead (length content) = counted.0 ∙ ap (λ i. octets i (length content)) lfield in
    let body : rest_cleared ≡ clear_rest tagged k name (body_of lead content) =
    split ∙ ap (λ (l : List ℕ). (field ++ content) ++ l) code_is ∙ ap (λ (l : List ℕ). (l ++ content) ++ tag_for tagged k name (l ++ content)) field_octets in
    let whole : m ≡ message stream tag p h counter content = b.is ∙ ap (λ (l : List ℕ). fr ++ l) (sym hidden ∙ ap (enciphered cipher 0) body) in
    let held : (lead ≡ 0) ⊎ (length content < 2 ^ (8 * lead)) = rw lfield at counted.1 in
    let some = some_content p.format h.plane (length content) (omega arith) in
    let carries : Carries stream tag p h content m = record {
      writable = b.writable;
      fits = fits_from p.format h.plane (length content) held;
      some = some;
      counter = counter;
      counts = b.counts;
      is = whole;
    } in
    let located_at : located p.format f (length m) ≡ Ok w = rw (le-leb (f.to + least_of p.format h.plane + k) (length m) room) in
    let by = opened_by stream tag t p m clear f w a.fits a.read located_at refl a.tagged a.counted in
    let s : w.content + n ≡ w.tag = omega arith in
    let content_is : content_in (opened_as h w) (open_buffer stream tag t p m) ≡ content =
    ap (between w.content (w.content + n)) by.1 ∙ ap (λ j. between w.content j clear) s ∙ parts.carried in
    let carried : Carries stream tag p (opened_as h w).header (content_in (opened_as h w) (open_buffer stream tag t p m)) m =
    subst (λ (c : List ℕ). Carries stream tag p h c m) (sym content_is) carries in
    (begun.0, subst (λ (x : Opened). Carries stream tag p x.header (content_in x (open_buffer stream tag t p m)) m) a.is carried)

padded-front : (tag : List ℕ) (t m : ℕ) → length tag ≡ t → m ≤ t → take m (padded tag) ≡ take m tag
padded-front tag t m n h = take-append-le m tag (replicate (longest_tag - length tag) 0) (omega arith)

pub opened_as_sealed : (stream : Keystream) (tag : Tag) (t : ℕ) → ((k : Keyset) (i : Inputs) (place : ℕ) → stream k i place < 256)
    → ((k : Keyset) (i : Inputs) (m : List ℕ) → length (tag k i m) ≡ t) → OpenedAsSealed stream tag t
opened_as_sealed stream tag t octet sized = record {
  only = λ p m o. only stream tag t p m o (λ place h. octet p.keys (inputs_of p h) place);
  each = each stream tag t;
  cut = λ p k i m. padded-front (tag k i m) t (tag_octets p.format.tag) (sized k i m);
  back = back stream tag t;
}
