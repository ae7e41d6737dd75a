-- Each message is opened, with its header and content. Assumes nothing.
use Rattle.std.proofs.Common.{◌≡◌, ℕ, ◌+◌, ◌-◌, ◌*◌, ◌^◌, ◌<◌, ◌≤◌, true, ◌&&◌, eqb, leb, ◌⊎◌, List, [], ◌∷◌, ◌++◌, length, take, drop, Ok, Result, refl, ap, ◌∙◌, inl, inr, arith, length-append, length-take-le, take_at, drop_at}
use Rattle.std.specs.List.{between}
use Rattle.std.specs.Int.Digits.{number_from_digits}
use Rattle.std.specs.Str.{bytes_eq}
use Rattle.std.proofs.lemmas.Slice.Eq.{bytes_eq-Decides}
use Rattle.std.proofs.lemmas.List.{append_assoc, append-nil}
use Rattle.std.proofs.lemmas.Bool.{and_parts, eq-eqb, le-leb, leb-true, ltb-true, or_left, or_right}
use Rattle.refusal.specs.declared.Fault.{Fault}
use Rattle.refusal.specs.declared.Refusal.TheVariants.{OutOfRange, TooMuchData, OutputTooSmall}
use Rattle.refusal.specs.Refusals.{fault_at}
use Rattle.refusal.specs.Tests.{need, and_then}
use Rattle.refusal.proofs.Rows.{need_held, and_then_went}
use Rattle.suite.specs.Ciphers.{enciphered, padded, longest_tag}
use Rattle.suite.proofs.Ciphering.{enciphered-twice, length-enciphered, length-padded}
use Rattle.wire.specs.declared.parties.Plane.{Plane}
use Rattle.wire.specs.declared.parties.Plane.TheVariants.{Control, User}
use Rattle.wire.specs.declared.front.Header.{Header}
use Rattle.wire.specs.declared.front.Front.{Front}
use Rattle.wire.specs.FrontLaws.{Begins}
use Rattle.wire.specs.Fronts.{first_octet, front, front_read, counter_octets}
use Rattle.wire.specs.Ids.{id_octets, is_id}
use Rattle.wire.specs.Limits.{longest_counter, longest_message}
use Rattle.octets.specs.Octets.{octets, width_of}
use Rattle.octets.proofs.Numbers.{length-octets, number_octets, width_fewest}
use Rattle.wire.proofs.Readings as readings
use Rattle.framing.specs.declared.format.TagLength.{TagLength}
use Rattle.framing.specs.declared.format.TagLength.TheVariants.{Four, Eight, Twelve, Sixteen}
use Rattle.framing.specs.declared.format.Format.{Format}
use Rattle.framing.specs.declared.format.Protection.{Protection}
use Rattle.framing.specs.declared.layout.Layout.{Layout}
use Rattle.framing.specs.Formats.{tag_octets, length_octets, lead_of, least_of, inputs_of}
use Rattle.framing.specs.Layouts.{data_fits, sealed_length, plan_layout, planned, read_layout, located}
use Rattle.loopback.specs.MessageLaws.{Carries, Opens}
use Rattle.message.specs.Messages.{Keystream, Tag, body_of, tag_for, clear_rest, message}
use Rattle.message.specs.Opens.{cleared, tag_matches, length_matches, checked, opened_as, body_answer, open_answer, open_buffer}
use Rattle.message.specs.Seals.{has_content, in_range, seal_answer, seal_buffer}
use Rattle.message.proofs.Writes.{length_front, length_body}

pub tag_short : (t : TagLength) → tag_octets t ≤ longest_tag
tag_short Four = omega arith
tag_short Eight = omega arith
tag_short Twelve = omega arith
tag_short Sixteen = omega arith

-- a body is never shorter than the shortest
least_filled : (f : Format) (plane : Plane) (n : ℕ) → has_content plane n ≡ true → least_of f plane ≤ lead_of f plane + n
least_filled f Control n h = omega (arith, leb-true 1 n h)
least_filled f User n h = omega arith

-- Data Length, where there is one, holds the number of octets
length_held : (f : Format) (plane : Plane) (n : ℕ) → data_fits f plane n ≡ true → (lead_of f plane ≡ 0) ⊎ (n < 2 ^ (8 * lead_of f plane))
length_held f Control n h = inl refl
length_held f User n h = inr (ltb-true n (2 ^ (8 * length_octets f.length)) h)

same_octets : (xs : List ℕ) → bytes_eq xs xs ≡ true
same_octets xs = (bytes_eq-Decides xs xs).1 refl

-- a part between two others
pub between_at : (p q r : List ℕ) (i j : ℕ) → length p ≡ i → j ≡ i + length q → between i j (p ++ (q ++ r)) ≡ q
between_at p q r i j before behind =
    let d = drop_at p (q ++ r) i before in
    let z : j - i ≡ length q = omega arith in
    let t = take_at q r (length q) refl in
    cc

-- the parts of a message in clear: a front, a field for Data Length, content and a tag
pub record Parts (h : Header) (counter field content code : List ℕ) (w : Layout) (clear : List ℕ) : Type 0 where
  pub tagged : between w.from w.tag clear ≡ id_octets h.id ++ (field ++ content)
  pub tag : between w.tag w.end clear ≡ code
  pub lead : between w.to w.content clear ≡ field
  pub carried : between w.content w.tag clear ≡ content

pub clear_parts : (h : Header) (counter field content code : List ℕ) (w : Layout) (clear : List ℕ) → clear ≡ front h counter ++ ((field ++ content) ++ code)
    → w.from ≡ 1 + length counter → w.to ≡ w.from + length (id_octets h.id) → w.content ≡ w.to + length field → w.tag ≡ w.content + length content
    → w.end ≡ w.tag + length code → Parts h counter field content code w clear
clear_parts h counter field content code w clear is from_is to_is content_is tag_is end_is =
    let name = id_octets h.id in
    let fr = front h counter in
    let first = first_octet h.plane h.key (length counter) ∷ counter in
    let body = field ++ content in
    let lf = length_front h counter in
    let lb = length-append field content in
    let g1 = append_assoc counter name (body ++ code) in
    let g2 = append_assoc name body code in
    let s1 : clear ≡ first ++ ((name ++ body) ++ code) = cc in
    let s2 : clear ≡ (fr ++ body) ++ (code ++ []) = (let g3 = append_assoc fr body code in let n = append-nil code in cc) in
    let g4 = append_assoc field content code in
    let s3 : clear ≡ fr ++ (field ++ (content ++ code)) = cc in
    let s4 : clear ≡ (fr ++ field) ++ (content ++ code) = (let g5 = append_assoc fr field (content ++ code) in cc) in
    record {
      tagged = ap (between w.from w.tag) s1 ∙ between_at first (name ++ body) code w.from w.tag (omega arith) (let l = length-append name body in omega arith);
      tag = ap (between w.tag w.end) s2 ∙ between_at (fr ++ body) code [] w.tag w.end (length-append fr body ∙ omega arith) end_is;
      lead = ap (between w.to w.content) s3 ∙ between_at fr field (content ++ code) w.to w.content (omega arith) content_is;
      carried = ap (between w.content w.tag) s4 ∙ between_at (fr ++ field) content code w.content w.tag (length-append fr field ∙ omega arith) tag_is;
    }

-- the length of a message, and the message in clear
module _ (stream : Keystream) (tag : Tag) (p : Protection) (h : Header) (counter content : List ℕ) where
  length_code : length (tag_for (tag p.keys (inputs_of p h)) (tag_octets p.format.tag) (id_octets h.id) (body_of (lead_of p.format h.plane) content)) ≡ tag_octets p.format.tag
  length_code =
      let t = tag p.keys (inputs_of p h) (id_octets h.id ++ body_of (lead_of p.format h.plane) content) in
      length-take-le (tag_octets p.format.tag) (padded t) (omega (arith, length-padded t, tag_short p.format.tag))

  pub length-message : length (message stream tag p h counter content)
      ≡ 1 + length counter + length (id_octets h.id) + lead_of p.format h.plane + length content + tag_octets p.format.tag
  length-message =
      let body = body_of (lead_of p.format h.plane) content in
      let code = tag_for (tag p.keys (inputs_of p h)) (tag_octets p.format.tag) (id_octets h.id) body in
      let hidden = enciphered (stream p.keys (inputs_of p h)) 0 (body ++ code) in
      let l1 = length_front h counter in
      let l2 = length_body (lead_of p.format h.plane) content in
      let l3 = length_code in
      let l4 = length-enciphered (stream p.keys (inputs_of p h)) 0 (body ++ code) in
      let l5 = length-append body code in
      length-append (front h counter) hidden ∙ omega arith

  message-cleared : (to : ℕ) → length (front h counter) ≡ to
      → cleared (stream p.keys (inputs_of p h)) to (message stream tag p h counter content)
      ≡ front h counter ++ clear_rest (tag p.keys (inputs_of p h)) (tag_octets p.format.tag) (id_octets h.id) (body_of (lead_of p.format h.plane) content)
  message-cleared to n =
      let fr = front h counter in
      let rest = clear_rest (tag p.keys (inputs_of p h)) (tag_octets p.format.tag) (id_octets h.id) (body_of (lead_of p.format h.plane) content) in
      let hidden = enciphered (stream p.keys (inputs_of p h)) 0 rest in
      let t = take_at fr hidden to n in
      let d = drop_at fr hidden to n in
      let twice = enciphered-twice (stream p.keys (inputs_of p h)) 0 rest in
      cc

-- Data Length is read as it was written
length_read : (w : Layout) (lead n : ℕ) (clear : List ℕ) → w.content ≡ w.to + lead → w.tag ≡ w.content + n → (lead ≡ 0) ⊎ (n < 2 ^ (8 * lead))
    → between w.to w.content clear ≡ octets lead n → length_matches w clear ≡ true
length_read w lead n clear content_is tag_is held field = elim held [
  | inl none ↦ or_left (eqb (w.content - w.to) 0) _ (eq-eqb (w.content - w.to) 0 (omega arith))
  | inr below ↦
      let read : number_from_digits 256 (between w.to w.content clear) ≡ w.tag - w.content = ap (number_from_digits 256) field ∙ number_octets lead n below ∙ omega arith in
      or_right (eqb (w.content - w.to) 0) _ (eq-eqb (number_from_digits 256 (between w.to w.content clear)) (w.tag - w.content) read)
]

-- the answer and the buffer of an accepted message, test by test
pub opened_by : (stream : Keystream) (tag : Tag) (t : ℕ) (p : Protection) (m clear : List ℕ) (f : Front) (w : Layout) → tag_octets p.format.tag ≤ t → front_read m ≡ Ok f
    → located p.format f (length m) ≡ Ok w → cleared (stream p.keys (inputs_of p f.header)) f.to m ≡ clear
    → tag_matches (tag p.keys (inputs_of p f.header)) w clear ≡ true → length_matches w clear ≡ true
    → (open_answer stream tag t p m ≡ Ok (opened_as f.header w)) × (open_buffer stream tag t p m ≡ clear)
opened_by stream tag t p m clear f w fits read at clear_is tag_right length_right =
    let t0 : leb (tag_octets p.format.tag) t ≡ true = le-leb (tag_octets p.format.tag) t fits in
    let passes : checked (tag p.keys (inputs_of p f.header)) w clear ≡ Ok tt = rw (tag_right, length_right) in
    let body : body_answer stream tag p f m ≡ Ok (opened_as f.header w) = rw (at, clear_is, passes) in
    (rw (t0, read) body, rw (t0, read) (rw (at, clear_is, passes)))

pub each : (stream : Keystream) (tag : Tag) (t : ℕ) (p : Protection) (h : Header) (content m : List ℕ) → tag_octets p.format.tag ≤ t → length m ≤ longest_message
    → Carries stream tag p h content m → Opens stream tag t p h content m
each stream tag t p h content m fits size c =
    let counter = c.counter in
    let name = id_octets h.id in
    let lead = lead_of p.format h.plane in
    let body = body_of lead content in
    let tagged = tag p.keys (inputs_of p h) in
    let k = tag_octets p.format.tag in
    let code = tag_for tagged k name body in
    let f : Front = record { header = h; from = 1 + length counter; to = 1 + length counter + length name } in
    let hidden = enciphered (stream p.keys (inputs_of p h)) 0 (body ++ code) in
    let begins : Begins f m = record { writable = c.writable; counter = counter; counts = c.counts; rest = hidden; is = c.is; from = refl; to = refl } in
    let read = readings.each m f size begins in
    let lm : length m ≡ f.to + lead + length content + k = ap length c.is ∙ length-message stream tag p h counter content in
    let w = read_layout p.format f (length m) in
    let least = least_filled p.format h.plane (length content) c.some in
    let at : located p.format f (length m) ≡ Ok w = rw (le-leb (f.to + least_of p.format h.plane + k) (length m) (omega arith)) in
    let clear = front h counter ++ (body ++ code) in
    let lf = length_front h counter in
    let clear_is : cleared (stream p.keys (inputs_of p h)) f.to m ≡ clear =
    ap (cleared (stream p.keys (inputs_of p h)) f.to) c.is ∙ message-cleared stream tag p h counter content f.to (omega arith) in
    let lc = length_code stream tag p h counter content in
    let tag_is : w.tag ≡ w.content + length content = omega arith in
    let lo = length-octets lead (length content) in
    let parts = clear_parts h counter (octets lead (length content)) content code w clear refl refl refl (omega arith) tag_is (omega arith) in
    let z : w.end - w.tag ≡ k = omega arith in
    let tag_right : tag_matches tagged w clear ≡ true = rw (parts.tag, parts.tagged, z) (same_octets code) in
    let length_right = length_read w lead (length content) clear refl tag_is (length_held p.format h.plane (length content) c.fits) parts.lead in
    let by = opened_by stream tag t p m clear f w fits read at clear_is tag_right length_right in
    let s : w.content + (w.tag - w.content) ≡ w.tag = omega arith in
    record {
      opened = opened_as h w;
      answer = by.0;
      same_header = refl;
      same_content = ap (between w.content (w.content + (w.tag - w.content))) by.1 ∙ ap (λ j. between w.content j clear) s ∙ parts.carried;
    }

-- what an answer of sealing tells
record Sealed (t : ℕ) (p : Protection) (h : Header) (len room n : ℕ) : Type 0 where
  pub tag : tag_octets p.format.tag ≤ t
  pub key : (1 ≤ h.key) × (h.key ≤ 7)
  pub id : is_id (id_octets h.id) ≡ true
  pub some : has_content h.plane len ≡ true
  pub fits : data_fits p.format h.plane len ≡ true
  pub is : sealed_length p.format h len ≡ n
  pub size : n ≤ longest_message

sealed_tells : (t : ℕ) (p : Protection) (h : Header) (len room n : ℕ) → seal_answer t p h len room ≡ Ok n → Sealed t p h len room n
sealed_tells t p h len room n answer =
    let f = p.format in
    let total = sealed_length f h len in
    let ended : Layout → Result ℕ Fault = λ w. Ok w.end in
    let s1 = need_held (in_range t f h len) (fault_at OutOfRange 0) (and_then (planned f h len room) ended) n answer in
    let s2 = and_then_went (planned f h len room) ended n s1.1 in
    let last = need (leb total room) (fault_at OutputTooSmall 0) (Ok (plan_layout f h len)) in
    let s3 = need_held (data_fits f h.plane len && leb total longest_message) (fault_at TooMuchData 0) last s2.0 s2.1 in
    let s4 = need_held (leb total room) (fault_at OutputTooSmall 0) (Ok (plan_layout f h len)) s2.0 s3.1 in
    let w_is : plan_layout f h len ≡ s2.0 = cc s4.1 in
    let end_is : s2.0.end ≡ n = cc s2.2 in
    let total_is : total ≡ n = ap (λ (w : Layout). w.end) w_is ∙ end_is in
    let r1 = and_parts (leb (tag_octets f.tag) t) _ s1.0 in
    let r2 = and_parts (leb 1 h.key) _ r1.1 in
    let r3 = and_parts (leb h.key 7) _ r2.1 in
    let r4 = and_parts (is_id (id_octets h.id)) (has_content h.plane len) r3.1 in
    let q = and_parts (data_fits f h.plane len) (leb total longest_message) s3.0 in
    record {
      tag = leb-true (tag_octets f.tag) t r1.0;
      key = (leb-true 1 h.key r2.0, leb-true h.key 7 r3.0);
      id = r4.0;
      some = r4.1;
      fits = q.0;
      is = total_is;
      size = omega (arith, leb-true total longest_message q.1);
    }

-- a sealed message has the length that was answered, and what stood behind it stays
pub sealed_buffer : (stream : Keystream) (tag : Tag) (t : ℕ) (p : Protection) (h : Header) (content out : List ℕ) (n : ℕ) → seal_answer t p h (length content) (length out) ≡ Ok n
    → (seal_buffer stream tag t p h content out ≡ message stream tag p h (counter_octets h.counter) content ++ drop n out)
    × (length (message stream tag p h (counter_octets h.counter) content) ≡ n)
sealed_buffer stream tag t p h content out n answer =
    let s = sealed_tells t p h (length content) (length out) n answer in
    let lc = length-octets (width_of h.counter) h.counter in
    let li = length-octets (width_of h.id.number) h.id.number in
    (rw answer, length-message stream tag p h (counter_octets h.counter) content ∙ omega (arith, s.is))

pub back : (stream : Keystream) (tag : Tag) (t : ℕ) (p : Protection) (h : Header) (content out : List ℕ) (n : ℕ) → h.counter < 2 ^ 32 → h.id.number < 2 ^ 32
    → seal_answer t p h (length content) (length out) ≡ Ok n
    → (length (take n (seal_buffer stream tag t p h content out)) ≡ n)
    × Carries stream tag p h content (take n (seal_buffer stream tag t p h content out))
    × Opens stream tag t p h content (take n (seal_buffer stream tag t p h content out))
back stream tag t p h content out n counter_fits id_fits answer =
    let s = sealed_tells t p h (length content) (length out) n answer in
    let counter = counter_octets h.counter in
    let whole = message stream tag p h counter content in
    let lc = length-octets (width_of h.counter) h.counter in
    let buffer = sealed_buffer stream tag t p h content out n answer in
    let m = take n (seal_buffer stream tag t p h content out) in
    let is : m ≡ whole = ap (take n) buffer.0 ∙ take_at whole (drop n out) n buffer.1 in
    let fewest = width_fewest h.counter counter_fits in
    let carries : Carries stream tag p h content m = record {
      writable = record { key = omega (arith, s.key.1); id = s.id; number = id_fits };
      fits = s.fits;
      some = s.some;
      counter = counter;
      counts = record {
        some = omega (arith, fewest.some);
        most = omega (arith, fewest.least longest_counter (omega arith) (omega arith));
        is = number_octets (width_of h.counter) h.counter fewest.holds;
      };
      is = is;
    } in
    let lm : length m ≡ n = ap length is ∙ buffer.1 in
    (lm, carries, each stream tag t p h content m s.tag (omega (arith, s.size)) carries)
