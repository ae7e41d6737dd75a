-- A message written piece by piece, tagged and enciphered. Assumes nothing.
use Rattle.std.proofs.Common.{◌≡◌, ℕ, suc, ◌+◌, ◌-◌, ◌≤◌, List, ◌∷◌, ◌++◌, length, take, drop, sym, ap, ◌∙◌, arith, length-append, length-take, length-take-le, drop-drop, take_at, drop_at}
use borrow.Rule.Slice.PartMut.{put_mid}
use Rattle.std.specs.List.{between}
use Rattle.std.proofs.lemmas.List.{append_assoc, drop-append-le}
use Rattle.std.proofs.lemmas.Slice.{between_is, drop-put_mid, take-put_mid, take-put_mid_below}
use Rattle.suite.specs.Ciphers.{enciphered, padded}
use Rattle.suite.proofs.Ciphering.{length-padded}
use Rattle.wire.specs.declared.front.Header.{Header}
use Rattle.wire.specs.Fronts.{front, front_length, counter_octets, first_octet}
use Rattle.wire.specs.Ids.{id_octets}
use Rattle.octets.specs.Octets.{octets, width_of}
use Rattle.octets.proofs.Numbers.{length-octets}
use Rattle.octets.proofs.Pieces.{piece_length, piece_written}
use Rattle.framing.specs.declared.format.Format.{Format}
use Rattle.framing.specs.declared.format.Protection.{Protection}
use Rattle.framing.specs.declared.layout.Layout.{Layout}
use Rattle.framing.specs.Formats.{tag_octets, lead_of, inputs_of}
use Rattle.framing.specs.Layouts.{Laid, Ordered}
use Rattle.message.specs.Messages.{Keystream, Tag, body_of, clear_rest, message}

pub length_front : (h : Header) (counter : List ℕ) → length (front h counter) ≡ 1 + length counter + length (id_octets h.id)
length_front h counter = ap suc (length-append counter (id_octets h.id)) ∙ omega arith

pub length_body : (lead : ℕ) (content : List ℕ) → length (body_of lead content) ≡ lead + length content
length_body lead content = length-append (octets lead (length content)) content ∙ ap (λ k. k + length content) (length-octets lead (length content))

pub front-planned : (h : Header) → length (front h (counter_octets h.counter)) ≡ front_length h
front-planned h =
    let a = length_front h (counter_octets h.counter) in
    let b = length-octets (width_of h.counter) h.counter in
    let c = length-octets (width_of h.id.number) h.id.number in
    omega arith

-- Data Length and content behind a front
pub clear_written : (f : Format) (h : Header) (w : Layout) (content out now field filled : List ℕ) → Laid f h (length content) w → w.end ≤ length out
    → now ≡ front h (counter_octets h.counter) ++ drop (front_length h) out
    → field ≡ octets (length (between w.to w.content now)) (length content) → filled ≡ content
    → put_mid w.content (w.tag - w.content) (put_mid w.to (w.content - w.to) now field) filled
    ≡ (front h (counter_octets h.counter) ++ body_of (lead_of f h.plane) content) ++ drop w.tag out
clear_written f h w content out now field filled laid room now_is field_is filled_is =
    let fr = front h (counter_octets h.counter) in
    let a2 = laid.to in
    let a3 = laid.content in
    let a4 = laid.tag in
    let a5 = laid.end in
    let s0 : now ≡ fr ++ drop w.to out = now_is ∙ ap (λ k. fr ++ drop k out) (sym laid.to) in
    let l0 : length fr ≡ w.to = front-planned h ∙ sym laid.to in
    let p1 = piece_length out fr now w.to w.content s0 l0 (omega arith) (omega arith) in
    let z1 : w.content - w.to ≡ lead_of f h.plane = omega arith in
    let c1 : field ≡ octets (lead_of f h.plane) (length content) = cc in
    let l1 : length field ≡ w.content - w.to = ap length c1 ∙ length-octets (lead_of f h.plane) (length content) ∙ sym z1 in
    let s1 = piece_written out fr now w.to w.content s0 l0 (omega arith) (omega arith) field l1 in
    let l2 : length filled ≡ w.tag - w.content = ap length filled_is ∙ omega arith in
    let s2 = piece_written out (fr ++ field) (put_mid w.to (w.content - w.to) now field) w.content w.tag s1.0 s1.1 (omega arith) (omega arith) filled l2 in
    let g = append_assoc fr field filled in
    cc

-- the tag behind the content, and all from the body on enciphered
pub protected_is : (f : ℕ → ℕ) (tag : List ℕ → List ℕ) (w : Layout) (out array t part : List ℕ) → Ordered w w.end → w.end ≤ length out
    → array ≡ padded (tag (between w.from w.tag out)) → t ≡ take (w.end - w.tag - 0) array
    → part ≡ enciphered f 0 (between w.to w.end (put_mid w.tag (w.end - w.tag) out t))
    → put_mid w.to (w.end - w.to) (put_mid w.tag (w.end - w.tag) out t) part
    ≡ take w.to out ++ (enciphered f 0 (between w.to w.tag out ++ take (w.end - w.tag) (padded (tag (between w.from w.tag out)))) ++ drop w.end out)
protected_is f tag w out array t part o room array_is t_is part_is =
    let m = w.end - w.tag in
    let o1 = o.lead in
    let o2 = o.content in
    let o3 = o.tag in
    let o4 = o.short_tag in
    let z : m - 0 ≡ m = omega arith in
    let q = padded (tag (between w.from w.tag out)) in
    let cut : t ≡ take m q = cc in
    let n : length t ≡ m = ap length cut ∙ length-take-le m q (omega (arith, length-padded (tag (between w.from w.tag out)))) in
    let p = put_mid w.tag m out t in
    let at : w.tag ≤ length out = omega arith in
    let l : w.to ≤ length (take w.tag out) = simp length-take (omega arith) in
    let body : between w.to w.end p ≡ between w.to w.tag out ++ t =
    between_is p w.to w.end ∙ ap (drop w.to) (take-put_mid w.tag m out t w.end (omega arith) at) ∙ drop-append-le w.to (take w.tag out) t l
    ∙ ap (λ y. y ++ t) (sym (between_is out w.to w.tag)) in
    let before : take w.to p ≡ take w.to out = take-put_mid_below w.tag m out t w.to (omega arith) at in
    let s : w.to + (w.end - w.to) ≡ w.end = omega arith in
    let back : drop (w.end - w.to) (drop w.to p) ≡ drop w.end out =
    drop-drop (w.end - w.to) w.to p ∙ ap (λ k. drop k p) s ∙ drop-put_mid w.tag m out t w.end (omega arith) at n in
    cc

-- both together are the message
pub message-written : (stream : Keystream) (tag : Tag) (p : Protection) (h : Header) (w : Layout) (content out now after : List ℕ) → Laid p.format h (length content) w
    → w.end ≤ length out → now ≡ (front h (counter_octets h.counter) ++ body_of (lead_of p.format h.plane) content) ++ drop w.tag out
    → after
    ≡ take w.to now
    ++ (enciphered (stream p.keys (inputs_of p h)) 0 (between w.to w.tag now ++ take (w.end - w.tag) (padded (tag p.keys (inputs_of p h) (between w.from w.tag now)))) ++ drop w.end now)
    → after ≡ message stream tag p h (counter_octets h.counter) content ++ drop w.end out
message-written stream tag p h w content out now after laid room now_is after_is =
    let counter = counter_octets h.counter in
    let name = id_octets h.id in
    let first = first_octet h.plane h.key (length counter) ∷ counter in
    let fr = front h counter in
    let body = body_of (lead_of p.format h.plane) content in
    let rest = drop w.tag out in
    let lc = length-octets (width_of h.counter) h.counter in
    let lb = length_body (lead_of p.format h.plane) content in
    let a1 = laid.from in
    let a2 = laid.to in
    let a3 = laid.content in
    let a4 = laid.tag in
    let a5 = laid.end in
    let lf : length fr ≡ w.to = front-planned h ∙ sym laid.to in
    let l1 : length first ≡ w.from = omega arith in
    let whole : now ≡ fr ++ (body ++ rest) = now_is ∙ append_assoc fr body rest in
    let t1 : take w.to (fr ++ (body ++ rest)) ≡ fr = take_at fr (body ++ rest) w.to lf in
    let d1 : drop w.to (fr ++ (body ++ rest)) ≡ body ++ rest = drop_at fr (body ++ rest) w.to lf in
    let m1 : take (w.tag - w.to) (body ++ rest) ≡ body = take_at body rest (w.tag - w.to) (omega arith) in
    let again : now ≡ first ++ ((name ++ body) ++ rest) = whole ∙ (let g1 = append_assoc counter name (body ++ rest) in let g2 = append_assoc name body rest in cc) in
    let d2 : drop w.from (first ++ ((name ++ body) ++ rest)) ≡ (name ++ body) ++ rest = drop_at first ((name ++ body) ++ rest) w.from l1 in
    let lf2 = length_front h counter in
    let m2 : take (w.tag - w.from) ((name ++ body) ++ rest) ≡ name ++ body = take_at (name ++ body) rest (w.tag - w.from) (length-append name body ∙ omega arith) in
    let lp : length (fr ++ body) ≡ w.tag = length-append fr body ∙ omega arith in
    let m = tag_octets p.format.tag in
    let sm : w.end - w.tag ≡ m = omega arith in
    let s : w.tag + m ≡ w.end = omega arith in
    let d3 : drop w.end ((fr ++ body) ++ rest) ≡ drop w.end out =
    ap (λ k. drop k ((fr ++ body) ++ rest)) (sym s) ∙ sym (drop-drop m w.tag ((fr ++ body) ++ rest)) ∙ ap (drop m) (drop_at (fr ++ body) rest w.tag lp)
    ∙ drop-drop m w.tag out ∙ ap (λ k. drop k out) s in
    let tagged : between w.from w.tag now ≡ name ++ body = cc in
    let bodied : between w.to w.tag now ≡ body = cc in
    let hidden = enciphered (stream p.keys (inputs_of p h)) 0 (clear_rest (tag p.keys (inputs_of p h)) m name body) in
    let g3 = append_assoc fr hidden (drop w.end out) in
    cc
