-- The front of a message, written and read. Assumes nothing.
use Rattle.std.proofs.Common.{◌≡◌, ℕ, ◌+◌, ◌-◌, ◌≤◌, List, [], ◌∷◌, ◌++◌, length, drop, set, refl, ap, ◌∙◌, arith}
use borrow.Rule.Slice.PartMut.{put_mid}
use Rattle.std.specs.List.{between}
use Rattle.wire.specs.declared.front.Header.{Header}
use Rattle.wire.specs.Fronts.{first_octet, front, counter_octets, front_length}
use Rattle.octets.specs.Octets.{octets, width_of}
use Rattle.octets.proofs.Numbers.{length-octets}
use Rattle.octets.proofs.Pieces.{first_written, piece_length, piece_written}

-- the three writes of a header, where w and v are the widths of the counter and of the ID
pub front-written : (h : Header) (w v x : ℕ) (out counter id : List ℕ) → w ≡ width_of h.counter → v ≡ width_of h.id.number → front_length h ≤ length out
    → x ≡ first_octet h.plane h.key (width_of h.counter) → counter ≡ octets (length (between 1 (1 + w) (set out 0 x))) h.counter
    → id ≡ octets (length (between (1 + w) (1 + w + v) (put_mid 1 (1 + w - 1) (set out 0 x) counter))) h.id.number
    → put_mid (1 + w) (1 + w + v - (1 + w)) (put_mid 1 (1 + w - 1) (set out 0 x) counter) id ≡ front h (counter_octets h.counter) ++ drop (front_length h) out
front-written h w v x out counter id w_is v_is room x_is counter_is id_is =
    let s0 = first_written out x (omega arith) in
    let p1 = piece_length out (x ∷ []) (set out 0 x) 1 (1 + w) s0 refl (omega arith) (omega arith) in
    let z1 : 1 + w - 1 ≡ w = omega arith in
    let c1 : counter ≡ octets w h.counter = cc in
    let l1 : length counter ≡ 1 + w - 1 = ap length c1 ∙ length-octets w h.counter ∙ omega arith in
    let s1 = piece_written out (x ∷ []) (set out 0 x) 1 (1 + w) s0 refl (omega arith) (omega arith) counter l1 in
    let now = put_mid 1 (1 + w - 1) (set out 0 x) counter in
    let p2 = piece_length out ((x ∷ []) ++ counter) now (1 + w) (1 + w + v) s1.0 s1.1 (omega arith) (omega arith) in
    let z2 : 1 + w + v - (1 + w) ≡ v = omega arith in
    let c2 : id ≡ octets v h.id.number = cc in
    let l2 : length id ≡ 1 + w + v - (1 + w) = ap length c2 ∙ length-octets v h.id.number ∙ omega arith in
    let s2 = piece_written out ((x ∷ []) ++ counter) now (1 + w) (1 + w + v) s1.0 s1.1 (omega arith) (omega arith) id l2 in
    let n = length-octets (width_of h.counter) h.counter in
    cc
