-- The keystream of counter mode, block by block. Assumes nothing.
use Rattle.std.proofs.Common.{◌≡◌, ℕ, ◌+◌, ◌-◌, ◌*◌, ◌/◌, ◌%◌, ◌<◌, ◌≤◌, min, List, ◌++◌, length, get_or, take, drop, sym, ap, ◌∙◌, inl, inr, arith, length-drop, length-take-le, drop_at}
use Rattle.std.proofs.Math.Seq.{take-add}
use Rattle.std.proofs.lemmas.Bool.{cases_lt}
use borrow.Rule.Slice.PartMut.{put_mid}
use Rattle.std.specs.Int.{bytes_high_first}
use Rattle.std.specs.Int.Digits.{number_from_digits}
use Rattle.octets.specs.Octets.{octets}
use Rattle.octets.proofs.Numbers.{octets_number, octets_std}
use Rattle.octets.proofs.Pieces.{piece_written}
use Rattle.suite.specs.Ciphers.{enciphered}
use Rattle.suite.proofs.Ciphering.{length-enciphered, enciphered_append, enciphered_all}
use Rattle.aes.specs.declared.Block.{Block}
use Rattle.aes.specs.Words.{block_octets}
use Rattle.modes.specs.Counter.{counter_block, counter_stream}
use Rattle.modes.proofs.Blocks.{octets_whole}

-- the octets of a block, from the number that they write
pub written_again : (b : Block) (n : ℕ) → n ≡ number_from_digits 256 (block_octets b) → bytes_high_first 16 n ≡ block_octets b
written_again b n n_is =
    let w = octets_whole b in
    octets_std 16 n ∙ ap (octets 16) n_is ∙ ap (λ k. octets k (number_from_digits 256 (block_octets b))) (sym w.0) ∙ octets_number (block_octets b) w.1

-- the keystream octet of a place, from a counter block that was made and enciphered
pub stream_octet : (ciph : List ℕ → List ℕ) (start i place n : ℕ) (b e : Block) (keystream : List ℕ) → place < 16
    → block_octets b ≡ octets 8 start ++ octets 8 i → block_octets e ≡ ciph (block_octets b) → n ≡ number_from_digits 256 (block_octets e)
    → keystream ≡ bytes_high_first 16 n → get_or keystream place 0 ≡ counter_stream ciph start (16 * i + place)
unfolding counter_stream counter_block
stream_octet ciph start i place n b e keystream inside b_is e_is n_is is =
    let q : (16 * i + place) / 16 ≡ i = omega arith in
    let r : (16 * i + place) % 16 ≡ place = omega arith in
    let all : keystream ≡ ciph (octets 8 start ++ octets 8 i) = is ∙ written_again e n n_is ∙ e_is ∙ ap ciph b_is in
    ap (λ (l : List ℕ). get_or l place 0) all ∙ ap (λ k. get_or (ciph (octets 8 start ++ octets 8 k)) place 0) (sym q)
    ∙ ap (λ k. get_or (ciph (octets 8 start ++ octets 8 ((16 * i + place) / 16))) k 0) (sym r)

-- a part of which the first k octets are enciphered, and then those up to j
pub piece_enciphered : (f : ℕ → ℕ) (old now new : List ℕ) (k j : ℕ) → now ≡ enciphered f 0 (take k old) ++ drop k old → k ≤ j → j ≤ length old
    → new ≡ enciphered f k (take (j - k) (drop k now)) → put_mid k (j - k) now new ≡ enciphered f 0 (take j old) ++ drop j old
piece_enciphered f old now new k j is order room new_is =
    let written = enciphered f 0 (take k old) in
    let first : length (take k old) ≡ k = length-take-le k old (omega arith) in
    let n : length written ≡ k = length-enciphered f 0 (take k old) ∙ first in
    let rest : drop k now ≡ drop k old = ap (drop k) is ∙ drop_at written (drop k old) k n in
    let s : k + (j - k) ≡ j = omega arith in
    let new_same : new ≡ enciphered f k (take (j - k) (drop k old)) = new_is ∙ ap (λ (l : List ℕ). enciphered f k (take (j - k) l)) rest in
    let long : length (take (j - k) (drop k old)) ≡ j - k = length-take-le (j - k) (drop k old) (let d = length-drop k old in omega arith) in
    let new_long : length new ≡ j - k = ap length new_same ∙ length-enciphered f k (take (j - k) (drop k old)) ∙ long in
    let piece = piece_written old written now k j is n order room new new_long in
    let cut : take j old ≡ take k old ++ take (j - k) (drop k old) = ap (λ i. take i old) (sym s) ∙ take-add k (j - k) old in
    let both : enciphered f 0 (take j old) ≡ written ++ enciphered f k (take (j - k) (drop k old)) =
    ap (enciphered f 0) cut ∙ enciphered_append f 0 (take k old) (take (j - k) (drop k old))
    ∙ ap (λ i. written ++ enciphered f i (take (j - k) (drop k old))) (let e : 0 + length (take k old) ≡ k = omega arith in e) in
    piece.0 ∙ ap (λ (l : List ℕ). (written ++ l) ++ drop j old) new_same ∙ ap (λ (l : List ℕ). l ++ drop j old) (sym both)

-- what is enciphered up to a place behind the end is enciphered up to the end
pub enciphered_end : (f : ℕ → ℕ) (old now : List ℕ) (j n : ℕ) → j ≡ min (length old) n → now ≡ enciphered f 0 (take j old) ++ drop j old
    → now ≡ enciphered f 0 (take n old) ++ drop n old
enciphered_end f old now j n j_is is = elim (cases_lt n (length old)) [
  | inl inside ↦ let same : j ≡ n = omega arith in rw same at is
  | inr behind ↦
      let whole : length old ≤ j = omega arith in
      is ∙ enciphered_all f 0 old j whole ∙ sym (enciphered_all f 0 old n behind)
]
