-- What AES gives is sixteen octets, and what the suites give has its sizes: the laws of the two suites. Assumes nothing.
use Rattle.std.specs.Prelude.{◌≡◌, ℕ, zero, suc, ◌+◌, ◌*◌, ◌/◌, ◌%◌, ◌<◌, ◌≤◌, List, [], ◌∷◌, ◌++◌, map, reverse, length, take, drop, ◌==◌, slice_index, slice_index_or, refl}
use Rattle.std.proofs.Common.{sym, ap, subst, ◌∙◌, arith, length-append, length-drop, length-take-le}
use Rattle.std.proofs.lemmas.Nat.{xor_lt}
use Rattle.std.specs.List.{range_with_len}
use Rattle.std.specs.Int.Digits.{AllBelowBase}
use Rattle.std.proofs.lemmas.List.FromFn.{get_or-map-range_with_len, length-map-range_with_len}
use Rattle.std.proofs.lemmas.Int.Digits.{number_lt}
use Rattle.std.proofs.ByRecursion.{All-take, All-drop}
use Rattle.std.proofs.lemmas.List.{length-map}
use Rattle.std.proofs.lemmas.Bool.{cond_both}
use Rattle.octets.specs.Octets.{octets}
use Rattle.octets.proofs.Numbers.{length-octets, under_append, under_octets}
use Rattle.aes.specs.Field.{affine, affine_bit, inverse, sbox}
use Rattle.aes.specs.Cipher.{xors, column, shifted, sub_bytes, shift_rows, add_round_key, round_key, rounds, cipher, rot_word, sub_word, rcon, added, key_word, key_expansion, aes}
use Rattle.aes.specs.Words.{key_octets}
use Rattle.suite.specs.declared.Keyset.{Keyset}
use Rattle.suite.specs.declared.Inputs.{Inputs}
use Rattle.modes.specs.Cmac.{cmac_of, blocks_before, chained, last_block}
use Rattle.modes.specs.Counter.{counter_block, counter_stream}
use Rattle.aes_suite.specs.Suites.{tag_size, start_of, eea2, eia2}
use Rattle.aes.proofs.Products.{xtime_lt}

-- n octets
pub record Octets (n : ℕ) (xs : List ℕ) : Type 0 where
  pub long : length xs ≡ n
  pub under : AllBelowBase 256 xs

append_octets : (n m : ℕ) (xs ys : List ℕ) → Octets n xs → Octets m ys → Octets (n + m) (xs ++ ys)
append_octets n m xs ys a b = record {
  long = length-append xs ys ∙ (let x = a.long in let y = b.long in omega arith);
  under = under_append xs ys a.under b.under;
}

written-octets : (n c : ℕ) → Octets n (octets n c)
written-octets n c = record { long = length-octets n c; under = under_octets n c }

length-xors : (xs ys : List ℕ) → length xs ≡ length ys → length (xors xs ys) ≡ length xs
length-xors [] [] h = refl
length-xors [] (y ∷ ys) h = absurd (omega arith)
length-xors (x ∷ xs) [] h = absurd (omega arith)
length-xors (x ∷ xs) (y ∷ ys) h = ap suc (length-xors xs ys (omega arith))

under_xors : (xs ys : List ℕ) → AllBelowBase 256 xs → AllBelowBase 256 ys → AllBelowBase 256 (xors xs ys)
under_xors [] ys u v = tt
under_xors (x ∷ xs) [] u v = tt
under_xors (x ∷ xs) (y ∷ ys) u v = (xor_lt 8 x y u.0 v.0, under_xors xs ys u.1 v.1)

xors-octets : (n : ℕ) (xs ys : List ℕ) → Octets n xs → Octets n ys → Octets n (xors xs ys)
xors-octets n xs ys a b = record { long = length-xors xs ys (a.long ∙ sym b.long) ∙ a.long; under = under_xors xs ys a.under b.under }

under_map : (f : ℕ → ℕ) → ((x : ℕ) → f x < 256) → (xs : List ℕ) → AllBelowBase 256 (map f xs)
under_map f h [] = tt
under_map f h (x ∷ xs) = (h x, under_map f h xs)

pub get_or_under : (xs : List ℕ) (i : ℕ) → AllBelowBase 256 xs → slice_index xs i < 256
get_or_under [] i u = omega arith
get_or_under (x ∷ xs) zero u = u.0
get_or_under (x ∷ xs) (suc i) u = get_or_under xs i u.1

sbox_octet : (a : ℕ) → sbox a < 256
unfolding sbox affine affine_bit
sbox_octet a =
    let bits = reverse (map (affine_bit (inverse a)) (range_with_len 0 8)) in
    number_lt 2 bits (omega arith, (omega arith, (omega arith, (omega arith, (omega arith, (omega arith, (omega arith, (omega arith, tt))))))))

substituted : (n : ℕ) (xs : List ℕ) → length xs ≡ n → Octets n (map sbox xs)
substituted n xs h = record { long = length-map xs sbox ∙ h; under = under_map sbox sbox_octet xs }

shifted-octets : (state : List ℕ) → AllBelowBase 256 state → Octets 16 (shift_rows state)
unfolding shift_rows
shifted-octets state u = record {
  long = length-map-range_with_len (λ i. shifted state (i % 4) (i / 4)) 0 16;
  under =
      under_map (λ i. shifted state (i % 4) (i / 4))
      (λ i.
      let c = (i / 4 + i % 4) % 4 in
      get_or_under (column state c) (i % 4) (All-take (λ d. d < 256) 4 (drop (4 * c) state) (All-drop (λ d. d < 256) (4 * c) state u)))
      (range_with_len 0 16);
}

column-octets : (key : List ℕ) (c : ℕ) → Octets 16 key → c < 4 → Octets 4 (column key c)
column-octets key c k h = record {
  long = length-take-le 4 (drop (4 * c) key) (let d = length-drop (4 * c) key in let l = k.long in omega arith);
  under = All-take (λ d. d < 256) 4 (drop (4 * c) key) (All-drop (λ d. d < 256) (4 * c) key k.under);
}

rcon_octet : (i : ℕ) → rcon i < 256
unfolding rcon
rcon_octet zero = omega arith
rcon_octet (suc i) = xtime_lt (rcon i) (rcon_octet i)

added-octets : (i : ℕ) (word : List ℕ) → Octets 4 word → Octets 4 (added i word)
unfolding sub_word rot_word
added-octets i word w =
    let rotated = drop 1 word ++ take 1 word in
    let l = w.long in
    let long : length rotated ≡ 4 = length-append (drop 1 word) (take 1 word) ∙ (let d = length-drop 1 word in let t = length-take-le 1 word (omega arith) in omega arith) in
    let constant : Octets 4 (rcon (i / 4) ∷ 0 ∷ 0 ∷ 0 ∷ []) =
    record { long = refl; under = (rcon_octet (i / 4), (omega arith, (omega arith, (omega arith, tt)))) } in
    cond_both (i % 4 == 0) _ word (Octets 4) (λ _. xors-octets 4 (map sbox rotated) _ (substituted 4 rotated long) constant) (λ _. w)

word_octets : (key : List ℕ) → Octets 16 key → (i : ℕ) → Octets 4 (key_word key i)
unfolding key_word
word_octets key k zero = column-octets key 0 k (omega arith)
word_octets key k (suc zero) = column-octets key 1 k (omega arith)
word_octets key k (suc (suc zero)) = column-octets key 2 k (omega arith)
word_octets key k (suc (suc (suc zero))) = column-octets key 3 k (omega arith)
word_octets key k (suc (suc (suc (suc i)))) =
    xors-octets 4 (key_word key i) _ (word_octets key k i) (added-octets i (key_word key (suc (suc (suc i)))) (word_octets key k (suc (suc (suc i)))))

round_key_octets : (key : List ℕ) (r : ℕ) → Octets 16 key → r ≤ 10 → Octets 16 (round_key (key_expansion key) r)
unfolding key_expansion
round_key_octets key r k h =
    let word : ℕ → List ℕ = λ j. slice_index_or (map (key_word key) (range_with_len 0 44)) (4 * r + j) [] in
    let at : (j : ℕ) → j < 4 → Octets 4 (word j) =
    λ j l. subst (Octets 4) (sym (get_or-map-range_with_len (key_word key) 0 44 (4 * r + j) (4 * r + j) [] (omega arith) (omega arith))) (word_octets key k (4 * r + j)) in
    let none : Octets 0 [] = record { long = refl; under = tt } in
    append_octets 4 12 (word 0) _ (at 0 (omega arith))
    (append_octets 4 8 (word 1) _ (at 1 (omega arith)) (append_octets 4 4 (word 2) _ (at 2 (omega arith)) (append_octets 4 0 (word 3) [] (at 3 (omega arith)) none)))

-- a block enciphered under a key of sixteen octets
pub aes-octets : (first second : ℕ) (block : List ℕ) → Octets 16 (aes (key_octets first second) block)
unfolding cipher add_round_key sub_bytes key_octets
aes-octets first second block =
    let key = key_octets first second in
    let k : Octets 16 key = append_octets 8 8 (octets 8 first) (octets 8 second) (written-octets 8 first) (written-octets 8 second) in
    let words = key_expansion key in
    let state = rounds words (add_round_key block (round_key words 0)) 9 in
    xors-octets 16 (shift_rows (map sbox state)) (round_key words 10) (shifted-octets (map sbox state) (under_map sbox sbox_octet state)) (round_key_octets key 10 k (omega arith))

-- what the suites give is octets, and a tag has its size
pub eea2_octet : (k : Keyset) (i : Inputs) (place : ℕ) → eea2 k i place < 256
unfolding eea2 counter_stream
eea2_octet k i place =
    let block = counter_block (start_of i) (place / 16) in
    get_or_under (aes (key_octets k.encryption0 k.encryption1) block) (place % 16) (aes-octets k.encryption0 k.encryption1 block).under

pub eia2_size : (k : Keyset) (i : Inputs) (m : List ℕ) → length (eia2 k i m) ≡ tag_size
unfolding eia2 cmac_of
eia2_size k i m =
    let text = octets 8 (start_of i) ++ m in
    let ciph = aes (key_octets k.integrity0 k.integrity1) in
    let block = xors (chained ciph text (blocks_before (length text))) (last_block ciph (drop (16 * blocks_before (length text)) text)) in
    length-take-le tag_size (ciph block) (let l = (aes-octets k.integrity0 k.integrity1 block).long in omega arith)
