-- The words of an expanded key, one after the other. Assumes nothing.
use Rattle.std.proofs.Common.{◌≡◌, ℕ, zero, suc, ◌+◌, ◌-◌, ◌*◌, ◌/◌, ◌%◌, ◌<◌, ◌≤◌, List, [], ◌∷◌, ◌++◌, map, length, get_or, take, drop, replicate, set, sym, refl, ap, ◌∙◌, subst, inl, inr, arith, add-zero, length-set, length-drop, length-take-le}
use Rattle.std.specs.List.{flat_map}
use Rattle.std.proofs.lemmas.List.FromFn.{fill_by_all}
use Rattle.std.proofs.lemmas.List.{get_or-set_same, get_or-set_other, get_or_append_left, get_or-append_right, get_or-take, get_or-drop}
use Rattle.std.proofs.lemmas.Bool.{cases_eq}
use Rattle.std.proofs.lemmas.Bool.Decides.{eqb_tells}
use Rattle.octets.specs.Octets.{octets}
use Rattle.aes.specs.declared.Block.{Block}
use Rattle.aes.specs.declared.Schedule.{Schedule}
use Rattle.aes.specs.Cipher.{xors, column, rot_word, sub_word, rcon, added, key_word, key_expansion, round_key}
use Rattle.aes.specs.Words.{block_octets, words, words_of, key_octets}
use Rattle.aes.proofs.Rounds.{block_is}

-- the words of a block are those of an expanded key from word i on
pub record IsKey (key : List ℕ) (i : ℕ) (block : Block) : Type 0 where
  pub a : octets 4 block.a ≡ key_word key i
  pub b : octets 4 block.b ≡ key_word key (i + 1)
  pub c : octets 4 block.c ≡ key_word key (i + 2)
  pub d : octets 4 block.d ≡ key_word key (i + 3)

-- the keys of the rounds up to r are made
pub record Begun (key : List ℕ) (r : ℕ) (keys : List Block) : Type 0 where
  pub long : length keys ≡ 11
  pub made : (k : ℕ) (d : Block) → k ≤ r → IsKey key (4 * k) (get_or keys k d)

-- a key's own words
pub own_key : (first second : ℕ) (block : Block) → block_octets block ≡ octets 8 first ++ octets 8 second → IsKey (key_octets first second) 0 block
unfolding key_word key_octets block_octets
own_key first second block is = record {
  a = ap (λ (l : List ℕ). column l 0) is;
  b = ap (λ (l : List ℕ). column l 1) is;
  c = ap (λ (l : List ℕ). column l 2) is;
  d = ap (λ (l : List ℕ). column l 3) is;
}

pub begun_first : (first second : ℕ) (block : Block) → block_octets block ≡ octets 8 first ++ octets 8 second → Begun (key_octets first second) 0 (replicate 11 block)
begun_first first second block is = record {
  long = refl;
  made = λ k d h.
      let z : k ≡ 0 = omega arith in
      subst (λ i. IsKey (key_octets first second) (4 * i) (get_or (replicate 11 block) i d)) (sym z) (own_key first second block is);
}

next_word : (key : List ℕ) (i : ℕ) → key_word key (i + 4) ≡ xors (key_word key i) (added i (key_word key (i + 3)))
unfolding key_word
next_word key i =
    let four : i + 4 ≡ suc (suc (suc (suc i))) = omega arith in
    let three : i + 3 ≡ suc (suc (suc i)) = omega arith in
    rw (four, three) refl

-- what is added in every fourth word
added_first : (word : List ℕ) (r : ℕ) → added (4 * r) word ≡ xors (sub_word (rot_word word)) (rcon r ∷ 0 ∷ 0 ∷ 0 ∷ [])
added_first word r =
    let z : 4 * r % 4 ≡ 0 = omega arith in
    let q : 4 * r / 4 ≡ r = omega arith in
    rw (z, q) refl

added_other : (word : List ℕ) (r j : ℕ) → 0 < j → j < 4 → added (4 * r + j) word ≡ word
added_other word r j some short = let m : (4 * r + j) % 4 ≡ j = omega arith in elim (eqb_tells ((4 * r + j) % 4) 0) [
  | inl e ↦ absurd (omega (arith, e.1))
  | inr e ↦ rw e.0 refl
]

first_word : (key : List ℕ) (r : ℕ) → key_word key (4 * r + 4) ≡ xors (key_word key (4 * r)) (xors (sub_word (rot_word (key_word key (4 * r + 3)))) (rcon r ∷ 0 ∷ 0 ∷ 0 ∷ []))
first_word key r = next_word key (4 * r) ∙ ap (xors (key_word key (4 * r))) (added_first (key_word key (4 * r + 3)) r)

other_word : (key : List ℕ) (r j : ℕ) → 0 < j → j < 4 → key_word key (4 * r + j + 4) ≡ xors (key_word key (4 * r + j)) (key_word key (4 * r + j + 3))
other_word key r j some short = next_word key (4 * r + j) ∙ ap (xors (key_word key (4 * r + j))) (added_other (key_word key (4 * r + j + 3)) r j some short)

-- the words of a round's key that come of those of the key before it, with the constant of the round
pub record IsNext (key : Block) (constant : ℕ) (next : Block) : Type 0 where
  pub a : octets 4 next.a ≡ xors (octets 4 key.a) (xors (sub_word (rot_word (octets 4 key.d))) (constant ∷ 0 ∷ 0 ∷ 0 ∷ []))
  pub b : octets 4 next.b ≡ xors (octets 4 key.b) (octets 4 next.a)
  pub c : octets 4 next.c ≡ xors (octets 4 key.c) (octets 4 next.b)
  pub d : octets 4 next.d ≡ xors (octets 4 key.d) (octets 4 next.c)

-- the key of one round more
pub next_key : (key : List ℕ) (r constant : ℕ) (block next : Block) → IsKey key (4 * r) block → constant ≡ rcon r → IsNext block constant next → IsKey key (4 * (r + 1)) next
next_key key r constant block next was constant_is is =
    let s0 : 4 * r + 4 ≡ 4 * (r + 1) = omega arith in
    let s1 : 4 * r + 1 + 4 ≡ 4 * (r + 1) + 1 = omega arith in
    let s2 : 4 * r + 2 + 4 ≡ 4 * (r + 1) + 2 = omega arith in
    let s3 : 4 * r + 3 + 4 ≡ 4 * (r + 1) + 3 = omega arith in
    let t1 : 4 * r + 1 + 3 ≡ 4 * (r + 1) = omega arith in
    let t2 : 4 * r + 2 + 3 ≡ 4 * (r + 1) + 1 = omega arith in
    let t3 : 4 * r + 3 + 3 ≡ 4 * (r + 1) + 2 = omega arith in
    let wa = first_word key r in
    let wb = other_word key r 1 (omega arith) (omega arith) in
    let wc = other_word key r 2 (omega arith) (omega arith) in
    let wd = other_word key r 3 (omega arith) (omega arith) in
    let a : octets 4 next.a ≡ key_word key (4 * (r + 1)) = cc in
    let b : octets 4 next.b ≡ key_word key (4 * (r + 1) + 1) = cc in
    let c : octets 4 next.c ≡ key_word key (4 * (r + 1) + 2) = cc in
    let d : octets 4 next.d ≡ key_word key (4 * (r + 1) + 3) = cc in
    record { a = a; b = b; c = c; d = d }

pub begun_more : (key : List ℕ) (r : ℕ) (keys : List Block) (next : Block) → r < 10 → Begun key r keys → IsKey key (4 * (r + 1)) next → Begun key (r + 1) (set keys (r + 1) next)
begun_more key r keys next early begun is =
    let long = begun.long in
    record {
      long = length-set keys (r + 1) next ∙ long;
      made = λ k d h. elim (cases_eq k (r + 1)) [
        | inl e ↦
            let same = get_or-set_same keys (r + 1) next d (omega arith) in
            let at : get_or (set keys (r + 1) next) k d ≡ next = ap (λ i. get_or (set keys (r + 1) next) i d) e ∙ same in
            subst (λ (b : Block). IsKey key (4 * k) b) (sym at) (subst (λ i. IsKey key (4 * i) next) (sym e) is)
        | inr e ↦
            let other = get_or-set_other keys (r + 1) k next d e in
            subst (λ (b : Block). IsKey key (4 * k) b) (sym other) (begun.made k d (omega arith))
      ];
    }

-- word after word
abbrev pub all_words : List Block → List (List ℕ)
all_words keys = flat_map (λ key. map (octets 4) (words key)) keys

pub word_at : (keys : List Block) (r j : ℕ) (d : Block) → r < length keys → j < 4 → get_or (all_words keys) (4 * r + j) [] ≡ get_or (map (octets 4) (words (get_or keys r d))) j []
word_at [] r j d inside short = absurd (omega arith)
word_at (b ∷ bs) zero j d inside short =
    let e : 4 * 0 + j ≡ j = omega arith in
    ap (λ i. get_or (all_words (b ∷ bs)) i []) e ∙ get_or_append_left (map (octets 4) (words b)) (all_words bs) [] j short
word_at (b ∷ bs) (suc r) j d inside short =
    let e : 4 * suc r + j - 4 ≡ 4 * r + j = omega arith in
    get_or-append_right (map (octets 4) (words b)) (all_words bs) 4 (4 * suc r + j) [] refl (omega arith)
    ∙ ap (λ i. get_or (all_words bs) i []) e ∙ word_at bs r j d (omega arith) short

length_words : (keys : List Block) → length (all_words keys) ≡ 4 * length keys
length_words [] = refl
length_words (b ∷ bs) = let r = length_words bs in omega arith

word_of_key : (key : List ℕ) (i j : ℕ) (block : Block) → j < 4 → IsKey key i block → get_or (map (octets 4) (words block)) j [] ≡ key_word key (i + j)
word_of_key key i zero block short is = is.a ∙ ap (key_word key) (sym (add-zero i))
word_of_key key i (suc zero) block short is = is.b
word_of_key key i (suc (suc zero)) block short is = is.c
word_of_key key i (suc (suc (suc zero))) block short is = is.d
word_of_key key i (suc (suc (suc (suc j)))) block short is = absurd (omega arith)

pub begun_all : (key : List ℕ) (keys : List Block) (r : ℕ) → 10 ≤ r → Begun key r keys → all_words keys ≡ key_expansion key
unfolding key_expansion
begun_all key keys r all begun =
    let none : Block = record { a = 0; b = 0; c = 0; d = 0 } in
    let long = begun.long in
    let n = length_words keys in
    fill_by_all (key_word key) (all_words keys) 44 [] (omega arith)
    (λ k h.
    let s : 4 * (k / 4) + k % 4 ≡ k = omega arith in
    ap (λ i. get_or (all_words keys) i []) (sym s) ∙ word_at keys (k / 4) (k % 4) none (omega arith) (omega arith)
    ∙ word_of_key key (4 * (k / 4)) (k % 4) (get_or keys (k / 4) none) (omega arith) (begun.made (k / 4) none (omega arith)) ∙ ap (key_word key) s)

-- the key of a round
pub key_at : (schedule : Schedule) (r : ℕ) (d : Block) → r < length schedule.keys → block_octets (get_or schedule.keys r d) ≡ round_key (words_of schedule) r
unfolding block_octets words_of
key_at schedule r d inside =
    let keys = schedule.keys in
    block_is _ _ _ _ _ _ _ _ (sym (word_at keys r 0 d inside (omega arith))) (sym (word_at keys r 1 d inside (omega arith)))
    (sym (word_at keys r 2 d inside (omega arith))) (sym (word_at keys r 3 d inside (omega arith)))

-- the keys of the nine rounds that mix columns
pub middle_length : (keys : List Block) → length keys ≡ 11 → length (take 9 (drop 1 keys)) ≡ 9
middle_length keys long = length-take-le 9 (drop 1 keys) (let d = length-drop 1 keys in omega arith)

pub middle_key : (schedule : Schedule) (r : ℕ) (d : Block) → length schedule.keys ≡ 11 → r < 9 → block_octets (get_or (take 9 (drop 1 schedule.keys)) r d) ≡ round_key (words_of schedule) (r + 1)
middle_key schedule r d long early =
    let keys = schedule.keys in
    let e : 1 + r ≡ r + 1 = omega arith in
    ap block_octets (get_or-take 9 (drop 1 keys) r d early ∙ get_or-drop 1 keys r d ∙ ap (λ i. get_or keys i d) e) ∙ key_at schedule (r + 1) d (omega arith)
