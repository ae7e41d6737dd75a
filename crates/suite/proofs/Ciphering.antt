-- What enciphering does to lists. Assumes nothing.
use Rattle.std.proofs.Common.{◌≡◌, ℕ, zero, suc, ◌+◌, ◌<◌, ◌≤◌, List, [], ◌∷◌, ◌++◌, length, get_or, take, drop, set, sym, refl, ap, ◌∙◌, le_of_suc-le-suc, not-suc-le-zero, add-zero, add-one, arith, length-append}
use lib.Bits.{bit_xor, xor_assoc, xor_self, xor_zero_r}
use lib.ListN.{length-replicate}
use Rattle.std.proofs.lemmas.List.{take_all, drop_all, append-nil}
use Rattle.suite.specs.Ciphers.{enciphered, padded, longest_tag}

pub xor_twice : (x y : ℕ) → bit_xor (bit_xor x y) y ≡ x
xor_twice x y = xor_assoc x y y ∙ ap (bit_xor x) (xor_self y) ∙ xor_zero_r x

-- enciphering again deciphers
pub enciphered-twice : (f : ℕ → ℕ) (i : ℕ) (xs : List ℕ) → enciphered f i (enciphered f i xs) ≡ xs
enciphered-twice f i [] = refl
enciphered-twice f i (x ∷ xs) = let a = xor_twice x (f i) in let b = enciphered-twice f (i + 1) xs in cc

pub length-enciphered : (f : ℕ → ℕ) (i : ℕ) (xs : List ℕ) → length (enciphered f i xs) ≡ length xs
length-enciphered f i [] = refl
length-enciphered f i (x ∷ xs) = ap suc (length-enciphered f (i + 1) xs)

pub length-padded : (tag : List ℕ) → longest_tag ≤ length (padded tag)
length-padded tag = simp (length-append, length-replicate) (omega arith)

enciphered_step : (f : ℕ → ℕ) (j : ℕ) (xs : List ℕ) (i : ℕ) → i < length xs
    → set (enciphered f j (take i xs) ++ drop i xs) i (bit_xor (get_or (enciphered f j (take i xs) ++ drop i xs) i 0) (f (j + i)))
    ≡ enciphered f j (take (suc i) xs) ++ drop (suc i) xs
enciphered_step f j [] i h = absurd (not-suc-le-zero h)
enciphered_step f j (x ∷ xs) zero h = ap (λ n. bit_xor x (f n) ∷ xs) (add-zero j)
enciphered_step f j (x ∷ xs) (suc i) h =
    let r = enciphered_step f (j + 1) xs i (le_of_suc-le-suc h) in
    let e : j + suc i ≡ j + 1 + i = omega arith in
    cc

-- a loop that enciphers in place, octet by octet: one turn, and the end
pub enciphered_more : (f : ℕ → ℕ) (j : ℕ) (xs ys : List ℕ) (i : ℕ) → i < length xs → ys ≡ enciphered f j (take i xs) ++ drop i xs
    → set ys i (bit_xor (get_or ys i 0) (f (j + i))) ≡ enciphered f j (take (i + 1) xs) ++ drop (i + 1) xs
enciphered_more f j xs ys i h is =
    let s = enciphered_step f j xs i h in
    let o = add-one i in
    cc

pub enciphered_all : (f : ℕ → ℕ) (j : ℕ) (xs : List ℕ) (i : ℕ) → length xs ≤ i → enciphered f j (take i xs) ++ drop i xs ≡ enciphered f j xs
enciphered_all f j xs i h =
    let t = take_all i xs h in
    let d = drop_all i xs h in
    let n = append-nil (enciphered f j xs) in
    cc

-- a list that is enciphered piece by piece
pub enciphered_append : (f : ℕ → ℕ) (j : ℕ) (xs ys : List ℕ) → enciphered f j (xs ++ ys) ≡ enciphered f j xs ++ enciphered f (j + length xs) ys
enciphered_append f j [] ys = ap (λ k. enciphered f k ys) (sym (add-zero j))
enciphered_append f j (x ∷ xs) ys =
    let e : j + 1 + length xs ≡ j + suc (length xs) = omega arith in
    ap (λ (l : List ℕ). bit_xor x (f j) ∷ l) (enciphered_append f (j + 1) xs ys ∙ ap (λ k. enciphered f (j + 1) xs ++ enciphered f k ys) e)
