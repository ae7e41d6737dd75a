-- Numbers and their octets, at every width. Assumes nothing.
use Rattle.std.proofs.Common.{◌≡◌, ℕ, zero, suc, ◌+◌, ◌-◌, ◌*◌, ◌/◌, ◌%◌, ◌^◌, ◌<◌, ◌≤◌, ◌⊎◌, List, [], ◌∷◌, ◌++◌, length, take, drop, sym, refl, ap, ◌∙◌, subst, inl, inr, mul_assoc, arith, take_all, pow_mono, pow-add}
use Rattle.std.proofs.Math.Nat.{div-div-eq-div-mul, pow-succ'}
use Rattle.std.specs.Int.{byte_at, bytes_high_first}
use Rattle.std.specs.Int.Digits.{number_from_digits, number_from_digits_after, AllBelowBase}
use Rattle.std.proofs.lemmas.Nat.{div-add-mod', shr_below}
use Rattle.std.proofs.lemmas.Int.Digits.{number_push}
use Rattle.std.proofs.ByRecursion.{All-append}
use Rattle.std.proofs.lemmas.List.{append_assoc, append-nil, length_push}
use Rattle.std.proofs.lemmas.Bool.{cases_lt}
use Rattle.std.proofs.lemmas.Bool.Decides.{leb_tells}
use Rattle.octets.specs.Octets.{octets, widest, Fewest, width_of}

-- one octet more holds 256 times as much
pub pow_more : (n : ℕ) → 2 ^ (8 * (n + 1)) ≡ 2 ^ (8 * n) * 256
pow_more n = let e : 8 * (n + 1) ≡ 8 * n + 8 = omega arith in ap (λ k. 2 ^ k) e ∙ pow-add 2 (8 * n) 8

pub length-octets : (n c : ℕ) → length (octets n c) ≡ n
length-octets zero c = refl
length-octets (suc n) c = length_push (octets n (c / 256)) (c % 256) ∙ (let r = length-octets n (c / 256) in omega arith)

-- octets that hold a number write it
pub number_octets : (n c : ℕ) → c < 2 ^ (8 * n) → number_from_digits 256 (octets n c) ≡ c
number_octets zero c h = omega arith
number_octets (suc n) c h =
    let e : 8 * suc n ≡ 8 * n + 8 = omega arith in
    let r = number_octets n (c / 256) (shr_below c (8 * n) 8 (rw e at h)) in
    number_push 256 (octets n (c / 256)) (c % 256) ∙ ap (λ k. k * 256 + c % 256) r ∙ div-add-mod' c 256

-- octets are those of the number that they write, behind those of a number before them
octets_after : (k a : ℕ) (xs : List ℕ) → AllBelowBase 256 xs → octets (length xs + k) (number_from_digits_after 256 a xs) ≡ octets k a ++ xs
octets_after k a [] h = let z : 0 + k ≡ k = omega arith in let n = append-nil (octets k a) in cc
octets_after k a (x ∷ xs) h =
    let r = octets_after (suc k) (a * 256 + x) xs h.1 in
    let n : length xs + suc k ≡ suc (length xs) + k = omega arith in
    let d : (a * 256 + x) / 256 ≡ a = omega (arith, h.0) in
    let m : (a * 256 + x) % 256 ≡ x = omega (arith, h.0) in
    let g = append_assoc (octets k a) (x ∷ []) xs in
    cc

pub octets_number : (xs : List ℕ) → AllBelowBase 256 xs → octets (length xs) (number_from_digits 256 xs) ≡ xs
octets_number xs h = let r = octets_after 0 0 xs h in let z : length xs + 0 ≡ length xs = omega arith in cc

-- the octet in front of the others
byte_over : (n c : ℕ) → byte_at n (c / 256) ≡ byte_at (suc n) c
byte_over zero c = refl
byte_over (suc n) c = ap (λ k. k % 256) (div-div-eq-div-mul c 256 (256 ^ suc n) ∙ ap (λ k. c / k) (sym (pow-succ' 256 (suc n))))

octets_first : (n c : ℕ) → octets (suc n) c ≡ byte_at n c ∷ octets n c
octets_first zero c = refl
octets_first (suc n) c =
    ap (λ (l : List ℕ). l ++ (c % 256 ∷ [])) (octets_first n (c / 256)) ∙ ap (λ x. x ∷ octets (suc n) c) (byte_over n c)

-- std's octets of a number, the most significant first
pub octets_std : (n c : ℕ) → bytes_high_first n c ≡ octets n c
octets_std zero c = refl
octets_std (suc n) c = ap (λ (l : List ℕ). byte_at n c ∷ l) (octets_std n c) ∙ sym (octets_first n c)

-- the last octets of a number's octets
octets_last : (m n c : ℕ) → drop m (octets (m + n) c) ≡ octets n c
octets_last zero n c = let z : 0 + n ≡ n = omega arith in ap (λ k. octets k c) z
octets_last (suc m) n c =
    let s : suc m + n ≡ suc (m + n) = omega arith in
    ap (λ k. drop (suc m) (octets k c)) s ∙ ap (drop (suc m)) (octets_first (m + n) c) ∙ octets_last m n c

pub last_of : (w n c : ℕ) → n ≤ w → take (w - (w - n)) (drop (w - n) (octets w c)) ≡ octets n c
last_of w n c h =
    let s : w - n + n ≡ w = omega arith in
    let l : length (octets n c) ≡ n = length-octets n c in
    let d : drop (w - n) (octets w c) ≡ octets n c = ap (λ k. drop (w - n) (octets k c)) (sym s) ∙ octets_last (w - n) n c in
    ap (take (w - (w - n))) d ∙ take_all (w - (w - n)) (octets n c) (omega arith)

-- what n octets cannot hold wants more than n
pub more_than : (n c k : ℕ) → 2 ^ (8 * n) ≤ c → c < 2 ^ (8 * k) → n < k
more_than n c k h l = elim (cases_lt n k) [
  | inl b ↦ b
  | inr b ↦ let p : 2 ^ (8 * k) ≤ 2 ^ (8 * n) = pow_mono (let q : 8 * k ≤ 8 * n = omega arith in q) in omega arith
]

-- a width that holds a number, of which one octet less does not
pub fewest_from : (c n : ℕ) → c < 2 ^ (8 * suc n) → (n ≡ 0) ⊎ (2 ^ (8 * n) ≤ c) → Fewest c (suc n)
fewest_from c n h below = record {
  some = omega arith;
  holds = h;
  least = λ k one fits. elim below [ inl z ↦ omega arith | inr b ↦ more_than n c k b fits ];
}

-- one octet more of a number that has fewer than w
pub room : (w i c x : ℕ) → i < w → c < 2 ^ (8 * i) → x < 256 → (c * 256 + x < 2 ^ (8 * w)) × (c * 256 + x < 2 ^ (8 * (i + 1)))
room w i c x h l b =
    let p : 2 ^ (8 * (i + 1)) ≤ 2 ^ (8 * w) = pow_mono (let q : 8 * (i + 1) ≤ 8 * w = omega arith in q) in
    let m = pow_more i in
    (omega arith, omega arith)

-- octets one behind the other
pub under_append : (xs ys : List ℕ) → AllBelowBase 256 xs → AllBelowBase 256 ys → AllBelowBase 256 (xs ++ ys)
under_append xs ys = All-append (λ d. d < 256) xs ys

pub under_octets : (n c : ℕ) → AllBelowBase 256 (octets n c)
under_octets zero c = tt
under_octets (suc n) c = under_append (octets n (c / 256)) (c % 256 ∷ []) (under_octets n (c / 256)) (omega arith, tt)

pub width_fewest : (c : ℕ) → c < 2 ^ 32 → Fewest c (width_of c)
width_fewest c h = elim (leb_tells (suc c) (2 ^ 8)) [
  | inl p ↦ rw p.0 (fewest_from c 0 (omega arith) (inl refl))
  | inr p ↦ elim (leb_tells (suc c) (2 ^ 16)) [
    | inl q ↦ rw (p.0, q.0) (fewest_from c 1 (omega arith) (inr (omega arith)))
    | inr q ↦ elim (leb_tells (suc c) (2 ^ 24)) [
      | inl r ↦ rw (p.0, q.0, r.0) (fewest_from c 2 (omega arith) (inr (omega arith)))
      | inr r ↦ rw (p.0, q.0, r.0) (fewest_from c 3 (omega arith) (inr (omega arith)))
    ]
  ]
]

-- how large a number is by its octets
number_from : (k a : ℕ) (xs : List ℕ) → 2 ^ (8 * k) ≤ a → 2 ^ (8 * (k + length xs)) ≤ number_from_digits_after 256 a xs
number_from k a [] h = let z : 8 * (k + 0) ≡ 8 * k = omega arith in rw z h
number_from k a (x ∷ xs) h =
    let p = pow_more k in
    let r = number_from (k + 1) (a * 256 + x) xs (omega arith) in
    let e : k + 1 + length xs ≡ k + suc (length xs) = omega arith in
    rw e at r

number_below : (k a : ℕ) (xs : List ℕ) → AllBelowBase 256 xs → a < 2 ^ (8 * k) → number_from_digits_after 256 a xs < 2 ^ (8 * (k + length xs))
number_below k a [] u h = let z : 8 * (k + 0) ≡ 8 * k = omega arith in rw z h
number_below k a (x ∷ xs) u h =
    let p = pow_more k in
    let r = number_below (k + 1) (a * 256 + x) xs u.1 (omega (arith, u.0)) in
    let e : k + 1 + length xs ≡ k + suc (length xs) = omega arith in
    rw e at r

pub number_holds : (xs : List ℕ) → AllBelowBase 256 xs → number_from_digits 256 xs < 2 ^ (8 * length xs)
number_holds xs u =
    let r = number_below 0 0 xs u (omega arith) in
    let e : 0 + length xs ≡ length xs = omega arith in
    rw e at r

-- octets that do not begin with 00 are the fewest of their number
pub width_number : (x : ℕ) (xs : List ℕ) → AllBelowBase 256 (x ∷ xs) → 1 ≤ x → length (x ∷ xs) ≤ widest → width_of (number_from_digits 256 (x ∷ xs)) ≡ length (x ∷ xs)
width_number x xs u some short =
    let c = number_from_digits 256 (x ∷ xs) in
    let n = length xs in
    let above : c < 2 ^ (8 * suc n) = number_holds (x ∷ xs) u in
    let z : 0 + n ≡ n = omega arith in
    let o : 0 * 256 + x ≡ x = omega arith in
    let low : 2 ^ (8 * n) ≤ number_from_digits_after 256 x xs = rw z at (number_from 0 x xs (omega arith)) in
    let below : 2 ^ (8 * n) ≤ c = subst (λ a. 2 ^ (8 * n) ≤ number_from_digits_after 256 a xs) (sym o) low in
    let top : 2 ^ (8 * suc n) ≤ 2 ^ 32 = pow_mono (let q : 8 * suc n ≤ 32 = omega arith in q) in
    let fewest = width_fewest c (omega arith) in
    let most = fewest.least (suc n) (omega arith) above in
    let least = more_than n c (width_of c) below fewest.holds in
    omega arith

-- the octets of two numbers, one behind the other, are those of one number
pub octets_join : (n m a b : ℕ) → b < 2 ^ (8 * m) → octets n a ++ octets m b ≡ octets (n + m) (a * 2 ^ (8 * m) + b)
octets_join n zero a b h =
    let z : n + 0 ≡ n = omega arith in
    let s : a * 1 + b ≡ a = omega arith in
    let e = append-nil (octets n a) in
    cc
octets_join n (suc m) a b h =
    let p : 2 ^ (8 * suc m) ≡ 2 ^ (8 * m) * 256 = ap (λ k. 2 ^ (8 * k)) (let s : suc m ≡ m + 1 = omega arith in s) ∙ pow_more m in
    let q : a * (2 ^ (8 * m) * 256) ≡ a * 2 ^ (8 * m) * 256 = sym (mul_assoc a (2 ^ (8 * m)) 256) in
    let x : a * 2 ^ (8 * suc m) + b ≡ a * 2 ^ (8 * m) * 256 + b = ap (λ k. a * k + b) p ∙ ap (λ k. k + b) q in
    let d : (a * 2 ^ (8 * m) * 256 + b) / 256 ≡ a * 2 ^ (8 * m) + b / 256 = omega arith in
    let r : (a * 2 ^ (8 * m) * 256 + b) % 256 ≡ b % 256 = omega arith in
    let s : n + suc m ≡ suc (n + m) = omega arith in
    let i = octets_join n m a (b / 256) (omega arith) in
    let g = append_assoc (octets n a) (octets m (b / 256)) (b % 256 ∷ []) in
    cc
