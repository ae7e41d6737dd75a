-- The two functions of the suites, as the code reckons them. Assumes nothing.
use Rattle.std.specs.Prelude.{◌≡◌, ℕ, ◌+◌, ◌-◌, List, [], ◌∷◌, ◌++◌, length, take, replicate, refl}
use Rattle.std.proofs.Common.{sym, ap, ◌∙◌, arith}
use Rattle.std.specs.Int.Bits.{xor_zero_r}
use Rattle.std.specs.Int.{bytes_high_first}
use Rattle.octets.specs.Octets.{octets}
use Rattle.octets.proofs.Numbers.{octets_std}
use Rattle.suite.specs.declared.Keyset.{Keyset}
use Rattle.suite.specs.declared.Inputs.{Inputs}
use Rattle.suite.specs.Ciphers.{enciphered, padded, longest_tag}
use Rattle.aes.specs.declared.Block.{Block}
use Rattle.aes.specs.Cipher.{aes, cipher, key_expansion}
use Rattle.aes.specs.Words.{block_octets, key_octets}
use Rattle.modes.specs.Cmac.{cmac_of}
use Rattle.modes.specs.Counter.{counter_stream}
use Rattle.aes_suite.specs.Suites.{tag_size, start_of, eea2, eia2, eea0}
use Rattle.aes_suite.specs.Sizes.{eia2_size}

-- nothing is enciphered
pub clear_same : (k : Keyset) (i : Inputs) (j : ℕ) (xs : List ℕ) → xs ≡ enciphered (eea0 k i) j xs
clear_same k i j [] = refl
clear_same k i j (x ∷ xs) = let a = xor_zero_r x in let b = clear_same k i (j + 1) xs in cc

first_word : (b : Block) → take tag_size (block_octets b) ≡ octets 4 b.a
unfolding block_octets
first_word b = refl

pub tag_is : (k : Keyset) (i : Inputs) (m : List ℕ) (words : List (List ℕ)) (start : ℕ) (head part : List ℕ) (b : Block)
    → words ≡ key_expansion (key_octets k.integrity0 k.integrity1) → start ≡ start_of i
    → head ≡ bytes_high_first 8 start
    → block_octets b ≡ cmac_of (cipher words) (head ++ m) → part ≡ octets 4 b.a → part ++ replicate 12 0 ≡ padded (eia2 k i m)
unfolding eia2
tag_is k i m words start head part b words_is start_is head_is tag_made part_is =
    let h : head ≡ octets 8 (start_of i) = head_is ∙ octets_std 8 start ∙ ap (octets 8) start_is in
    let made : block_octets b ≡ cmac_of (aes (key_octets k.integrity0 k.integrity1)) (octets 8 (start_of i) ++ m) =
    tag_made ∙ ap (λ (w : List (List ℕ)). cmac_of (cipher w) (head ++ m)) words_is ∙ ap (λ (l : List ℕ). cmac_of (aes (key_octets k.integrity0 k.integrity1)) (l ++ m)) h in
    let p : part ≡ eia2 k i m = part_is ∙ sym (first_word b) ∙ ap (take tag_size) made in
    let n : longest_tag - length (eia2 k i m) ≡ 12 = (let s = eia2_size k i m in omega arith) in
    ap (λ (l : List ℕ). l ++ replicate 12 0) p ∙ ap (λ j. eia2 k i m ++ replicate j 0) (sym n)

pub cipher_is : (k : Keyset) (i : Inputs) (words : List (List ℕ)) (start : ℕ) (old new : List ℕ) → words ≡ key_expansion (key_octets k.encryption0 k.encryption1)
    → start ≡ start_of i → new ≡ enciphered (counter_stream (cipher words) start) 0 old → new ≡ enciphered (eea2 k i) 0 old
unfolding eea2
cipher_is k i words start old new words_is start_is new_is =
    new_is ∙ ap (λ (w : List (List ℕ)). enciphered (counter_stream (cipher w) start) 0 old) words_is
    ∙ ap (λ s. enciphered (counter_stream (aes (key_octets k.encryption0 k.encryption1)) s) 0 old) start_is
