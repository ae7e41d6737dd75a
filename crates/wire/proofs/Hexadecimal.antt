-- One octet more is written.
use Rattle.std.proofs.Common.{◌≡◌, ℕ, ◌+◌, ◌<◌, ◌^◌, ◌-◌, true, false, List, [], ◌∷◌, ◌++◌, length, get_or, take, Some, sym, refl, ap, ◌∙◌}
use Rattle.std.specs.Fmt.{digits, padded_integral, format_spec, digits_output, styled_digits_output}
use Rattle.std.specs.Option.{option_map}
use Rattle.std.proofs.lemmas.Fmt.{hex_byte}
use Rattle.std.proofs.lemmas.List.{take_more}
use Rattle.wire.specs.Hex.{hex_pair, hex_of}

-- what `{:02X}` writes of an octet
pub pair_text : (d : _) (s : _) (x : ℕ) → x < 256 → digits_output d ≡ Some (digits 16 true x) → s ≡ format_spec 32 0 4 2 (2 ^ 64 - 1)
    → styled_digits_output d s ≡ Some (hex_pair x)
pair_text d s x small e f =
    ap (styled_digits_output d) f
    ∙ ap (option_map (padded_integral (format_spec 32 0 4 2 (2 ^ 64 - 1)) false [])) e
    ∙ ap Some (hex_byte true x small)

hex_push : (xs : List ℕ) (x : ℕ) → hex_of (xs ++ x ∷ []) ≡ hex_of xs ++ hex_pair x
hex_push [] x = refl
hex_push (y ∷ xs) x = ap (λ (t : List ℕ). hex_pair y ++ t) (hex_push xs x)

pub hex_more : (xs : List ℕ) (i : ℕ) → i < length xs → hex_of (take i xs) ++ hex_pair (get_or xs i 0) ≡ hex_of (take (i + 1) xs)
hex_more xs i h = sym (ap hex_of (take_more xs i 0 h) ∙ hex_push (take i xs) (get_or xs i 0))
