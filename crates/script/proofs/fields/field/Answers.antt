use Rattle.std.proofs.Common.{◌≡◌, ℕ, zero, suc, List, [], ◌∷◌, Some, None, Option, Bor, eqb, get_or, refl, sym, ap, ◌∙◌, rules, tests}
use Rattle.std.specs.List.{slice_get, slice_split}
use Rattle.std.specs.Option.{option_map, unwrap_or}
use Rattle.std.proofs.lemmas.Option.{get_or_from_slice_get}
use Rattle.std.proofs.lemmas.Iterator.Consumers.{nth_from_yields_List}
use Rattle.std.proofs.lemmas.Iterator.Splits.{YieldsList-from_slice_split}
use Rattle.script.proofs.fields.field.Goals as goal

past : (all : List (List ℕ)) (n : ℕ) → None ≡ slice_get all n → [] ≡ get_or all n []
past [] n e = refl
past (x ∷ xs) zero e = search rules
past (x ∷ xs) (suc n) e = past xs n e

gives : (r : Option (Bor (List ℕ))) (d : Bor (List ℕ)) (all : List (List ℕ)) (n : ℕ) → option_map (λ x. x.now) r ≡ slice_get all n → d.now ≡ [] → (unwrap_or r d).now ≡ get_or all n []
gives (Some x) d all n e z = sym (get_or_from_slice_get all n x.now [] (sym e))
gives None d all n e z = z ∙ past all n e

pub returns : goal.returns
returns c =
    let found = nth_from_yields_List c.nth.result c.nth.new.self c.args.n c.nth.ensures.ran
    (YieldsList-from_slice_split _ (λ x. eqb x 44) c.args.line.now c.split.ensures.rest c.split.ensures.done c.split.ensures.closure (λ x r q k. search (rules, tests))) in
    ap (λ (x : Bor (List ℕ)). x.now) c.unwrap_or.ensures ∙ gives c.nth.result _ (slice_split (λ x. eqb x 44) c.args.line.now) c.args.n found refl
