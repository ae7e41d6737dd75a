use Rattle.std.proofs.Common.{◌≡◌, ℕ, List, [], ◌∷◌, map, length, get_or, Bor, ◌∙◌, rules, arith}
use Rattle.std.proofs.lemmas.List.{get_or-map}
use Rattle.script.specs.Requests.{key_read}
use Rattle.script.proofs.request.request_with.Goals as goal

key_behind_id : (fields : List (Bor (List ℕ))) (d : Bor (List ℕ)) → length fields ≡ 6
    → key_read ((get_or fields 3 d).now ∷ (get_or fields 4 d).now ∷ (get_or fields 5 d).now ∷ []) 0 ≡ key_read (map (λ field. field.now) fields) 3
key_behind_id fields d h =
    let third : get_or (map (λ (field : Bor (List ℕ)). field.now) fields) 3 [] ≡ (get_or fields 3 d).now = get_or-map (λ (field : Bor (List ℕ)). field.now) fields 3 d [] (omega arith) in
    let fourth : get_or (map (λ (field : Bor (List ℕ)). field.now) fields) 4 [] ≡ (get_or fields 4 d).now = get_or-map (λ (field : Bor (List ℕ)). field.now) fields 4 d [] (omega arith) in
    let fifth : get_or (map (λ (field : Bor (List ℕ)). field.now) fields) 5 [] ≡ (get_or fields 5 d).now = get_or-map (λ (field : Bor (List ℕ)). field.now) fields 5 d [] (omega arith) in
    rw (third, fourth, fifth)

pub returns-in-Give : goal.returns-in-Give
returns-in-Give c =
    let n : length c.args.fields.now ≡ 6 = search rules in
    let k = c.read_key-key.ensures ∙ key_behind_id c.args.fields.now _ n in
    search rules
