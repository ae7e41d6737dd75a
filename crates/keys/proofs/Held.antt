-- A key that is found is held. Assumes nothing.
use Rattle.std.proofs.Common.{◌≡◌, ℕ, true, is_some, Some, None, Ok, Option, sym, refl, ap, subst, arith}
use Rattle.std.specs.Option.{ok_or}
use Rattle.refusal.specs.declared.Fault.{Fault}
use Rattle.suite.specs.declared.Keyset.{Keyset}
use Rattle.keys.specs.declared.id.KeyId.{KeyId}
use Rattle.keys.specs.declared.keys.Keys.{Keys}
use Rattle.keys.specs.declared.keys.HeldKey.{HeldKey}
use Rattle.keys.specs.Ids.{key_of}
use Rattle.keys.specs.Slots.{keyset_in, slot_of}
use Rattle.keys.specs.Changes.{holds, held_as, held_or, receiving_key}

found : (k : KeyId) (o : Option Keyset) (e : Fault) (h : HeldKey) → ok_or (held_as k o) e ≡ Ok h → (h.id ≡ k) × (is_some o ≡ true)
found k None e h q = let z : ◌≡◌ {A = ℕ} 0 1 = cc in absurd (omega arith)
found k (Some x) e h q = let p : record { id = k; keyset = x } ≡ h = cc in (sym (ap (λ (y : HeldKey). y.id) p), refl)

held_found : (e : Fault) (ks : Keys) (o : Option KeyId) (h : HeldKey) → held_or e ks o ≡ Ok h → holds ks h.id ≡ true
held_found e ks None h q = let z : ◌≡◌ {A = ℕ} 0 1 = cc in absurd (omega arith)
held_found e ks (Some k) h q =
    let f = found k (keyset_in (slot_of ks.slots k)) e h q in
    subst (λ (i : KeyId). holds ks i ≡ true) (sym f.0) f.1

pub received_held : (n : ℕ) (ks : Keys) (h : HeldKey) → receiving_key n ks ≡ Ok h → holds ks h.id ≡ true
received_held n ks h q = held_found _ ks (key_of n) h q
