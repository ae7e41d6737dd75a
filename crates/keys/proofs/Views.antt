-- A record of slots is a function of the Key ID. Assumes nothing.
use Rattle.std.proofs.Common.{◌≡◌, ℕ, true, Some, None, Option, sym, refl, ap, ◌∙◌, inl, inr, arith}
use denote.Enum.Bare.{sameb, same_true, same_false}
use Rattle.std.proofs.lemmas.Bool.{cases_Bool, eqb-true, eq-eqb, ne_eqb}
use Rattle.keys.specs.contracts.id.KeyId.{the_type}
use Rattle.keys.specs.declared.id.KeyId.{KeyId}
use Rattle.keys.specs.declared.id.KeyId.TheVariants.{One, Two, Three, Four, Five, Six, Seven}
use Rattle.keys.specs.declared.record.Slot.{Slot}
use Rattle.keys.specs.Ids.{key_number, same_key, key_of}
use Rattle.keys.specs.Slots.{slot_of, each}

pub each_back : (f : KeyId → Slot) (k : KeyId) → slot_of (each f) k ≡ f k
each_back f One = refl
each_back f Two = refl
each_back f Three = refl
each_back f Four = refl
each_back f Five = refl
each_back f Six = refl
each_back f Seven = refl

pub number_back : (k : KeyId) → key_of (key_number k) ≡ Some k
number_back One = refl
number_back Two = refl
number_back Three = refl
number_back Four = refl
number_back Five = refl
number_back Six = refl
number_back Seven = refl

pub none_some : (k : KeyId) → ◌≡◌ {A = Option KeyId} None (Some k) → ⊥
none_some k h = let z : ◌≡◌ {A = ℕ} 0 1 = cc in omega arith

pub some_same : (a b : KeyId) → Some a ≡ Some b → a ≡ b
some_same a b h = cc

pub same_key_lem : (a b : KeyId) → same_key a b ≡ true → a ≡ b
same_key_lem a b h = some_same a b (sym (number_back a) ∙ ap key_of (eqb-true (key_number a) (key_number b) h) ∙ number_back b)

pub same_self : (k : KeyId) → same_key k k ≡ true
same_self k = eq-eqb (key_number k) (key_number k) refl

-- `==` of two Key IDs compares their numbers
pub same_is : (a b : KeyId) → sameb the_type a b ≡ same_key a b
same_is a b = elim (cases_Bool (sameb the_type a b)) [
  | inl t ↦ t ∙ sym (eq-eqb (key_number a) (key_number b) (ap key_number (same_true the_type tt a b t)))
  | inr f ↦ f ∙ sym (ne_eqb (key_number a) (key_number b) (λ e. same_false the_type a b f (same_key_lem a b (eq-eqb (key_number a) (key_number b) e))))
]
