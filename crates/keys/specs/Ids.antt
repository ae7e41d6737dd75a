-- Key IDs. Assumes nothing.
use Rattle.std.specs.Prelude.{ℕ, Bool, cond, Some, None, Option, ◌==◌}
use Rattle.keys.specs.declared.id.KeyId.{KeyId}
use Rattle.keys.specs.declared.id.KeyId.TheVariants.{One, Two, Three, Four, Five, Six, Seven}

abbrev pub key_number : KeyId → ℕ
key_number One = 1
key_number Two = 2
key_number Three = 3
key_number Four = 4
key_number Five = 5
key_number Six = 6
key_number Seven = 7

abbrev pub same_key : KeyId → KeyId → Bool
same_key a b = key_number a == key_number b

-- the Key ID of a number, if the number is one
abbrev pub key_of : ℕ → Option KeyId
key_of n =
    cond (n == 1) (Some One) (cond (n == 2) (Some Two) (cond (n == 3) (Some Three) (cond (n == 4) (Some Four)
    (cond (n == 5) (Some Five) (cond (n == 6) (Some Six) (cond (n == 7) (Some Seven) None))))))
