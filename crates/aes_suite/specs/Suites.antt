-- The AES suite and the clear suite. Assumes nothing.
use Rattle.std.specs.Prelude.{ℕ, ◌+◌, ◌*◌, ◌%◌, ◌^◌, List, ◌++◌, take}
use Rattle.octets.specs.Octets.{octets}
use Rattle.suite.specs.declared.Keyset.{Keyset}
use Rattle.suite.specs.declared.Inputs.{Inputs}
use Rattle.aes.specs.Cipher.{aes}
use Rattle.aes.specs.Words.{key_octets}
use Rattle.modes.specs.Cmac.{cmac_of}
use Rattle.modes.specs.Counter.{counter_stream}

-- the octets of a tag
abbrev pub tag_size : ℕ
tag_size = 4

-- 64 bits: the count on 32, the bearer on 5, the direction on 1, and 26 zeros
abbrev pub start_of : Inputs → ℕ
start_of i = i.count * 2 ^ 32 + i.bearer % 32 * 2 ^ 27 + i.direction % 2 * 2 ^ 26

-- 128-EEA2: counter mode over AES, from the start and a counter of 64 zero bits on
unfoldable pub eea2 : Keyset → Inputs → ℕ → ℕ
eea2 k i = counter_stream (aes (key_octets k.encryption0 k.encryption1)) (start_of i)

-- 128-EIA2: the first 32 bits of the CMAC over AES of the start and the message
unfoldable pub eia2 : Keyset → Inputs → List ℕ → List ℕ
eia2 k i m = take tag_size (cmac_of (aes (key_octets k.integrity0 k.integrity1)) (octets 8 (start_of i) ++ m))

-- EEA0: all zero
abbrev pub eea0 : Keyset → Inputs → ℕ → ℕ
eea0 k i place = 0
