-- What octets a message is. Assumes nothing.
use Rattle.std.specs.Prelude.{ℕ, List, ◌++◌, length, take}
use Rattle.suite.specs.declared.Keyset.{Keyset}
use Rattle.suite.specs.declared.Inputs.{Inputs}
use Rattle.suite.specs.Ciphers.{enciphered, padded}
use Rattle.wire.specs.declared.front.Header.{Header}
use Rattle.wire.specs.Fronts.{front}
use Rattle.wire.specs.Ids.{id_octets}
use Rattle.octets.specs.Octets.{octets}
use Rattle.framing.specs.declared.format.Protection.{Protection}
use Rattle.framing.specs.Formats.{tag_octets, lead_of, inputs_of}

-- the meaning of a suite: keystream octet and tag
abbrev pub Keystream : Type 0
Keystream = Keyset → Inputs → ℕ → ℕ

abbrev pub Tag : Type 0
Tag = Keyset → Inputs → List ℕ → List ℕ

-- Data Length, if the plane has one, and the content
abbrev pub body_of : ℕ → List ℕ → List ℕ
body_of lead content = octets lead (length content) ++ content

-- the first m octets of the tag of Session ID and body
abbrev pub tag_for : (List ℕ → List ℕ) → ℕ → List ℕ → List ℕ → List ℕ
tag_for tag m id body = take m (padded (tag (id ++ body)))

-- what follows the Session ID, in clear: body and tag
abbrev pub clear_rest : (List ℕ → List ℕ) → ℕ → List ℕ → List ℕ → List ℕ
clear_rest tag m id body = body ++ tag_for tag m id body

-- a front, and behind it the rest enciphered
abbrev pub message : Keystream → Tag → Protection → Header → List ℕ → List ℕ → List ℕ
message stream tag p h counter content =
    front h counter
    ++ enciphered (stream p.keys (inputs_of p h)) 0
    (clear_rest (tag p.keys (inputs_of p h)) (tag_octets p.format.tag) (id_octets h.id) (body_of (lead_of p.format h.plane) content))
