-- What two ends agree on for a message. Assumes nothing.
use Rattle.std.specs.Prelude.{ℕ, cond, Some, None, Option, ◌==◌}
use Rattle.suite.specs.declared.Inputs.{Inputs}
use Rattle.wire.specs.declared.parties.Plane.{Plane}
use Rattle.wire.specs.declared.parties.Plane.TheVariants.{Control, User}
use Rattle.wire.specs.declared.front.Header.{Header}
use Rattle.wire.specs.Parties.{bearer_of, direction_of}
use Rattle.framing.specs.declared.format.TagLength.{TagLength}
use Rattle.framing.specs.declared.format.TagLength.TheVariants.{Four, Eight, Twelve, Sixteen}
use Rattle.framing.specs.declared.format.DataLength.{DataLength}
use Rattle.framing.specs.declared.format.DataLength.TheVariants.{One, Two}
use Rattle.framing.specs.declared.format.Format.{Format}
use Rattle.framing.specs.declared.format.Protection.{Protection}

-- M
abbrev pub tag_octets : TagLength → ℕ
tag_octets Four = 4
tag_octets Eight = 8
tag_octets Twelve = 12
tag_octets Sixteen = 16

-- D
abbrev pub length_octets : DataLength → ℕ
length_octets One = 1
length_octets Two = 2

abbrev pub tag_length_of : ℕ → Option TagLength
tag_length_of n = cond (n == 4) (Some Four) (cond (n == 8) (Some Eight) (cond (n == 12) (Some Twelve) (cond (n == 16) (Some Sixteen) None)))

abbrev pub data_length_of : ℕ → Option DataLength
data_length_of n = cond (n == 1) (Some One) (cond (n == 2) (Some Two) None)

-- the octets of the longest Data Length
abbrev pub longest_lead : ℕ
longest_lead = 2

-- the octets of Data Length: D on the user plane, none on the control plane
abbrev pub lead_of : Format → Plane → ℕ
lead_of f Control = 0
lead_of f User = length_octets f.length

-- the fewest octets between Session ID and tag: a command on the control plane, Data Length on the user plane
abbrev pub least_of : Format → Plane → ℕ
least_of f Control = 1
least_of f User = length_octets f.length

-- the count is the counter, and bearer and direction go by plane and sender
abbrev pub inputs_of : Protection → Header → Inputs
inputs_of p h = record { count = h.counter; bearer = bearer_of h.plane; direction = direction_of p.sender }
