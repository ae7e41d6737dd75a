-- Where the parts of a message stand. Assumes nothing.
use Rattle.std.specs.Prelude.{◌≡◌, ℕ, ◌+◌, ◌-◌, ◌*◌, ◌^◌, ◌≤◌, Bool, true, ◌&&◌, Ok, Err, Result, nat_le, nat_lt}
use Rattle.refusal.specs.declared.Fault.{Fault}
use Rattle.refusal.specs.declared.Refusal.TheVariants.{EndsInBody, TooMuchData, OutputTooSmall}
use Rattle.refusal.specs.Refusals.{fault_at}
use Rattle.refusal.specs.Tests.{need}
use Rattle.suite.specs.Ciphers.{longest_tag}
use Rattle.wire.specs.declared.parties.Plane.{Plane}
use Rattle.wire.specs.declared.parties.Plane.TheVariants.{Control, User}
use Rattle.wire.specs.declared.front.Header.{Header}
use Rattle.wire.specs.declared.front.Front.{Front}
use Rattle.wire.specs.Fronts.{front_length}
use Rattle.wire.specs.Limits.{longest_message}
use Rattle.octets.specs.Octets.{width_of}
use Rattle.framing.specs.declared.format.Format.{Format}
use Rattle.framing.specs.declared.layout.Layout.{Layout}
use Rattle.framing.specs.Formats.{tag_octets, length_octets, lead_of, least_of, longest_lead}

-- a message whose content has n octets
abbrev pub sealed_length : Format → Header → ℕ → ℕ
sealed_length f h n = front_length h + lead_of f h.plane + n + tag_octets f.tag

abbrev pub plan_layout : Format → Header → ℕ → Layout
plan_layout f h n = record {
  from = 1 + width_of h.counter;
  to = front_length h;
  content = front_length h + lead_of f h.plane;
  tag = front_length h + lead_of f h.plane + n;
  end = sealed_length f h n;
}

-- D octets hold the number of Data octets
abbrev pub data_fits : Format → Plane → ℕ → Bool
data_fits f Control n = true
data_fits f User n = nat_lt n (2 ^ (8 * length_octets f.length))

-- a message that is to be written into a buffer of the given room
abbrev pub planned : Format → Header → ℕ → ℕ → Result Layout Fault
planned f h n room =
    need (data_fits f h.plane n && nat_le (sealed_length f h n) longest_message) (fault_at TooMuchData 0)
    (need (nat_le (sealed_length f h n) room) (fault_at OutputTooSmall 0)
    (Ok (plan_layout f h n)))

abbrev pub read_layout : Format → Front → ℕ → Layout
read_layout f r len = record {
  from = r.from;
  to = r.to;
  content = r.to + lead_of f r.header.plane;
  tag = len - tag_octets f.tag;
  end = len;
}

-- a message of len octets whose front was read
abbrev pub located : Format → Front → ℕ → Result Layout Fault
located f r len =
    need (nat_le (r.to + least_of f r.header.plane + tag_octets f.tag) len) (fault_at EndsInBody len)
    (Ok (read_layout f r len))

-- the places are in order, in a message of n octets
pub record Ordered (w : Layout) (n : ℕ) : Type 0 where
  pub id : w.from ≤ w.to
  pub lead : w.to ≤ w.content
  pub content : w.content ≤ w.tag
  pub tag : w.tag ≤ w.end
  pub end : w.end ≡ n
  pub size : n ≤ longest_message
  pub short_lead : w.content ≤ w.to + longest_lead
  pub short_tag : w.end ≤ w.tag + longest_tag

abbrev pub OrderedIn : ℕ → Result Layout Fault → Type 0
OrderedIn n (Ok w) = Ordered w n
OrderedIn n (Err e) = Unit {0}

-- the places are those of a message that is to be written
pub record Laid (f : Format) (h : Header) (n : ℕ) (w : Layout) : Type 0 where
  pub from : w.from ≡ 1 + width_of h.counter
  pub to : w.to ≡ front_length h
  pub content : w.content ≡ w.to + lead_of f h.plane
  pub tag : w.tag ≡ w.content + n
  pub end : w.end ≡ w.tag + tag_octets f.tag
  pub size : w.end ≤ longest_message

abbrev pub LaidIn : Format → Header → ℕ → ℕ → Result Layout Fault → Type 0
LaidIn f h n room (Ok w) = Laid f h n w × (w.end ≤ room)
LaidIn f h n room (Err e) = Unit {0}
