-- One definition of a message serves sealing and opening. Assumes nothing.
use Rattle.std.specs.Prelude.{◌≡◌, ℕ, ◌+◌, ◌^◌, ◌<◌, ◌≤◌, true, List, length, take, Ok}
use Rattle.std.specs.List.{between}
use Rattle.std.specs.Int.Digits.{AllBelowBase}
use Rattle.suite.specs.declared.Inputs.{Inputs}
use Rattle.suite.specs.declared.Keyset.{Keyset}
use Rattle.suite.specs.Ciphers.{padded}
use Rattle.wire.specs.declared.front.Header.{Header}
use Rattle.wire.specs.FrontLaws.{Writable, Counts}
use Rattle.wire.specs.Limits.{longest_message}
use Rattle.framing.specs.declared.format.Protection.{Protection}
use Rattle.message.specs.declared.open.Opened.{Opened}
use Rattle.framing.specs.Formats.{tag_octets}
use Rattle.framing.specs.Layouts.{data_fits}
use Rattle.message.specs.Messages.{Keystream, Tag, message}
use Rattle.message.specs.Opens.{open_answer, open_buffer}
use Rattle.message.specs.Seals.{has_content, seal_answer, seal_buffer}

-- octets are a message with this header and content
pub record Carries (stream : Keystream) (tag : Tag) (p : Protection) (h : Header) (content m : List ℕ) : Type 0 where
  pub writable : Writable h
  pub fits : data_fits p.format h.plane (length content) ≡ true
  pub some : has_content h.plane (length content) ≡ true
  pub counter : List ℕ
  pub counts : Counts counter h.counter
  pub is : m ≡ message stream tag p h counter content

-- the content that an accepted message has in the buffer
abbrev pub content_in : Opened → List ℕ → List ℕ
content_in o buffer = between o.place (o.place + o.length) buffer

-- octets are opened as a message with this header and content
pub record Opens (stream : Keystream) (tag : Tag) (t : ℕ) (p : Protection) (h : Header) (content m : List ℕ) : Type 0 where
  pub opened : Opened
  pub answer : open_answer stream tag t p m ≡ Ok opened
  pub same_header : opened.header ≡ h
  pub same_content : content_in opened (open_buffer stream tag t p m) ≡ content

-- for a suite with this keystream, and this tag of T octets
pub record OpenedAsSealed (stream : Keystream) (tag : Tag) (t : ℕ) : Type 0 where
  -- what is opened is a message with just the header and content that are answered
  pub only : (p : Protection) (m : List ℕ) (o : Opened) → AllBelowBase 256 m → open_answer stream tag t p m ≡ Ok o
      → (length m ≤ longest_message) × Carries stream tag p o.header (content_in o (open_buffer stream tag t p m)) m
  -- each message is opened, with its header and content
  pub each : (p : Protection) (h : Header) (content m : List ℕ) → tag_octets p.format.tag ≤ t → length m ≤ longest_message
      → Carries stream tag p h content m → Opens stream tag t p h content m
  -- a message's tag is the front of the suite's tag
  pub cut : (p : Protection) (k : Keyset) (i : Inputs) (m : List ℕ) → tag_octets p.format.tag ≤ t
      → take (tag_octets p.format.tag) (padded (tag k i m)) ≡ take (tag_octets p.format.tag) (tag k i m)
  -- what is sealed is a message of the answered length, and is opened as it was sealed
  pub back : (p : Protection) (h : Header) (content out : List ℕ) (n : ℕ) → h.counter < 2 ^ 32 → h.id.number < 2 ^ 32
      → seal_answer t p h (length content) (length out) ≡ Ok n
      → (length (take n (seal_buffer stream tag t p h content out)) ≡ n)
      × Carries stream tag p h content (take n (seal_buffer stream tag t p h content out))
      × Opens stream tag t p h content (take n (seal_buffer stream tag t p h content out))
