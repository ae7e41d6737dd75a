-- A message sealed and opened again. Assumes nothing.
use Rattle.std.specs.Prelude.{◌≡◌, ℕ, ◌+◌, ◌≤◌, List, ◌++◌, length, take, drop, Ok, Err, Result}
use Rattle.refusal.specs.declared.Fault.{Fault}
use Rattle.wire.specs.declared.front.Header.{Header}
use Rattle.framing.specs.declared.format.Protection.{Protection}
use Rattle.message.specs.declared.open.Opened.{Opened}
use Rattle.loopback.specs.MessageLaws.{content_in}
use Rattle.message.specs.Messages.{Keystream, Tag}
use Rattle.message.specs.Opens.{open_answer, open_buffer}
use Rattle.message.specs.Seals.{seal_answer, seal_buffer}

-- a message that was sealed with n octets is read as it was sealed; what stands behind it stays
pub record Returned (stream : Keystream) (tag : Tag) (t : ℕ) (p : Protection) (h : Header) (content before after : List ℕ) (o : Opened) : Type 0 where
  pub n : ℕ
  pub sealed : seal_answer t p h (length content) (length before) ≡ Ok n
  pub answer : open_answer stream tag t p (take n (seal_buffer stream tag t p h content before)) ≡ Ok o
  pub inside : o.place + o.length ≤ n
  pub header : o.header ≡ h
  pub carried : content_in o after ≡ content
  pub buffer : after ≡ open_buffer stream tag t p (take n (seal_buffer stream tag t p h content before)) ++ drop n before

-- the message returns, or sealing it was refused
abbrev pub Looped : Keystream → Tag → ℕ → Protection → Header → List ℕ → List ℕ → List ℕ → Result Opened Fault → Type 0
Looped stream tag t p h content before after (Ok o) = Returned stream tag t p h content before after o
Looped stream tag t p h content before after (Err e) = (seal_answer t p h (length content) (length before) ≡ Err e) × (after ≡ before)
