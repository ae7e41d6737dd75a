-- Deciphering in place. Assumes nothing.
use Rattle.std.proofs.Common.{◌≡◌, ℕ, ◌+◌, ◌-◌, ◌≤◌, List, ◌++◌, length, take, drop, Ok, Err, Result, sym, ap, ◌∙◌, arith, length-take-le, drop-drop, take_at, drop_at}
use borrow.Rule.Slice.PartMut.{put_mid}
use Rattle.std.specs.List.{between}
use Rattle.std.proofs.lemmas.List.{append-nil, drop_all, take-append-drop}
use Rattle.std.proofs.lemmas.Slice.{between_to_end}
use Rattle.suite.specs.Ciphers.{enciphered}
use Rattle.suite.proofs.Ciphering.{enciphered-twice}
use Rattle.suite.specs.declared.Inputs.{Inputs}
use Rattle.refusal.specs.declared.Fault.{Fault}
use Rattle.wire.specs.declared.front.Front.{Front}
use Rattle.framing.specs.declared.format.Protection.{Protection}
use Rattle.framing.specs.declared.layout.Layout.{Layout}
use Rattle.message.specs.declared.open.Opened.{Opened}
use Rattle.framing.specs.Formats.{inputs_of}
use Rattle.framing.specs.Layouts.{located}
use Rattle.message.specs.Messages.{Keystream, Tag}
use Rattle.message.specs.Opens.{cleared, checked, body_answer, body_buffer, clear_if}

-- one write to all that stands from a place on
pub cleared_is : (f : ℕ → ℕ) (to : ℕ) (m part : List ℕ) → to ≤ length m → part ≡ enciphered f 0 (between to (length m) m)
    → put_mid to (length m - to) m part ≡ cleared f to m
cleared_is f to m part h is =
    let b = between_to_end m to (length m) (omega arith) in
    let s : to + (length m - to) ≡ length m = omega arith in
    let none = drop-drop (length m - to) to m ∙ ap (λ k. drop k m) s ∙ drop_all (length m) m (omega arith) in
    let n = append-nil part in
    cc

-- done twice it is no change
pub cleared-twice : (f : ℕ → ℕ) (to : ℕ) (m : List ℕ) → to ≤ length m → cleared f to (cleared f to m) ≡ m
cleared-twice f to m h =
    let front = take to m in
    let rest = enciphered f 0 (drop to m) in
    let n : length front ≡ to = length-take-le to m h in
    let t : take to (front ++ rest) ≡ front = take_at front rest to n in
    let d : drop to (front ++ rest) ≡ rest = drop_at front rest to n in
    let twice = enciphered-twice f 0 (drop to m) in
    let whole = take-append-drop to m in
    cc

-- a message that was deciphered and refused is enciphered again
pub put_back : (stream : Keystream) (tag : Tag) (p : Protection) (f : Front) (inputs : Inputs) (w : Layout) (m clear after : List ℕ) (e : Fault) → f.to ≤ length m
    → inputs ≡ inputs_of p f.header → ◌≡◌ {A = Result Layout Fault} (Ok w) (located p.format f (length m)) → clear ≡ cleared (stream p.keys inputs) f.to m
    → ◌≡◌ {A = Result (Unit {0}) Fault} (Err e) (checked (tag p.keys inputs) w clear) → after ≡ cleared (stream p.keys inputs) f.to clear
    → after ≡ body_buffer stream tag p f m
put_back stream tag p f inputs w m clear after e inside inputs_is w_is clear_is refused after_is =
    let i = inputs_of p f.header in
    let c : clear ≡ cleared (stream p.keys i) f.to m = cc in
    let r : checked (tag p.keys i) w (cleared (stream p.keys i) f.to m) ≡ Err e = cc in
    let no' : body_answer stream tag p f m ≡ Err e = rw (← w_is) (rw r) in
    let back : after ≡ m = after_is ∙ (let t = cleared-twice (stream p.keys i) f.to m inside in cc) in
    back ∙ ap (λ (r : Result Opened Fault). clear_if r (cleared (stream p.keys i) f.to m) m) (sym no')
