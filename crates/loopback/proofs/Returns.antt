-- A message that is sealed and opened again returns. Assumes nothing.
use Rattle.std.proofs.Common.{◌≡◌, ℕ, ◌+◌, ◌-◌, ◌^◌, ◌<◌, ◌≤◌, List, ◌++◌, length, take, drop, IfOk, Ok, Result, sym, ap, ◌∙◌, subst, arith, drop_at}
use lib.Seq.{take-append-le}
use Rattle.std.specs.List.{between}
use Rattle.std.proofs.lemmas.Slice.{between_is}
use Rattle.refusal.specs.declared.Fault.{Fault}
use Rattle.wire.specs.declared.front.Header.{Header}
use Rattle.wire.specs.Fronts.{counter_octets}
use Rattle.framing.specs.declared.format.Protection.{Protection}
use Rattle.message.specs.declared.open.Opened.{Opened}
use Rattle.loopback.specs.Loopbacks.{Looped}
use Rattle.loopback.specs.MessageLaws.{content_in}
use Rattle.message.specs.Messages.{Keystream, Tag, message}
use Rattle.message.specs.Opens.{open_answer, open_buffer}
use Rattle.message.specs.Seals.{seal_answer, seal_buffer}
use Rattle.loopback.proofs.Openings.{back, sealed_buffer}

between_before : (xs ys : List ℕ) (i j : ℕ) → j ≤ length xs → between i j (xs ++ ys) ≡ between i j xs
between_before xs ys i j h = between_is (xs ++ ys) i j ∙ ap (drop i) (take-append-le j xs ys h) ∙ sym (between_is xs i j)

pub returned : (stream : Keystream) (tag : Tag) (t : ℕ) (p : Protection) (h : Header) (content before filled part : List ℕ) (n : ℕ) (r : Result Opened Fault)
    → h.counter < 2 ^ 32 → h.id.number < 2 ^ 32 → ◌≡◌ {A = Result ℕ Fault} (Ok n) (seal_answer t p h (length content) (length before))
    → filled ≡ seal_buffer stream tag t p h content before → r ≡ open_answer stream tag t p (take (n - 0) filled) → part ≡ open_buffer stream tag t p (take (n - 0) filled)
    → IfOk r (λ o. o.place + o.length ≤ length (take (n - 0) filled)) → length part ≡ length (take (n - 0) filled) → Looped stream tag t p h content before (part ++ drop (n - 0) filled) r
returned stream tag t p h content before filled part n r counter_fits id_fits sealed filled_is r_is part_is inside kept =
    let z : n - 0 ≡ n = omega arith in
    let whole = sealed_buffer stream tag t p h content before n (sym sealed) in
    let m = take n (seal_buffer stream tag t p h content before) in
    let sealed_back = back stream tag t p h content before n counter_fits id_fits (sym sealed) in
    let opens = sealed_back.2 in
    let o = opens.opened in
    let same : take (n - 0) filled ≡ m = cc in
    let ok : r ≡ Ok o = r_is ∙ ap (open_answer stream tag t p) same ∙ opens.answer in
    let part_opened : part ≡ open_buffer stream tag t p m = part_is ∙ ap (open_buffer stream tag t p) same in
    let behind : drop (n - 0) filled ≡ drop n before =
    ap (λ i. drop i filled) z ∙ ap (drop n) (filled_is ∙ whole.0) ∙ drop_at (message stream tag p h (counter_octets h.counter) content) (drop n before) n whole.1 in
    let bound : o.place + o.length ≤ length part = subst (λ (x : Result Opened Fault). IfOk x (λ o. o.place + o.length ≤ length part)) ok (rw (← kept) at inside) in
    let carried : content_in o (part ++ drop (n - 0) filled) ≡ content =
    between_before part (drop (n - 0) filled) o.place (o.place + o.length) bound ∙ ap (content_in o) part_opened ∙ opens.same_content in
    let buffer : part ++ drop (n - 0) filled ≡ open_buffer stream tag t p m ++ drop n before = cc in
    subst (Looped stream tag t p h content before (part ++ drop (n - 0) filled)) (sym ok)
    record {
      n = n;
      sealed = sym sealed;
      answer = opens.answer;
      inside = (let k = ap length same in let l = sealed_back.0 in omega arith);
      header = opens.same_header;
      carried = carried;
      buffer = buffer;
    }
