-- Give, Choose, Drop and Swap. Assumes nothing.
use Rattle.std.specs.Prelude.{ℕ, List, Some, None, Ok, Err, Option, Result}
use Rattle.refusal.specs.declared.Fault.{Fault}
use Rattle.refusal.specs.Tests.{and_then}
use Rattle.suite.specs.declared.Keyset.{Keyset}
use Rattle.wire.specs.declared.id.SessionId.{SessionId}
use Rattle.session.specs.declared.session.Session.{Session}
use Rattle.session.specs.Sessions.{given, chosen, dropped, swapped}
use Rattle.store.specs.Stores.{Pairs, replaced}
use Rattle.arguments.specs.Arguments.{id_asked, key_asked}
use Rattle.endpoint.specs.declared.key_calls.Effect.{Effect}
use Rattle.endpoint.specs.declared.key_calls.Effect.TheVariants as effect
use Rattle.endpoint.specs.Ends.{EndMeaning, EndView, with_pairs, found, put_back}

-- 13, 6, 18
abbrev pub giving : EndView → List ℕ → ℕ → Keyset → Result (SessionId × Session) Fault
giving v octets n x =
    and_then (id_asked octets) (λ id.
    and_then (key_asked n) (λ k.
    and_then (found v.look id 0) (λ s.
    and_then (given k x s) (λ t.
    Ok (id, t)))))

-- 13, 6, 7
abbrev pub choosing : EndView → List ℕ → ℕ → Result (SessionId × Session) Fault
choosing v octets n =
    and_then (id_asked octets) (λ id.
    and_then (key_asked n) (λ k.
    and_then (found v.look id 0) (λ s.
    and_then (chosen k s) (λ t.
    Ok (id, t)))))

-- 13, 6
abbrev pub dropping : EndView → List ℕ → ℕ → Result (SessionId × Option Session) Fault
dropping v octets n =
    and_then (id_asked octets) (λ id.
    and_then (key_asked n) (λ k.
    and_then (found v.look id 0) (λ s.
    Ok (id, dropped k s))))

-- 13, 6, 18
abbrev pub swapping : EndView → List ℕ → ℕ → ℕ → Keyset → Result (SessionId × Option Session) Fault
swapping v octets new old x =
    and_then (id_asked octets) (λ id.
    and_then (key_asked new) (λ k.
    and_then (key_asked old) (λ j.
    and_then (found v.look id 0) (λ s.
    and_then (swapped k j x s) (λ c.
    Ok (id, c))))))

-- what is answered, and what sessions there are, where nothing can be ignored
abbrev pub done_answer : Result (SessionId × Session) Fault → Result (Unit {0}) Fault
done_answer r = and_then r (λ _. Ok tt)

abbrev pub done_end : EndMeaning → Result (SessionId × Session) Fault → EndMeaning
done_end e r = with_pairs e (put_back r e.pairs)

-- and where it can
abbrev pub effect_of : Option Session → Effect
effect_of (Some s) = effect.Done
effect_of None = effect.Ignored

abbrev pub effect_answer : Result (SessionId × Option Session) Fault → Result Effect Fault
effect_answer r = and_then r (λ p. Ok (effect_of p.1))

abbrev pub changed_pairs : Pairs → SessionId → Option Session → Pairs
changed_pairs l id (Some s) = replaced l id s
changed_pairs l id None = l

abbrev pub effect_pairs : Result (SessionId × Option Session) Fault → Pairs → Pairs
effect_pairs (Ok p) l = changed_pairs l p.0 p.1
effect_pairs (Err e) l = l

abbrev pub effect_end : EndMeaning → Result (SessionId × Option Session) Fault → EndMeaning
effect_end e r = with_pairs e (effect_pairs r e.pairs)
