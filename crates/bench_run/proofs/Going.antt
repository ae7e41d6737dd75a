-- How an end goes on after each call. Assumes nothing.
use Rattle.std.proofs.Common.{◌≡◌, ℕ, List, Result, sym, ap, ◌∙◌, subst}
use Rattle.refusal.specs.declared.Fault.{Fault}
use Rattle.suite.specs.declared.Keyset.{Keyset}
use Rattle.wire.specs.declared.id.SessionId.{SessionId}
use Rattle.wire.specs.declared.parties.Plane.{Plane}
use Rattle.wire.specs.Limits.{longest_message}
use Rattle.session.specs.declared.session.Session.{Session}
use Rattle.store.specs.StoreLaws.{Kept}
use Rattle.script.specs.declared.request.KeyFields.{KeyFields}
use Rattle.script.specs.declared.request.BeginFields.{BeginFields}
use Rattle.script.specs.Asked.{to_begin, to_give, to_choose, to_drop, to_end, to_hear}
use Rattle.endpoint.specs.Ends.{EndMeaning, EndView, viewed, with_pairs}
use Rattle.endpoint.specs.Hearing.{hear_end}
use Rattle.endpoint.specs.Sealing.{seal_end}
use Rattle.endpoint.specs.KeyCalls.{giving, choosing, dropping, done_answer, done_end, effect_end}
use Rattle.endpoint.specs.SessionCalls.{beginning, begin_answer, Begun, end_end}
use Rattle.endpoint.proofs.Following.{views_follow}
use Rattle.endpoint.proofs.Keeping.{rules_are_kept}
use Rattle.bench_run.specs.Requests.{keyset_of, settings_of, plain, outcome_on, Goes, GoesOn, SealGoesOn}

-- an end that is as a call leaves it
goes : (made after : EndMeaning) (v : EndView) → after ≡ made → viewed made ≡ v → Kept made.pairs → Goes after v
goes made after v h f k = record { found = ap viewed h ∙ f; kept = subst (λ (e : EndMeaning). Kept e.pairs) (sym h) k }

module _ (e after : EndMeaning) (id : List ℕ) where
  -- Begin, with the keyset of a line's key
  module _ (b : BeginFields) (x : Keyset) (is : x ≡ keyset_of b.key) (r : Result (Unit {0}) Fault) (value : r ≡ begin_answer (viewed e) id (settings_of b) b.key.key x) where
    abbrev fresh : Keyset → Result (SessionId × Session) Fault
    fresh y = beginning (viewed e) id (settings_of b) b.key.key y

    answered : r ≡ begin_answer (viewed e) id (settings_of b) b.key.key (keyset_of b.key)
    answered = value ∙ ap (begin_answer (viewed e) id (settings_of b) b.key.key) is

    pub begin_outcome : plain r ≡ outcome_on (viewed e) (to_begin id b)
    begin_outcome = ap plain answered

    pub begin_goes : Begun e.pairs after.pairs (fresh x) r → after ≡ with_pairs e after.pairs → GoesOn e after (to_begin id b)
    begin_goes begun h k =
        let key = keyset_of b.key in
        let so : Begun e.pairs after.pairs (fresh key) (begin_answer (viewed e) id (settings_of b) b.key.key key) =
        subst (λ (y : Keyset). Begun e.pairs after.pairs (fresh y) (begin_answer (viewed e) id (settings_of b) b.key.key key)) is (subst (Begun e.pairs after.pairs (fresh x)) answered begun) in
        goes (with_pairs e after.pairs) after _ h (views_follow.begin e after.pairs id (settings_of b) b.key.key key so) (rules_are_kept.begin e after.pairs id (settings_of b) b.key.key key so k)

  module _ (k : KeyFields) (x : Keyset) (is : x ≡ keyset_of k) where
    pub give_outcome : (r : Result (Unit {0}) Fault) → r ≡ done_answer (giving (viewed e) id k.key x) → plain r ≡ outcome_on (viewed e) (to_give id k)
    give_outcome r h = ap plain (h ∙ ap (λ (y : Keyset). done_answer (giving (viewed e) id k.key y)) is)

    pub give_goes : after ≡ done_end e (giving (viewed e) id k.key x) → GoesOn e after (to_give id k)
    give_goes h kept = goes _ after _ (h ∙ ap (λ (y : Keyset). done_end e (giving (viewed e) id k.key y)) is) (views_follow.give e id k.key (keyset_of k)) (rules_are_kept.give e id k.key (keyset_of k) kept)

  pub choose_goes : (k : ℕ) → after ≡ done_end e (choosing (viewed e) id k) → GoesOn e after (to_choose id k)
  choose_goes k h kept = goes _ after _ h (views_follow.choose e id k) (rules_are_kept.choose e id k kept)

  pub drop_goes : (k : ℕ) → after ≡ effect_end e (dropping (viewed e) id k) → GoesOn e after (to_drop id k)
  drop_goes k h kept = goes _ after _ h (views_follow.drop e id k) (rules_are_kept.drop e id k kept)

  pub end_goes : after ≡ end_end e id → GoesOn e after (to_end id)
  end_goes h kept = goes _ after _ h (views_follow.end e id kept.apart) (rules_are_kept.end e id kept)

  pub seal_goes : (plane : Plane) (content : List ℕ) (n : ℕ) → n ≡ longest_message → after ≡ seal_end e plane id content n → SealGoesOn e after plane id content
  seal_goes plane content n is h kept =
      let so : after ≡ seal_end e plane id content longest_message = h ∙ ap (seal_end e plane id content) is in
      goes _ after _ so (views_follow.seal e plane id content longest_message) (rules_are_kept.seal e plane id content longest_message kept)

  pub hear_goes : after ≡ hear_end e id → GoesOn e after (to_hear id)
  hear_goes h kept = goes _ after _ h (views_follow.hear e id) (rules_are_kept.hear e id kept)
