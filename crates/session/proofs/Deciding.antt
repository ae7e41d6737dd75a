-- The tests of the rules decide them. Assumes nothing.
use Rattle.std.proofs.Common.{◌≡◌, Bool, true, false, leb, Decides, ◌∙◌}
use Rattle.std.proofs.lemmas.Bool.{le-leb, and_from, both_ways}
use Rattle.wire.specs.declared.parties.Plane.TheVariants.{Control, User}
use Rattle.session.specs.declared.session.Session.{Session}
use Rattle.session.specs.Rules.{Sound, counts_test}

pub counts_pass : (s : Session) → Sound s → counts_test s ≡ true
counts_pass s h = and_from (leb 1 s.settings.leap) _ (le-leb 1 s.settings.leap h.leap) (and_from (leb s.control.accepted s.control.last_accepted) _ (le-leb _ _ (h.counts Control)) (le-leb _ _ (h.counts User)))

pub test_fails : (s : Session) (b : Bool) → b ≡ counts_test s → b ≡ false → Decides b (Sound s)
test_fails s b is no_more = (λ t. absurd (both_ways b no_more t), λ h. is ∙ counts_pass s h)
