use Rattle.session.proofs.Deciding.{test_fails}
use Rattle.session.proofs.session.Session.is_sound.Goals as goal

pub returns-else-counts_are_sound : goal.returns-else-counts_are_sound
returns-else-counts_are_sound c = test_fails c.args.self _ c.counts_are_sound.ensures c.if-counts_are_sound.false
