use Rattle.std.proofs.Common.{sym, ◌∙◌}
use Rattle.keys.proofs.Deciding.{tests_decide}
use Rattle.keys.proofs.keys.Keys.is_sound.Goals as goal

pub returns-then-sending_is_sound : goal.returns-then-sending_is_sound
returns-then-sending_is_sound c = tests_decide c.args.self _ (sym c.sending_is_sound.ensures ∙ c.if-sending_is_sound.true) c.slots_are_sound.ensures
