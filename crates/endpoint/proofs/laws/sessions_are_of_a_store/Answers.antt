use Rattle.std.proofs.Common.{refl}
use Rattle.endpoint.proofs.laws.sessions_are_of_a_store.Goals as goal

pub returns : goal.returns
returns g c = rw (← c.end.view_is) (c.end.inside.store, refl, refl)
