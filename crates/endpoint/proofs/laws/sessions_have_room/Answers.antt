use Rattle.endpoint.proofs.laws.sessions_have_room.Goals as goal

pub returns : goal.returns
returns g c = rw (← c.end.view_is) (g.S.SessionStore.within c.end.inside.store)
