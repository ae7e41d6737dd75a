use Rattle.loopback.proofs.Acceptances.{opened_as_sealed}
use Rattle.loopback.proofs.laws.messages_are_opened_as_sealed.Goals as goal

pub returns : goal.returns
returns g c =
    opened_as_sealed (g.C.Suite.keystream c.args.suite.now) (g.C.Suite.tag_of c.args.suite.now) (g.C.Suite.size c.args.suite.now)
    (g.met.C.Suite.octet c.args.suite.now) (g.met.C.Suite.sized c.args.suite.now)
