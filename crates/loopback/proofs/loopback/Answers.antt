use Rattle.std.proofs.Common.{rules}
use Rattle.loopback.proofs.Returns.{returned}
use Rattle.loopback.proofs.loopback.Goals as goal

pub returns : goal.returns
returns g c =
    returned (g.C.Suite.keystream c.args.suite.now) (g.C.Suite.tag_of c.args.suite.now) (g.C.Suite.size c.args.suite.now) c.args.protection c.args.header
    c.args.content.now c.args.buffer.now _ _ c.in_ok-n.n _ (search rules) (search rules) c.in_ok-n.ensures.value c.seal.ensures.after
    c.open.ensures.value c.open.ensures.after c.open.ensures.inside c.open.auto.message
