use Rattle.message.proofs.Writes.{message-written}
use Rattle.message.proofs.seal.write_message.Goals as goal

pub returns : goal.returns
returns g c =
    let e = c.new.ensures in
    message-written (g.C.Suite.keystream c.args.suite.now) (g.C.Suite.tag_of c.args.suite.now) c.args.protection c.args.header c.args.w
    c.args.content.now c.args.out.now _ _ c.requires.laid c.requires.room c.write_clear.ensures (rw (e.suite, e.keys, e.inputs) at c.protect.ensures)
