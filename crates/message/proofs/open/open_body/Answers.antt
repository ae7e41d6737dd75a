use Rattle.std.proofs.Common.{refl}
use Rattle.message.proofs.Clears.{put_back}
use Rattle.message.proofs.open.open_body.Goals as goal

pub returns-in-Err-clause-after : goal.returns-in-Err-clause-after
returns-in-Err-clause-after g c =
    let e = c.new-cipher.ensures in
    put_back (g.C.Suite.keystream c.args.suite.now) (g.C.Suite.tag_of c.args.suite.now) c.args.protection c.args.front _
    c.in_ok-w.w c.args.message.now _ _ c.in-Err.fault c.requires.within.back refl c.in_ok-w.ensures.value
    (rw (e.suite, e.keys, e.inputs) at c.decipher.ensures) (rw (e.suite, e.keys, e.inputs) at c.in-Err.ensures) (rw (e.suite, e.keys, e.inputs) at c.decipher-in-Err.ensures)
