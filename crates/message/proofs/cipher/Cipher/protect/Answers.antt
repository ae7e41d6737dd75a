use Rattle.message.proofs.Writes.{protected_is}
use Rattle.message.proofs.cipher.Cipher.protect.Goals as goal

pub returns : goal.returns
returns g c =
    protected_is _ (g.C.Suite.tag_of c.args.self.now.suite.now c.args.self.now.keys c.args.self.now.inputs) c.args.w c.args.out.now _ _ _ c.requires.ordered c.requires.room
    c.tag-tag.ensures c.copy_from_slice.ensures.after c.encipher.ensures
