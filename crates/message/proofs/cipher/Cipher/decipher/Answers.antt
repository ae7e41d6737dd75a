use Rattle.message.proofs.Clears.{cleared_is}
use Rattle.message.proofs.cipher.Cipher.decipher.Goals as goal

pub returns : goal.returns
returns g c = cleared_is _ c.args.to c.args.message.now _ c.requires c.encipher.ensures
