use Rattle.aes.proofs.Inverses.{inverses}
use Rattle.aes.proofs.laws.octets_have_inverses.Goals as goal

pub returns : goal.returns
returns c = inverses
