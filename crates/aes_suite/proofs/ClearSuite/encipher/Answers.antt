use Rattle.aes_suite.proofs.Meanings.{clear_same}
use Rattle.aes_suite.proofs.ClearSuite.encipher.Goals as goal

pub returns : goal.returns
returns c = clear_same c.args._keys c.args._inputs 0 c.args._part.now
