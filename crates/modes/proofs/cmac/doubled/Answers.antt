use Rattle.std.proofs.Common.{refl}
use Rattle.aes.specs.Words.{block_octets}
use Rattle.modes.proofs.Blocks.{doubled_is, high_fits}
use Rattle.modes.proofs.cmac.doubled.Goals as goal

pub overflow_cast-y : goal.overflow_cast-y
overflow_cast-y c = record { fits = high_fits c.number_of-x.result c.number_of-x.type_inv }

pub returns : goal.returns
returns c = doubled_is (block_octets c.args.block) (block_octets c.of_halves.result) c.number_of-x.result _ c.number_of-x.ensures c.number_of-x.type_inv refl c.of_halves.ensures
