use Rattle.wire.proofs.Readings.{read_as_written}
use Rattle.wire.proofs.laws.fronts_are_read_as_written.Goals as goal

pub returns : goal.returns
returns c = read_as_written
