use Rattle.wire.proofs.Ids.{id_written}
use Rattle.wire.proofs.id.SessionIdDisplay.fmt.Goals as goal

pub returns-clause-writes : goal.returns-clause-writes
returns-clause-writes g c = rw (id_written c.args.self.now _ _ c.to_be_bytes-octets.ensures c.width.ensures.value c.width.ensures.bound.1) at c.write.ensures.writes
