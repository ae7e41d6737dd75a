use Rattle.wire.proofs.Ids.{id_written}
use Rattle.bench_run.proofs.requests.tell.Goals as goal

pub returns : goal.returns
returns c = rw (id_written c.args.heard.header.id _ _ c.to_be_bytes-octets.ensures c.width.ensures.value c.width.ensures.bound.1) at c.append.ensures
