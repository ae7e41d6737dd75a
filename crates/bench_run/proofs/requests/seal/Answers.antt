use Rattle.endpoint.specs.Ends.{meaning}
use Rattle.bench_run.proofs.Going.{seal_goes}
use Rattle.bench_run.proofs.Buffers.{empty_length}
use Rattle.bench_run.proofs.requests.seal.Goals as goal

pub returns-in-Ok-clause-goes : goal.returns-in-Ok-clause-goes
returns-in-Ok-clause-goes g c = seal_goes (meaning g.C.Suite c.args.end.now) (meaning g.C.Suite c.seal.new.self) c.args.id.now c.args.plane c.args.content.now _ empty_length c.seal.ensures.end
