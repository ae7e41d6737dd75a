use Rattle.endpoint.specs.Ends.{meaning}
use Rattle.bench_run.proofs.Going.{hear_goes}
use Rattle.bench_run.proofs.requests.hear.Goals as goal

pub returns-in-Ok-clause-goes : goal.returns-in-Ok-clause-goes
returns-in-Ok-clause-goes g c = hear_goes (meaning g.C.Suite c.args.end.now) (meaning g.C.Suite c.hear.new.self) c.args.message.now c.hear.ensures.end

pub returns-in-Err-clause-goes : goal.returns-in-Err-clause-goes
returns-in-Err-clause-goes g c = hear_goes (meaning g.C.Suite c.args.end.now) (meaning g.C.Suite c.hear.new.self) c.args.message.now c.hear.ensures.end
