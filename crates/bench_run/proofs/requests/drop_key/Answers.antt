use Rattle.std.proofs.Common.{ap, ◌∙◌}
use Rattle.endpoint.specs.Ends.{meaning}
use Rattle.bench_run.specs.Requests.{effected}
use Rattle.bench_run.proofs.Going.{drop_goes}
use Rattle.bench_run.proofs.requests.drop_key.Goals as goal

pub returns : goal.returns
returns g c =
    let before = meaning g.C.Suite c.args.end.now in
    let after = meaning g.C.Suite c.drop_key.new.self in
    let id = c.args.id.now in
    record {
      outcome = c.effected.ensures ∙ ap effected c.drop_key.ensures.value;
      goes = drop_goes before after id c.args.key c.drop_key.ensures.end;
    }
