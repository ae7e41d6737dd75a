use Rattle.std.proofs.Common.{ap, ◌∙◌}
use Rattle.endpoint.specs.Ends.{meaning}
use Rattle.bench_run.specs.Requests.{plain}
use Rattle.bench_run.proofs.Going.{end_goes}
use Rattle.bench_run.proofs.requests.end_session.Goals as goal

pub returns : goal.returns
returns g c =
    let before = meaning g.C.Suite c.args.end.now in
    let after = meaning g.C.Suite c.end.new.self in
    let id = c.args.id.now in
    record {
      outcome = c.plain.ensures ∙ ap plain c.end.ensures.value;
      goes = end_goes before after id c.end.ensures.end;
    }
