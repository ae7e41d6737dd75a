use Rattle.std.proofs.Common.{ap, ◌∙◌}
use Rattle.endpoint.specs.Ends.{meaning}
use Rattle.bench_run.specs.Requests.{plain}
use Rattle.bench_run.proofs.Going.{choose_goes}
use Rattle.bench_run.proofs.requests.choose.Goals as goal

pub returns : goal.returns
returns g c =
    let before = meaning g.C.Suite c.args.end.now in
    let after = meaning g.C.Suite c.choose.new.self in
    let id = c.args.id.now in
    record {
      outcome = c.plain.ensures ∙ ap plain c.choose.ensures.value;
      goes = choose_goes before after id c.args.key c.choose.ensures.end;
    }
