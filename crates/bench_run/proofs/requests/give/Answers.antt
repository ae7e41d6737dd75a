use Rattle.std.proofs.Common.{◌∙◌}
use Rattle.endpoint.specs.Ends.{meaning}
use Rattle.bench_run.proofs.Going.{give_outcome, give_goes}
use Rattle.bench_run.proofs.requests.give.Goals as goal

pub returns : goal.returns
returns g c =
    let before = meaning g.C.Suite c.args.end.now in
    let after = meaning g.C.Suite c.give.new.self in
    let id = c.args.id.now in
    record {
      outcome = c.plain.ensures ∙ give_outcome before after id c.args.key _ c.keyset.ensures _ c.give.ensures.value;
      goes = give_goes before after id c.args.key _ c.keyset.ensures c.give.ensures.end;
    }
