use Rattle.std.proofs.Common.{◌∙◌}
use Rattle.endpoint.specs.Ends.{meaning}
use Rattle.bench_run.proofs.Going.{begin_outcome, begin_goes}
use Rattle.bench_run.proofs.requests.begin.Goals as goal

pub returns : goal.returns
returns g c =
    let before = meaning g.C.Suite c.args.end.now in
    let after = meaning g.C.Suite c.begin.new.self in
    let id = c.args.id.now in
    record {
      outcome = c.plain.ensures ∙ begin_outcome before after id c.args.fields _ c.keyset.ensures _ c.begin.ensures.value;
      goes = begin_goes before after id c.args.fields _ c.keyset.ensures _ c.begin.ensures.value c.begin.ensures.pairs c.begin.ensures.end;
    }
