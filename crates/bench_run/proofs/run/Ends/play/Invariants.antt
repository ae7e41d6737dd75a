use Rattle.std.proofs.Common.{◌≡◌, ◌++◌}
use Rattle.store.specs.StoreLaws.{Kept}
use Rattle.endpoint.specs.Ends.{meaning}
use Rattle.script.specs.Pieces.{lines_of}
use Rattle.script.specs.Lines.{lines_left}
use Rattle.bench_run.specs.Runs.{both, answers_to}
use Rattle.bench_run.proofs.run.Ends.play.Given as goal

abbrev pub invariant-loop-line : goal.invariant-loop-line
invariant-loop-line g l =
    let end = meaning g.C.Suite in record {
      logger_kept : Kept l.self.logger.pairs;
      service_kept : Kept l.self.service.pairs;
      answered : l.transcript.text ++ answers_to (both (end l.self.logger) (end l.self.service)) l.transcript.lines (lines_left l.line-iterator)
          ≡ answers_to (both (end l.initial.self.logger) (end l.initial.self.service)) 0 (lines_of l.input);
    }
