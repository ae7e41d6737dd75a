use Rattle.endpoint.specs.Ends.{meaning}
use Rattle.script.specs.Pieces.{lines_of}
use Rattle.script.specs.Lines.{lines_left}
use Rattle.bench_run.specs.Runs.{both, answers_to}
use Rattle.bench_run.proofs.Playing.{line_more}
use Rattle.bench_run.proofs.run.Ends.play.Goals as goal

pub loop-line-preserved : goal.loop-line-preserved
loop-line-preserved g c =
    let end = meaning g.C.Suite in
    let kept = c.loop-line.invariant in
    let went = c.answer.ensures.go kept.logger_kept kept.service_kept in record {
      logger_kept = went.logger_kept;
      service_kept = went.service_kept;
      answered = line_more (both (end c.loop-line.self.logger) (end c.loop-line.self.service)) (both (end c.answer.new.self.logger) (end c.answer.new.self.service))
          c.loop-line.transcript c.answer.new.transcript (answers_to (both (end c.args.self.now.logger) (end c.args.self.now.service)) 0 (lines_of c.args.input.now)) c.in-Some.line.now (lines_left c.loop-line.line-iterator) (lines_left c.next.new.self) _
          kept.answered c.in-Some.ensures.steps c.in_ok-line.ensures c.in_ok-answer.ensures.text went.found;
    }
