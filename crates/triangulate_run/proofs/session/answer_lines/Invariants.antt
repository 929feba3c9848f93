use Rattle.std.proofs.Common.{◌≡◌}
use Rattle.triangulate_run.specs.{Engine.IsEngineReady, stage_of, Watched.reads_left_of}
use Rattle.triangulate_run.proofs.RunLemmas.{IsRunning}
use Rattle.triangulate_run.proofs.session.answer_lines.Given as goal

abbrev pub invariant-loop-line : goal.invariant-loop-line
invariant-loop-line g l = record {
  ready : IsEngineReady g.P.PlaneTests.covered g.P.PlaneTests.sites l.engine;
  points : l.engine.points ≡ l.fn.engine.points;
  running : IsRunning l.fn.engine.points.now g.R.Read.remaining g.W.Write.contents l.fn.reader
      l.reader l.fn.writer l.writer l.line.items (stage_of l.engine.triangulation);
}

abbrev pub decreases-loop-line : goal.decreases-loop-line
decreases-loop-line g l = reads_left_of l.reader
