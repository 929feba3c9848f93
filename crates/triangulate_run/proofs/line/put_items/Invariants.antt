use Rattle.std.proofs.Common.{◌≡◌, false}
use Rattle.{delaunay_location.specs.IsReady, triangulate_run.proofs.Walks.PutsEach}
use Rattle.triangulate_run.specs.{has_failed, inner_of, position}
use Rattle.triangulate_run.proofs.line.put_items.Given as goal

abbrev pub invariant-loop-item : goal.invariant-loop-item
invariant-loop-item g l = record {
  ready : IsReady position (λ z. z) g.P.PlaneTests.sites g.P.PlaneTests.covered l.line;
  so_far : PutsEach position (λ z. z) (g.W.Write.contents (inner_of l.fn.writer))
      (g.W.Write.contents (inner_of l.writer)) l.fn.held.items l.held.items l.fn.line l.line;
  works : has_failed l.writer ≡ false;
}

abbrev pub decreases-loop-item : goal.decreases-loop-item
decreases-loop-item g l = l.line.left
