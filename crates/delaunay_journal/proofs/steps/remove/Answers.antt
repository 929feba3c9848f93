use Rattle.std.proofs.Common.{refl, arith}
use Rattle.delaunay_edit.proofs.Removing.{sites_left}
use Rattle.delaunay_journal.proofs.SingleEdits.{removed_so}
use Rattle.delaunay_journal.proofs.steps.remove.Goals as goal

pub returns-then-index-num_vertices-clause-gives : goal.returns-then-index-num_vertices-clause-gives
returns-then-index-num_vertices-clause-gives g c =
    let past = c.if-index-num_vertices.true in
    (omega (arith, past, c.index.ensures, c.num_vertices.ensures.value), refl)

pub returns-in-Ok-clause-gives : goal.returns-in-Ok-clause-gives
returns-in-Ok-clause-gives g c = removed_so c.in-Ok.ensures.removes

pub returns-in-Ok-clause-sites : goal.returns-in-Ok-clause-sites
returns-in-Ok-clause-sites g c = λ _.
    sites_left g.T.Vertex.HasPosition.place g.T.Constraints.ConstraintMarker.constraints
    (g.T.Triangulation.state c.args.points.now) (g.T.Triangulation.state c.remove.new.self)
    c.args.vertex c.in-Ok.value c.in-Ok.ensures.removes.plain
    (g.P.PlaneTests.sites c.args.tests.now) (c.requires.sites c.recall_invariant.ensures.in_range)

pub returns-in-Err-clause-gives : goal.returns-in-Err-clause-gives
returns-in-Err-clause-gives g c = (
  omega (arith, c.if-index-num_vertices.false, c.index.ensures, c.num_vertices.ensures.value),
  c.in-Err.ensures.removes.err,
)
