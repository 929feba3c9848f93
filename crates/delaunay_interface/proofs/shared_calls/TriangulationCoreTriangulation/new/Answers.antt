use Rattle.delaunay_edit.proofs.{Delaunay.counted_empty, WellFormed.is_delaunay}
use Rattle.delaunay_interface.proofs.shared_calls.TriangulationCoreTriangulation.new.Goals as goal

pub invariant_of-result : goal.invariant_of-result
invariant_of-result g c =
    let e = c.new.ensures in (
      counted_empty _ _ _ g.met.M.ConstraintMarker.constraints_are_marked c.new.result e.mesh
          e.vertices e.directed e.undirected e.faces,
      λ p h. absurd (c.new-5.ensures p h),
    )

pub returns-clause-headline : goal.returns-clause-headline
returns-clause-headline g c =
    let e = c.new.ensures in
    let marked = g.met.M.ConstraintMarker.constraints_are_marked in
    is_delaunay _ _ _ marked _ (counted_empty _ _ _ marked c.new.result e.mesh e.vertices
    e.directed e.undirected e.faces).legal
