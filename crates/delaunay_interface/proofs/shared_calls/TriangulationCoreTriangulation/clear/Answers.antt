use Rattle.std.proofs.Common.{ap}
use Rattle.delaunay_edit.specs.{IsCounted}
use Rattle.delaunay_edit.proofs.Delaunay.{counted_empty, none_without_edges}
use Rattle.{delaunay_edit.proofs.WellFormed.is_delaunay, delaunay_legalization.specs.state_of}
use Rattle.delaunay_interface.proofs.shared_calls.TriangulationCoreTriangulation.clear.Given.{Over}
use Rattle.delaunay_interface.proofs.shared_calls.TriangulationCoreTriangulation.clear.Goals as goal
use Rattle.delaunay_interface.proofs.shared_calls.TriangulationCoreTriangulation.clear.Goals.{After-clear}

-- there is no constraint
counted : (g : Over) (c : After-clear g) → IsCounted g.V.HasPosition.place
    g.M.ConstraintMarker.constraints (state_of c.clear.new.self) 0
counted g c =
    let now = c.clear.ensures.contents in
    counted_empty _ _ _ g.met.M.ConstraintMarker.constraints_are_marked c.clear.new.self
    (ap (λ d. d.mesh) now) (ap (λ d. d.vertices) now) (ap (λ d. d.directed) now)
    (ap (λ d. d.undirected) now) (ap (λ d. d.faces) now)

pub invariant_of-self : goal.invariant_of-self
invariant_of-self g c =
    (counted g (goal.at.invariant_of-self g c).After-clear, λ p h. absurd (c.new.ensures p h))

pub returns-clause-plain : goal.returns-clause-plain
returns-clause-plain g c = record {
  vertices = ap (λ d. d.vertices) c.clear.ensures.contents;
  constraints = none_without_edges _ _ g.met.M.ConstraintMarker.constraints_are_marked
      (state_of c.clear.new.self) (ap (λ d. d.undirected) c.clear.ensures.contents);
}

pub returns-clause-headline : goal.returns-clause-headline
returns-clause-headline g c =
    is_delaunay _ _ _ g.met.M.ConstraintMarker.constraints_are_marked _
    (counted g (goal.at.returns-clause-headline g c).After-clear).legal
