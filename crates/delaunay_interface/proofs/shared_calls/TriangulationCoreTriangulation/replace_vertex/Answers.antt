use Rattle.std.proofs.Common.{ap}
use Rattle.delaunay_edit.proofs.{Delaunay.counted_overwritten, Overwriting.overwriting_replaces}
use Rattle.{delaunay_edit.proofs.WellFormed.is_delaunay, delaunay_edit.specs.IsCounted}
use Rattle.{delaunay_interface.proofs.Held.held_overwritten, delaunay_legalization.specs.state_of}
use Rattle.delaunay_interface.proofs.shared_calls.TriangulationCoreTriangulation.replace_vertex.Given.{Over}
use Rattle.delaunay_interface.proofs.shared_calls.TriangulationCoreTriangulation.replace_vertex.Goals as goal
use Rattle.delaunay_interface.proofs.shared_calls.TriangulationCoreTriangulation.replace_vertex.Goals.{After-update_vertex}

-- there are as many constraints
counted : (g : Over) (c : After-update_vertex g) → IsCounted g.V.HasPosition.place
    g.M.ConstraintMarker.constraints (state_of c.update_vertex.new.self)
    c.self.inside.num_constraints
counted g c =
    counted_overwritten _ _ c.self.inside.dcel _ c.args.vertex c.args.value _ c.self.invariant.0
    (rw (← c.self.view_is) at c.requires.within) (rw (← c.self.view_is) at c.requires.same)
    c.update_vertex.ensures.contents

pub invariant_of-self : goal.invariant_of-self
invariant_of-self g c = (
  counted g (goal.at.invariant_of-self g c).After-update_vertex,
  held_overwritten g.V.HasPosition.place (g.L.HintGenerator.holds c.self.inside.hint_generator)
      (state_of c.self.inside.dcel) (state_of c.update_vertex.new.self) c.args.vertex c.args.value
      (rw (← c.self.view_is) at c.requires.same) (ap state_of c.update_vertex.ensures.contents)
      c.self.invariant.1,
)

pub returns-clause-new : goal.returns-clause-new
returns-clause-new g c = rw (← c.self.view_is) (ap state_of c.update_vertex.ensures.contents)

pub returns-clause-plain : goal.returns-clause-plain
returns-clause-plain g c =
    overwriting_replaces g.V.HasPosition.place g.M.ConstraintMarker.constraints c.args.self.now _
    c.args.vertex c.args.value c.requires.within c.requires.same (returns-clause-new g c)

pub returns-clause-headline : goal.returns-clause-headline
returns-clause-headline g c =
    is_delaunay _ _ _ g.met.M.ConstraintMarker.constraints_are_marked _
    (counted g (goal.at.returns-clause-headline g c).After-update_vertex).legal
