use Rattle.std.proofs.Common.{◌≡◌, ◌≤◌, ◌+◌, length, vec_capacity}
use Rattle.std.specs.Prelude.{Contains}
use Rattle.std.specs.Vec.Iter.{into_iter_items}
use Rattle.{delaunay_edit.specs.AreSites, delaunay_edit.specs.IsDelaunay, plane.specs.InRange}
use Rattle.{delaunay_journal.proofs.Runs.IsReplayed, delaunay_journal.specs.Insert}
use Rattle.delaunay_journal.proofs.replaying.replay.Given as goal

abbrev pub invariant-loop-edit : goal.invariant-loop-edit
invariant-loop-edit g l =
    (goal.iterator-loop-edit g).can_next l.edit-iterator
    × (goal.iterator-loop-edit g).is_finite l.edit-iterator
    × IsReplayed g.T.Vertex.HasPosition.place g.T.Constraints.ConstraintMarker.constraints
    g.T.Replayable.marking
    l.fn.edits.items (into_iter_items l.edit-iterator)
    l.outcomes.items (g.T.Triangulation.state l.fn.points) (g.T.Triangulation.state l.points)
    × (length l.outcomes.items + length (into_iter_items l.edit-iterator) ≡ length l.fn.edits.items)
    × (length l.fn.edits.items ≤ vec_capacity l.outcomes)
    × ((v : _) → Contains (into_iter_items l.edit-iterator) (Insert v)
    → InRange (g.T.Vertex.HasPosition.place v) →
    g.P.PlaneTests.sites l.tests (g.T.Vertex.HasPosition.place v))
    × AreSites g.T.Vertex.HasPosition.place (g.P.PlaneTests.sites l.tests)
    (g.T.Triangulation.state l.points).vertices
    × IsDelaunay g.T.Vertex.HasPosition.place g.T.Constraints.ConstraintMarker.constraints
    (g.T.Triangulation.state l.points)
