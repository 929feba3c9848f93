use Rattle.std.proofs.Common.{ap}
use Rattle.delaunay_legalization.specs.{points_and_constraints_by}
use Rattle.delaunay_journal.proofs.Outcomes.{led, rests, then_unchanged, with_list}
use Rattle.delaunay_journal.proofs.splitting.split.Goals as goal

pub returns-then-is_err-clause-splits : goal.returns-then-is_err-clause-splits
returns-then-is_err-clause-splits g c =
    rests g.T.Vertex.HasPosition.place _ _ _ _ c.reserve.ensures.items

pub returns-in_default-clause-splits : goal.returns-in_default-clause-splits
returns-in_default-clause-splits g c =
    rests g.T.Vertex.HasPosition.place _ _ _ _ c.reserve.ensures.items

pub returns-in_default-crossing_of-clause-splits :
    goal.returns-in_default-crossing_of-clause-splits
returns-in_default-crossing_of-clause-splits g c =
    rests g.T.Vertex.HasPosition.place _ _ _ _ c.reserve.ensures.items

pub returns-in_err-vertex-clause-splits : goal.returns-in_err-vertex-clause-splits
returns-in_err-vertex-clause-splits g c =
    with_list _ _ _ _ _ c.reserve.ensures.items (c.vertex_at.ensures.splits _)

pub returns-in_err-released-clause-splits : goal.returns-in_err-released-clause-splits
returns-in_err-released-clause-splits g c = then_unchanged _ _ _ _ _ _
    (ap (points_and_constraints_by g.T.Constraints.ConstraintMarker.constraints)
    c.in_err-released.ensures.err) c.reserve.ensures.items (c.vertex_at.ensures.splits _)

pub returns-clause-splits : goal.returns-clause-splits
returns-clause-splits g c =
    led g.T.Vertex.HasPosition.place _ _ _ _ _ c.in_ok-released.released c.requires.last.0 _ _ _
    c.args.segment c.requires.last.1 c.reserve.ensures.items (c.vertex_at.ensures.splits _)
    c.in_ok-released.ensures.frees c.lead_by.ensures
