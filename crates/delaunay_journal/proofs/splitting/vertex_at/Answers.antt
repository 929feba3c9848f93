use Rattle.std.proofs.Common.{map, subst}
use Rattle.plane.specs.{Point}
use Rattle.delaunay_journal.proofs.Outcomes.{inserted_splits, unchanged}
use Rattle.{delaunay_journal.proofs.SplitSteps.splits_none, delaunay_legalization.specs.IsKnown}
use Rattle.delaunay_journal.proofs.splitting.vertex_at.Goals as goal

pub returns-in-Err-clause-splits : goal.returns-in-Err-clause-splits
returns-in-Err-clause-splits g c =
    λ segments. splits_none g.T.Vertex.HasPosition.place _ _ segments

pub returns-in-Some-clause-splits : goal.returns-in-Some-clause-splits
returns-in-Some-clause-splits g c =
    λ segments. splits_none g.T.Vertex.HasPosition.place _ _ segments

pub returns-in-Ok-clause-splits : goal.returns-in-Ok-clause-splits
returns-in-Ok-clause-splits g c =
    let place = g.T.Vertex.HasPosition.place in
    inserted_splits place g.T.Constraints.ConstraintMarker.constraints _ _ _ _ _
    (subst (λ (p : Point). ¬ IsKnown (map place (g.T.Triangulation.state c.args.site.now).vertices)
    p) c.position.ensures c.in_default-locate_vertex.ensures)
    c.in-Ok.ensures.inserts (c.args.position, c.make_vertex-vertex.ensures)

pub returns-in-Err-insert-clause-splits : goal.returns-in-Err-insert-clause-splits
returns-in-Err-insert-clause-splits g c =
    λ segments. unchanged g.T.Vertex.HasPosition.place
    g.T.Constraints.ConstraintMarker.constraints _ _ _ segments c.in-Err-insert.ensures.inserts.err
