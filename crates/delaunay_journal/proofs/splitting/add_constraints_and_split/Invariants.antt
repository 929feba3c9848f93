use Rattle.delaunay_journal.specs.Splits.{IsSplitting}
use Rattle.delaunay_journal.proofs.splitting.add_constraints_and_split.Given as goal

abbrev pub invariant-loop : goal.invariant-loop
invariant-loop g l = IsSplitting g.T.Vertex.HasPosition.place
    g.T.Constraints.ConstraintMarker.constraints (λ v. (p : _) × g.C.Fn.post l.make_vertex (p, tt) v)
    (g.T.Triangulation.state l.fn.site) (g.T.Triangulation.state l.site) l.fn.segments.items
    l.segments.items
