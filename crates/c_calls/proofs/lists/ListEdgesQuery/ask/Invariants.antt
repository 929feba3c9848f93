use Rattle.delaunay_legalization.specs.{constraints_by, triangulation_of}
use Rattle.c_calls.specs.{Answered, kept_place, Queries.IsEdgeEntry}
use Rattle.c_calls.proofs.lists.ListEdgesQuery.ask.Given as goal

abbrev pub invariant-loop-index : goal.invariant-loop-index
invariant-loop-index g l = let s = g.T.Triangulation.state l.points in
    Answered (IsEdgeEntry (triangulation_of kept_place s)
    (constraints_by g.T.Constraints.ConstraintMarker.constraints s)) l.index l.fn.edges l.edges
