use Rattle.delaunay_edit.proofs.JoinedPairs.{edge_tells, index_found, none_tells}
use Rattle.delaunay_edit.proofs.joined.is_constraint_between.Goals as goal

pub returns-in-Some : goal.returns-in-Some
returns-in-Some g c =
    edge_tells _ _ _ g.met.M.ConstraintMarker.constraints_are_marked c.args.dcel.now c.requires.kept
    (index_found c.in-Some.ensures.some c.fix.ensures.value c.fix.ensures.in_range)
    (rw c.as_undirected.ensures at c.is_constraint_edge.ensures)

pub returns-in-None : goal.returns-in-None
returns-in-None g c =
    none_tells _ _ _ g.met.M.ConstraintMarker.constraints_are_marked c.args.dcel.now c.requires.kept
    c.in-None.ensures.none
