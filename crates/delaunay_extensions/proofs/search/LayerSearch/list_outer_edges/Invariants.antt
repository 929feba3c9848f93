use Rattle.{delaunay_extensions.proofs.Searching.IsOuterBelow, delaunay_extensions.specs.PutsIn}
use Rattle.delaunay_extensions.proofs.search.LayerSearch.list_outer_edges.Given as goal

abbrev pub invariant-loop-index : goal.invariant-loop-index
invariant-loop-index g l =
    let constraints = g.M.ConstraintMarker.constraints l.dcel.undirected in
    PutsIn constraints (IsOuterBelow l.dcel.mesh l.index) l.fn.self l.self
