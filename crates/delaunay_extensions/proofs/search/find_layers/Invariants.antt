use Rattle.{delaunay_extensions.specs.IsSearching, delaunay_extensions.specs.Search.work_left}
use Rattle.delaunay_extensions.proofs.search.find_layers.Given as goal

abbrev pub invariant-loop-edge : goal.invariant-loop-edge
invariant-loop-edge g l =
    IsSearching l.dcel (g.M.ConstraintMarker.constraints l.dcel.undirected) l.search.layers.items
    l.search.now.items l.search.later.items l.search.layer

abbrev pub decreases-loop-edge : goal.decreases-loop-edge
decreases-loop-edge g l =
    work_left l.search.layers.items l.search.now.items l.search.later.items
