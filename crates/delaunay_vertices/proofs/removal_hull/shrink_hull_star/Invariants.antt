use Rattle.{delaunay_vertices.proofs.HullShrinking.IsHullShrinking, half_edge_links.specs.origin}
use Rattle.delaunay_vertices.proofs.removal_hull.shrink_hull_star.Given as goal

abbrev pub invariant-loop-edge : goal.invariant-loop-edge
invariant-loop-edge g l = IsHullShrinking g.V.HasPosition.place l.fn.dcel l.dcel
    (origin l.fn.dcel.mesh l.fn.first) l.fn.first l.from l.count l.turned

abbrev pub decreases-loop-edge : goal.decreases-loop-edge
decreases-loop-edge g l = l.count
