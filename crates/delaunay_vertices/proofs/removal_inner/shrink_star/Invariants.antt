use Rattle.{delaunay_vertices.proofs.Shrinking.IsShrinking, half_edge_links.specs.origin}
use Rattle.delaunay_vertices.proofs.removal_inner.shrink_star.Given as goal

abbrev pub invariant-loop-count : goal.invariant-loop-count
invariant-loop-count g l = IsShrinking g.V.HasPosition.place l.fn.dcel l.dcel
    (origin l.fn.dcel.mesh l.fn.first) l.first l.count l.turned

abbrev pub decreases-loop-count : goal.decreases-loop-count
decreases-loop-count g l = l.count
