use Rattle.std.proofs.Common.{◌≡◌, length}
use Rattle.half_edge_links.specs.{face, rev}
use Rattle.delaunay_vertices.proofs.Searching.{IsSearching}
use Rattle.delaunay_vertices.proofs.removal_hull.outer_edge_beside.Given as goal

abbrev pub invariant-loop-i : goal.invariant-loop-i
invariant-loop-i g l = IsSearching (λ h. face l.dcel.mesh (rev h) ≡ 0)
    (length l.dcel.directed) l.dcel.mesh l.fn.first l.i l.edge
