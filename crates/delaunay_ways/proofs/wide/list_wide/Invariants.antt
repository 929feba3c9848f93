use Rattle.std.proofs.Common.{◌≡◌, ◌<◌, length}
use Rattle.delaunay_legalization.specs.{state_of, triangulation_of}
use Rattle.delaunay_ways.proofs.Heights.{AreWideSoFar}
use Rattle.delaunay_ways.proofs.wide.list_wide.Given as goal

abbrev pub invariant-loop-index : goal.invariant-loop-index
invariant-loop-index g l =
    AreWideSoFar (triangulation_of g.V.HasPosition.place (state_of l.dcel))
    (g.G.FreeFaces.free l.free) l.fn.width_2 l.wide.items × (length l.wide.items ≡ l.index)
    × (0 < l.index)
