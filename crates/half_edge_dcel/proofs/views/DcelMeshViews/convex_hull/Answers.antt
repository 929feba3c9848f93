use Rattle.std.proofs.Common.{sym}
use Rattle.half_edge_dcel.proofs.{Loops.goes_along, Ranges.outer_edge-within}
use Rattle.half_edge_dcel.proofs.views.DcelMeshViews.convex_hull.Goals as goal

pub from-requires : goal.from-requires
from-requires g c = outer_edge-within c.args.self.now _ c.links.ensures.whole
    (rw c.links.ensures.mesh at (sym c.outer_edge.ensures.value))

pub invariant_of-result : goal.invariant_of-result
invariant_of-result g c =
    let named = rw c.links.ensures.mesh at (sym c.outer_edge.ensures.value) in
    let made = c.from.ensures in
    record {
      ending = (goes_along c.from.result c.args.self c.links.ensures.whole made.dcel _ named
          made.none made.some).0;
    }

pub returns : goal.returns
returns g c =
    let named = rw c.links.ensures.mesh at (sym c.outer_edge.ensures.value) in
    let made = c.from.ensures in
    (goes_along c.from.result c.args.self c.links.ensures.whole made.dcel _ named made.none
    made.some).1
