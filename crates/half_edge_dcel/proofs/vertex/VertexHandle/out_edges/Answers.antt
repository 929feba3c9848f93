use Rattle.std.proofs.Common.{sym}
use Rattle.half_edge_dcel.proofs.{Loops.goes_round, Ranges.out_edge-within}
use Rattle.half_edge_dcel.proofs.vertex.VertexHandle.out_edges.Goals as goal

pub from-requires : goal.from-requires
from-requires g c = out_edge-within c.args.self.now.dcel.now c.args.self.now.index _
    c.links.ensures.whole (rw c.links.ensures.mesh at (sym c.out_edge.ensures.value))

pub invariant_of-result : goal.invariant_of-result
invariant_of-result g c =
    let named = rw c.links.ensures.mesh at (sym c.out_edge.ensures.value) in
    let made = c.from.ensures in
    record {
      ending = (goes_round c.from.result c.args.self.now.dcel c.links.ensures.whole made.dcel
          c.args.self.now.index _ named made.none made.some).0;
    }

pub returns-clause-round : goal.returns-clause-round
returns-clause-round g c =
    let named = rw c.links.ensures.mesh at (sym c.out_edge.ensures.value) in
    let made = c.from.ensures in
    (goes_round c.from.result c.args.self.now.dcel c.links.ensures.whole made.dcel _ _ named
    made.none made.some).1
