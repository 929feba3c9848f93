use Rattle.half_edge_dcel.proofs.LineSteps.{left_hangs, left_removable, middle_left}
use Rattle.half_edge_dcel.proofs.dcel.Dcel.join_neighbours.Goals as goal

pub remove_edge-requires : goal.remove_edge-requires
remove_edge-requires g c = left_removable c.requires c.pass_vertex-lost.ensures

pub returns : goal.returns
returns g c =
    let passes = c.pass_vertex-lost.ensures in
    let removes = c.remove_edge.ensures in
    record {
      leaves = middle_left c.requires passes removes;
      outline = λ one. removes.outline (left_hangs c.requires passes) (passes.outline one);
      whole = removes.whole;
    }
