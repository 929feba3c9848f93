use Rattle.std.proofs.Common.{arith}
use Rattle.half_edge_dcel.proofs.HoleFilled.{hole_filled_by}
use Rattle.half_edge_dcel.proofs.TurnedEdge.{turned_can, turned_next, turned_none, turned_wheel}
use Rattle.half_edge_dcel.proofs.dcel.Dcel.fill_hole.Goals as goal

pub loop-init : goal.loop-init
loop-init g c = turned_none c.recall_invariant.ensures.whole c.requires.hub c.requires.tip

pub turn_away-requires : goal.turn_away-requires
turn_away-requires g c = turned_can c.loop.invariant (omega arith)

pub loop-preserved : goal.loop-preserved
loop-preserved g c = turned_next c.loop.invariant (omega arith) c.turn_away.ensures (omega arith)

pub collapse-requires : goal.collapse-requires
collapse-requires g c =
    let last = c.loop.auto.counter-end c.requires.many in
    turned_wheel c.loop.invariant (omega (arith, last))

pub returns : goal.returns
returns g c =
    let last = c.loop.auto.counter-end c.requires.many in
    let collapse = c.collapse.ensures in
    record {
      fan = hole_filled_by (omega (arith, last)) collapse.whole c.loop.invariant collapse.fills;
      whole = collapse.whole;
    }
