use Rattle.std.proofs.Common.{arith}
use Rattle.half_edge_dcel.proofs.StripSteps.{strip_lost, stripped_next, stripped_none}
use Rattle.half_edge_dcel.proofs.StripSteps.{stripped_peelable, stripped_removable}
use Rattle.half_edge_dcel.proofs.dcel.Dcel.disconnect.Goals as goal

pub loop-init : goal.loop-init
loop-init g c = stripped_none c.recall_invariant.ensures.whole c.requires

pub peel-h-requires : goal.peel-h-requires
peel-h-requires g c = stripped_peelable c.loop.invariant (omega arith)

pub loop-preserved : goal.loop-preserved
loop-preserved g c = stripped_next c.loop.invariant (omega arith) c.peel-h.ensures (omega arith)

pub remove_edge-requires : goal.remove_edge-requires
remove_edge-requires g c = stripped_removable c.loop.invariant (omega arith)

pub returns : goal.returns
returns g c = record {
  strip = strip_lost c.loop.invariant (omega arith) c.remove_edge.ensures;
  whole = c.remove_edge.ensures.whole;
}
