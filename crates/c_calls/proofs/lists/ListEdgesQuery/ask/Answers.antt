use Rattle.std.proofs.Common.{refl, arith}
use Rattle.c_calls.specs.{listed}
use Rattle.c_calls.proofs.Writing.{all_answered, none_answered, one_more}
use Rattle.c_calls.proofs.lists.ListEdgesQuery.ask.Goals as goal

pub loop-index-init : goal.loop-index-init
loop-index-init g c = none_answered _ c.args.edges.now

pub loop-index-preserved : goal.loop-index-preserved
loop-index-preserved g c =
    let room = c.loop-index.auto.edges in
    one_more _ c.loop-index.index c.args.edges.now c.loop-index.edges c.edge_at.result
    (omega (arith, room)) c.loop-index.invariant c.edge_at.ensures

pub returns : goal.returns
returns g c = listed refl c.num_undirected_edges-count.ensures.value
    (all_answered _ c.loop-index.index _ c.args.edges.now c.loop-index.edges (omega arith)
    c.loop-index.invariant)
