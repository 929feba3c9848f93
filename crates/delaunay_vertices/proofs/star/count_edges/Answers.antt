use Rattle.std.proofs.Common.{sym, ◌∙◌, arith}
use Rattle.delaunay_vertices.proofs.Rounds.{counted, counting_fits, counting_goes_on}
use Rattle.delaunay_vertices.proofs.star.count_edges.Goals as goal

pub overflow_add-count : goal.overflow_add-count
overflow_add-count g c =
    let few = counting_fits c.loop-first.invariant c.index.ensures c.index-in-loop-first.ensures
    c.loop-first-test.true in
    let small = c.recall_invariant.ensures.few_edges in
    let fit = c.loop-first.invariant.fit in
    omega (arith, few, small, fit)

pub loop-first-smaller : goal.loop-first-smaller
loop-first-smaller g c =
    let few = counting_fits c.loop-first.invariant c.index.ensures c.index-in-loop-first.ensures
    c.loop-first-test.true in
    omega (arith, few)

pub loop-first-preserved : goal.loop-first-preserved
loop-first-preserved g c =
    let after = c.ccw_edge-edge-in-loop-first.ensures in
    counting_goes_on c.loop-first.invariant c.index.ensures c.index-in-loop-first.ensures
    c.loop-first-test.true after.within after.value

pub returns : goal.returns
returns g c = counted c.loop-first.invariant
    (sym c.index.ensures ∙ c.loop-first-test.false ∙ c.index-in-loop-first.ensures)
