use Rattle.std.proofs.Common.{◌∙◌, refl, arith}
use Rattle.delaunay_legalization.proofs.{both_ways}
use Rattle.delaunay_journal.proofs.SingleEdits.{edge_joined_by, joined_by_edge, pair_joined}
use Rattle.delaunay_journal.proofs.SingleEdits.{pair_released, unjoined_is_free}
use Rattle.delaunay_journal.proofs.replayable.ConstrainedDelaunayTriangulationReplayable.change_pair.Goals as goal

pub returns-in-Ok-Some-clause-gives : goal.returns-in-Ok-Some-clause-gives
returns-in-Ok-Some-clause-gives g c =
    let told = rw c.in-Ok-Some.field-0-is at c.in-Ok-Some.ensures in
    rw c.in-Join.is (pair_joined told.adds)

pub returns-in-Ok-None-clause-gives : goal.returns-in-Ok-None-clause-gives
returns-in-Ok-None-clause-gives g c =
    let told = rw c.in-Ok-None.field-0-is at c.in-Ok-None.ensures in
    let from = c.index.ensures in
    let to = c.index-else-index-count.ensures in
    let count = c.num_vertices-count.ensures.value in
    let first = c.if-index-count.false in
    let second = c.if-index-count-2.false in
    rw c.in-Join.is (
      (
        (refl, omega (arith, first, from, count), omega (arith, second, to, count)),
        told.adds.0,
      ),
      told.adds.1,
    )

pub returns-in-Err-clause-gives : goal.returns-in-Err-clause-gives
returns-in-Err-clause-gives g c =
    rw c.in-Join.is ((refl, c.in-Err.ensures.adds.0), c.in-Err.ensures.adds.1)

pub returns-then-index-count-3-clause-gives : goal.returns-then-index-count-3-clause-gives
returns-then-index-count-3-clause-gives g c =
    let past = c.if-index-count-3.true in
    let index = c.index-in-Release.ensures in
    let count = c.num_vertices-count.ensures.value in
    let pairs = c.recall_invariant.ensures.plain.pairs c.in-Release.from c.in-Release.to in
    rw c.in-Release.is
    ((refl, (λ j. let below = (pairs j).0 in omega (arith, below, past, index, count))), refl)

pub returns-in_default-clause-gives : goal.returns-in_default-clause-gives
returns-in_default-clause-gives g c =
    let free = unjoined_is_free _ _ c.recall_invariant.ensures.kept c.in_default.ensures in
    rw c.in-Release.is ((refl, free), refl)

pub returns-then-not-is_constraint_edge-clause-gives :
    goal.returns-then-not-is_constraint_edge-clause-gives
returns-then-not-is_constraint_edge-clause-gives g c =
    let joined = edge_joined_by c.args.self.now c.in-Some.edge.index (c.fix-edge.ensures.value
    ∙ c.as_undirected.ensures.index) c.in-Some.ensures.1 c.in-Some.ensures.2 in
    let marked = c.is_constraint_edge.ensures.joined.1 in rw c.in-Release.is
    ((refl, (λ j. both_ways _ (marked (joined j)) c.if-not-is_constraint_edge.true)), refl)

pub returns-in-Ok-clause-gives : goal.returns-in-Ok-clause-gives
returns-in-Ok-clause-gives g c =
    let marked = c.is_constraint_edge.ensures.marked.0 c.if-not-is_constraint_edge.false in
    let released = c.in-Ok.ensures.releases in
    rw c.in-Release.is (pair_released c.args.self.now c.in-Some.edge.index (c.fix-edge.ensures.value
    ∙ c.as_undirected.ensures.index) c.in-Some.ensures.1 c.in-Some.ensures.2
    (released.plain marked) (released.«data» marked))

pub returns-in-Err-remove_constraint_edge-clause-gives :
    goal.returns-in-Err-remove_constraint_edge-clause-gives
returns-in-Err-remove_constraint_edge-clause-gives g c =
    let there = joined_by_edge c.args.self.now c.in-Some.edge.index (c.fix-edge.ensures.value
    ∙ c.as_undirected.ensures.index) c.in-Some.ensures.1 c.in-Some.ensures.2
    (c.is_constraint_edge.ensures.joined.0 c.if-not-is_constraint_edge.false) in
    rw c.in-Release.is ((refl, there), c.in-Err-remove_constraint_edge.ensures.releases.err)
