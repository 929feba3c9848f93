use Rattle.std.proofs.Common.{arith}
use Rattle.delaunay_journal.specs.{Insert}
use Rattle.delaunay_journal.proofs.Runs.{comes_later, comes_now, counts_on, ends, one_more, runs}
use Rattle.delaunay_journal.proofs.replaying.replay.Goals as goal

pub make_edit-requires-clause-new_site : goal.make_edit-requires-clause-new_site
make_edit-requires-clause-new_site g c =
    λ v is. c.loop-edit.invariant.5 v (comes_now c.in-Some.ensures.steps.0 (Insert v) is)

pub loop-edit-preserved : goal.loop-edit-preserved
loop-edit-preserved g c = (
  tt,
  tt,
  rw c.push_reserved.ensures.items
      (one_more _ _ _ c.make_edit.result c.loop-edit.invariant.2 c.in-Some.ensures.steps.0
      c.make_edit.ensures.gives),
  counts_on c.in-Some.ensures.steps.0 _ c.make_edit.result c.push_reserved.ensures.items
      c.loop-edit.invariant.3,
  rw c.push_reserved.ensures.capacity c.loop-edit.invariant.4,
  (λ v later. c.loop-edit.invariant.5 v
      (comes_later c.in-Some.ensures.steps.0 (Insert v) later)),
  c.make_edit.ensures.sites,
  c.make_edit.ensures.headline,
)

pub returns-clause-answers : goal.returns-clause-answers
returns-clause-answers g c = ends _ _ _ c.loop-edit.invariant.2
    (omega (arith, c.in-None.ensures.steps, c.loop-edit.edit-iterator.rest.ok))

pub returns-clause-runs : goal.returns-clause-runs
returns-clause-runs g c = runs _ _ _ _ _ _ _ (ends _ _ _ c.loop-edit.invariant.2
    (omega (arith, c.in-None.ensures.steps, c.loop-edit.edit-iterator.rest.ok)))
