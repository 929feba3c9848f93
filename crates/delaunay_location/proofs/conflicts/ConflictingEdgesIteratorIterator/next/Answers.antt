use Rattle.std.proofs.Common.{arith, rules}
use Rattle.delaunay_location.proofs.ConflictSearch.{found, searching_begins, searching_ends}
use Rattle.delaunay_location.proofs.ConflictSearch.{searching_goes_on}
use Rattle.delaunay_location.proofs.conflicts.ConflictingEdgesIteratorIterator.next.Goals as goal

pub loop-item-init : goal.loop-item-init
loop-item-init g c = searching_begins c.requires

pub returns-in-Some-conflict_in-clause-steps : goal.returns-in-Some-conflict_in-clause-steps
returns-in-Some-conflict_in-clause-steps g c = (
  found c.loop-item.invariant _ _ _ c.in-Some.ensures.steps c.in-Some-conflict_in.ensures.0
      c.in-Some-conflict_in.ensures.1,
  tt,
)

pub returns-in-Some-conflict_in-clause-goes : goal.returns-in-Some-conflict_in-clause-goes
returns-in-Some-conflict_in-clause-goes g c =
    let ready = c.in-Some.ensures.goes.keeps in
    let fewer = (c.in-Some.ensures.goes.on tt).2 in
    record {
      on = λ f. (ready, f, omega (arith, fewer, c.loop-item.invariant.fewer));
      keeps = ready;
      rests = λ f. search rules;
    }

pub loop-item-preserved : goal.loop-item-preserved
loop-item-preserved g c = searching_goes_on c.loop-item.invariant c.in-Some.ensures.steps
    c.in-Some.ensures.goes.keeps (c.in-Some.ensures.goes.on tt).2 c.in_default-conflict_in.ensures

pub returns-clause-steps : goal.returns-clause-steps
returns-clause-steps g c =
    (searching_ends c.loop-item.invariant c.in_default.ensures.steps, search rules)
