use Rattle.hint_hierarchy.specs.{positions}
use Rattle.hint_hierarchy.proofs.Held.{sites_at, vacant_if_all, vacant_one_more}
use Rattle.hint_hierarchy.proofs.hierarchy.HierarchyHintGeneratorWithBranchFactor.is_vacant.Goals as goal

pub is_vacant-requires-clause-sites : goal.is_vacant-requires-clause-sites
is_vacant-requires-clause-sites g c =
    let read = c.deref-layer-items.ensures.value in
    sites_at _ (rw read at c.layer-item.is) (rw read at c.loop-layer-test.true) c.requires.held

pub loop-layer-preserved : goal.loop-layer-preserved
loop-layer-preserved g c = vacant_one_more (positions g.S.SpadeNum.whole) _ _ c.layer-item.is
    c.loop-layer-test.true (c.is_vacant.ensures c.if-not-is_vacant.false) c.loop-layer.invariant

pub loop-layer-preserved-then-not-may_have : goal.loop-layer-preserved-then-not-may_have
loop-layer-preserved-then-not-may_have g c =
    vacant_one_more (positions g.S.SpadeNum.whole) _ _ c.layer-item.is c.loop-layer-test.true
    (c.may_have.ensures c.if-not-may_have.true) c.loop-layer.invariant

pub returns : goal.returns
returns g c = λ _. vacant_if_all _ c.deref-layer-items.ensures.value c.loop-layer-test.false
    c.loop-layer.invariant
