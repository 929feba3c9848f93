use Rattle.hint_hierarchy.specs.{positions}
use Rattle.hint_hierarchy.proofs.Held.{held_at, pushed_within}
use Rattle.hint_hierarchy.proofs.hierarchy.HierarchyHintGeneratorWithBranchFactor.copy_layers.Goals as goal

pub loop-layer-preserved : goal.loop-layer-preserved
loop-layer-preserved g c =
    let read = c.deref-layer-items.ensures.value in
    let held = held_at {positions_of = positions g.S.SpadeNum.whole}
    {layers = c.args.self.now.layers.items} _ (rw read at c.layer-item.is)
    (rw read at c.loop-layer-test.true) in
    pushed_within _ _ c.push.ensures.items c.loop-layer.invariant
    (rw (← c.in_ok-try_clone.ensures) at held)
