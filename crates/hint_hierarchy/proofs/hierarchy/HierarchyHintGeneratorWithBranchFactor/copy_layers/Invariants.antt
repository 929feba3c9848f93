use Rattle.{hint_hierarchy.specs.Layers.IsHeld, plane.specs.IsAtMost}
use Rattle.hint_hierarchy.proofs.hierarchy.HierarchyHintGeneratorWithBranchFactor.copy_layers.Given as goal

abbrev pub invariant-loop-layer : goal.invariant-loop-layer
invariant-loop-layer g l = IsAtMost (IsHeld g.S.SpadeNum.whole l.self.layers.items)
    (IsHeld g.S.SpadeNum.whole l.copies.items)
