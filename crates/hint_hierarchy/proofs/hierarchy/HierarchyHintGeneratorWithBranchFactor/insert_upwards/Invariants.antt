use Rattle.std.proofs.Common.{◌≡◌}
use Rattle.delaunay_core.specs.{place_of}
use Rattle.{hint_hierarchy.proofs.Held.IsChanged, hint_hierarchy.specs.positions}
use Rattle.hint_hierarchy.proofs.hierarchy.HierarchyHintGeneratorWithBranchFactor.insert_upwards.Given as goal

abbrev pub invariant-loop-level : goal.invariant-loop-level
invariant-loop-level g l = IsChanged (positions g.S.SpadeNum.whole)
    (λ p. p ≡ place_of g.S.SpadeNum.whole l.position) l.fn.self.layers.items l.self.layers.items
    l.level-end
