use Rattle.std.specs.Prelude.{◌≡◌, Some}
use Rattle.delaunay_core.specs.{place_if}
use Rattle.{hint_hierarchy.proofs.Held.IsChanged, hint_hierarchy.specs.positions}
use Rattle.hint_hierarchy.proofs.hierarchy.HierarchyHintGeneratorWithBranchFactor.remove_upwards.Given as goal

abbrev pub invariant-loop-level : goal.invariant-loop-level
invariant-loop-level g l = IsChanged (positions g.S.SpadeNum.whole)
    (λ p. place_if g.S.SpadeNum.whole l.swapped_in ≡ Some p) l.fn.self.layers.items
    l.self.layers.items l.level-end
