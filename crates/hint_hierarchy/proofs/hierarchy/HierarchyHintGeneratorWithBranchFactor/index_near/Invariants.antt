use Rattle.std.proofs.Common.{◌≤◌, length}
use Rattle.hint_hierarchy.proofs.hierarchy.HierarchyHintGeneratorWithBranchFactor.index_near.Given as goal

abbrev pub invariant-loop-level : goal.invariant-loop-level
invariant-loop-level g l = l.level ≤ length l.self.layers.items

abbrev pub decreases-loop-level : goal.decreases-loop-level
decreases-loop-level g l = l.level
