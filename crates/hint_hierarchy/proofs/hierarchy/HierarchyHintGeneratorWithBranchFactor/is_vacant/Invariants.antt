use Rattle.delaunay_core.specs.{place_of}
use Rattle.{hint_hierarchy.proofs.Held.IsVacantBelow, hint_hierarchy.specs.positions}
use Rattle.hint_hierarchy.proofs.hierarchy.HierarchyHintGeneratorWithBranchFactor.is_vacant.Given as goal

abbrev pub invariant-loop-layer : goal.invariant-loop-layer
invariant-loop-layer g l = IsVacantBelow (positions g.S.SpadeNum.whole)
    (place_of g.S.SpadeNum.whole l.position) l.layer-index l.layer-items
