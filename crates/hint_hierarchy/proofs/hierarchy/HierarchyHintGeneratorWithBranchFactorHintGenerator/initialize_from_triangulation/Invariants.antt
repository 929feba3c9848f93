use Rattle.plane.specs.{IsAtMostOf}
use Rattle.{delaunay_core.specs.Held.places, hint_hierarchy.specs.Layers.IsHeld}
use Rattle.hint_hierarchy.proofs.hierarchy.HierarchyHintGeneratorWithBranchFactorHintGenerator.initialize_from_triangulation.Given as goal

abbrev pub invariant-loop-position : goal.invariant-loop-position
invariant-loop-position g l = IsAtMostOf (IsHeld g.S.SpadeNum.whole l.hierarchy.layers.items)
    (places g.S.SpadeNum.whole l.positions)
