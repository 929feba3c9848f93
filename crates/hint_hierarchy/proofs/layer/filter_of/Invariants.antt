use Rattle.std.proofs.Common.{map}
use Rattle.delaunay_core.specs.{place_of}
use Rattle.{hint_hierarchy.proofs.Filtered.HasBit, hint_hierarchy.proofs.Held.AllBefore}
use Rattle.hint_hierarchy.proofs.layer.filter_of.Given as goal

abbrev pub invariant-loop-index : goal.invariant-loop-index
invariant-loop-index g l =
    AllBefore (HasBit l.filter) l.index (map (place_of g.S.SpadeNum.whole) l.triangulation.vertices)
