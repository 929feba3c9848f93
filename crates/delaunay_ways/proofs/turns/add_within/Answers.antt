use Rattle.std.proofs.Common.{◌<◌, length, subst, sym}
use Rattle.std.specs.Prelude.{All}
use Rattle.delaunay_ways.proofs.turns.add_within.Goals as goal
use goal.{else-is_within, then-is_within+in_ok-add}

pub loop-spoke-preserved : goal.loop-spoke-preserved
loop-spoke-preserved g c = elim c.if-is_within.branch [
  | then-is_within+in_ok-add w ↦
      subst (λ f. All (λ h. h < length c.args.embedding.now.dcel.directed) f.items)
      (sym w.found-is) w.in_ok-add.ensures
  | else-is_within w ↦
      subst (λ f. All (λ h. h < length c.args.embedding.now.dcel.directed) f.items)
      (sym w.found-is) c.loop-spoke.invariant
]
