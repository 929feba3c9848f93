use Rattle.std.proofs.Common.{◌∙◌, sym}
use Rattle.std.proofs.lemmas.Bool.{true≢false}
use Rattle.{delaunay_core.specs.place_of, triangulate_run.specs.IsSiteAt}
use Rattle.triangulate_run.proofs.Found.{none_up_to, not_here}
use Rattle.triangulate_run.proofs.points.site_index_of.Goals as goal
use goal.{else-listed-via-else-listed, else-listed-via-then-listed+else-eq}

pub loop-i-preserved : goal.loop-i-preserved
loop-i-preserved c =
    let p = place_of (λ z. z) c.args.point in
    none_up_to (λ k. IsSiteAt c.args.points.now k p) c.loop-i.i c.loop-i.invariant
    (λ h. elim c.else-listed.branch [
      | else-listed-via-then-listed+else-eq w ↦
          not_here c.args.points.now c.loop-i.i p _ w.eq.ensures w.if-eq.false h.0.1
      | else-listed-via-else-listed w ↦ true≢false (sym h.1 ∙ w.if-listed.false)
    ])
