use Rattle.std.proofs.Common.{◌∙◌, arith, sym}
use Rattle.std.proofs.lemmas.Bool.{eqb-true}
use Rattle.drawing_faces.proofs.Leading.{parts_at}
use Rattle.drawing_faces.proofs.splits.ends_over.Goals as goal

pub returns-then-eq-2 : goal.returns-then-eq-2
returns-then-eq-2 c =
    parts_at c.args.segments.now c.index-segments-first.result c.index-segments-second.result
    c.args.first c.args.second c.args.by _ _ (omega (arith, c.if-first-segments.false))
    (omega (arith, c.if-second-segments.false)) c.index-segments-first.is
    c.index-segments-second.is (eqb-true _ _ (sym c.eq.ensures ∙ c.if-eq.true))
    (eqb-true _ _ (sym c.eq-then-eq.ensures ∙ c.if-eq-2.true))
