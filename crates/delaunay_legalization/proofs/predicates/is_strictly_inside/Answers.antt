use Rattle.std.proofs.Common.{◌∙◌, sym}
use Rattle.plane.proofs.Triangles.{inside_is_sides}
use Rattle.delaunay_legalization.proofs.Questions.{both_ways}
use Rattle.delaunay_legalization.proofs.predicates.is_strictly_inside.Goals as goal
use goal.{else-turns_left, then-turns_left}

pub returns-then-turns_left-2 : goal.returns-then-turns_left-2
returns-then-turns_left-2 g c =
    let sides = inside_is_sides _ _ _ _ c.requires.turns in (
      (λ t. elim c.if-turns_left.branch [
        | then-turns_left w ↦ sides.1 (
          c.turns_left.ensures.0 w.if-turns_left.true,
          w.turns_left-then-turns_left.ensures.0 (sym w.value-is ∙ c.if-turns_left-2.true),
          c.turns_left-then-turns_left-2.ensures.0 t,
        )
        | else-turns_left w ↦
            absurd (both_ways _ c.if-turns_left-2.true (w.value-is ∙ w.if-turns_left.false))
      ]),
      (λ w. c.turns_left-then-turns_left-2.ensures.1 (sides.0 w).2),
    )

pub returns-else-turns_left-2 : goal.returns-else-turns_left-2
returns-else-turns_left-2 g c =
    let sides = inside_is_sides _ _ _ _ c.requires.turns in (
      (λ t. absurd (both_ways _ t c.if-turns_left-2.false)),
      (λ i. elim c.if-turns_left.branch [
        | then-turns_left w ↦ w.value-is ∙ w.turns_left-then-turns_left.ensures.1 (sides.0 i).1
        | else-turns_left w ↦
            absurd (both_ways _ (c.turns_left.ensures.1 (sides.0 i).0) w.if-turns_left.false)
      ]),
    )
