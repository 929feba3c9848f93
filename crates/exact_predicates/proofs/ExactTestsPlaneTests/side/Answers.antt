use Rattle.std.proofs.Common.{◌≡◌, ◌∙◌, sym, subst, arith}
use Rattle.std.specs.Prelude.{pos, ◌<ℤ◌}
use Rattle.std.proofs.lemmas.Int.{ints}
use Rattle.plane.proofs.{Areas.left_if_positive, on_if_zero, right_if_negative}
use Rattle.exact_predicates.proofs.ExactTestsPlaneTests.side.Goals as goal

pub returns-then-turn-gt0 : goal.returns-then-turn-gt0
returns-then-turn-gt0 g c = c.left.ensures ∙ sym (left_if_positive _ _ _
    (subst (λ z. pos 0 <ℤ z) c.turn_at-turn.ensures.value
    (omega (arith, ints, c.if-turn-gt0.true, c.turn_at-turn.ensures.bound))))

pub returns-then-turn-lt0 : goal.returns-then-turn-lt0
returns-then-turn-lt0 g c = c.right.ensures ∙ sym (right_if_negative _ _ _
    (subst (λ z. z <ℤ pos 0) c.turn_at-turn.ensures.value
    (omega (arith, ints, c.if-turn-lt0.true, c.turn_at-turn.ensures.bound))))

pub returns-else-turn-lt0 : goal.returns-else-turn-lt0
returns-else-turn-lt0 g c = c.on_line.ensures ∙ sym (on_if_zero _ _ _
    (subst (λ z. z ≡ pos 0) c.turn_at-turn.ensures.value
    (omega (arith, ints, c.if-turn-gt0.false, c.if-turn-lt0.false, c.turn_at-turn.ensures.bound))))
