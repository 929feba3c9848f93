use Rattle.std.proofs.Common.{◌∙◌, refl, sym}
use Rattle.delaunay_legalization.proofs.Questions.{both_ways, if_within, within_if}
use Rattle.delaunay_legalization.proofs.predicates.is_strictly_within.Goals as goal

pub returns-then-not-is_on_line : goal.returns-then-not-is_on_line
returns-then-not-is_on_line g c = (
  (λ t. absurd (both_ways _ t refl)),
  (λ w. absurd (both_ways _ (c.is_on_line.ensures.1 (c.side.ensures ∙ (if_within _ _ _ w).0))
      c.if-not-is_on_line.true)),
)

pub returns-then-is_from : goal.returns-then-is_from
returns-then-is_from g c = (
  (λ t. within_if _ _ _ c.requires.ends_apart c.requires.not_from c.requires.not_to
      (sym c.side.ensures ∙ c.is_on_line.ensures.0 c.if-not-is_on_line.false)
      (record {
        x = c.is_from.ensures.0 c.if-is_from.true;
        y = c.is_from-then-is_from.ensures.0 t;
      })),
  (λ w. c.is_from-then-is_from.ensures.1 (if_within _ _ _ w).1.y),
)

pub returns-else-is_from : goal.returns-else-is_from
returns-else-is_from g c = (
  (λ t. absurd (both_ways _ t c.if-is_from.false)),
  (λ w. c.is_from.ensures.1 (if_within _ _ _ w).1.x),
)
