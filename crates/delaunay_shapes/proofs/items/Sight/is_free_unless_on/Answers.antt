use Rattle.delaunay_legalization.proofs.{both_ways}
use Rattle.delaunay_shapes.proofs.items.Sight.is_free_unless_on.Goals as goal

pub returns-else-is_on_line : goal.returns-else-is_on_line
returns-else-is_on_line g c = rw (← c.self.view_is) (
  (λ t n. c.is_free_beside.ensures.0 t),
  (λ f. c.is_free_beside.ensures.1
      (f (λ e. both_ways _ (c.is_on_line.ensures.1 e) c.if-is_on_line.false))),
)
