use Rattle.std.proofs.Common.{arith, refl}
use Rattle.exact_predicates.proofs.Squares.{short_vector}
use Rattle.exact_predicates.proofs.disks.is_at_most.Goals as goal

pub returns-then-x-y : goal.returns-then-x-y
returns-then-x-y c = (
  (λ _. short_vector c.args.x c.args.y c.args.length (omega (arith, c.if-x-y.true))),
  (λ _. refl),
)
