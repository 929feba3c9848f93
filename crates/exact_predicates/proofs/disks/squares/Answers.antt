use Rattle.exact_predicates.proofs.Squares.{squares_by_halves}
use Rattle.exact_predicates.proofs.disks.squares.Goals as goal

pub returns-clause-value : goal.returns-clause-value
returns-clause-value c = squares_by_halves c.args.x c.args.y
