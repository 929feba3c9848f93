use Rattle.std.proofs.Common.{◌∙◌, rules}
use mir.Syntax.{w128}
use Rattle.std.specs.Int.RustNames.{FitsSigned}
use Rattle.std.proofs.lemmas.Int.{to_z-of_z}
use Rattle.exact_predicates.proofs.Determinants.{inside_if_positive}
use Rattle.exact_predicates.proofs.ExactTestsPlaneTests.is_in_circle.Goals as goal

pub returns : goal.returns
returns g c =
    let fits : FitsSigned w128 c.lifted_determinant.result = search rules in
    inside_if_positive _ _ _ _ _ c.requires.left_turn
    (to_z-of_z w128 c.lifted_determinant.result fits ∙ c.lifted_determinant.ensures)
