use Rattle.std.proofs.Common.{◌∙◌}
use Rattle.delaunay_core.specs.{place_of}
use Rattle.exact_predicates.proofs.Determinants.{determinant_by_angles}
use Rattle.exact_predicates.proofs.Widths.{long_difference_fits, long_difference_of, term_of}
use Rattle.exact_predicates.proofs.lifted_determinant.Goals as goal

pub overflow_sub-result : goal.overflow_sub-result
overflow_sub-result g c =
    long_difference_fits c.term.result c.term-2.result c.term.ensures.bound c.term-2.ensures.bound

pub returns : goal.returns
returns g c =
    let at = place_of g.S.SpadeNum.whole in
    long_difference_of c.term.ensures.bound c.term-2.ensures.bound
    (term_of c.dot_at.ensures.bound c.turn_at.ensures.bound c.dot_at.ensures.value
    c.turn_at.ensures.value c.term.ensures.value)
    (term_of c.dot_at-2.ensures.bound c.turn_at-2.ensures.bound c.dot_at-2.ensures.value
    c.turn_at-2.ensures.value c.term-2.ensures.value)
    ∙ determinant_by_angles (at c.args.u) (at c.args.v) (at c.args.p) (at c.args.q)
