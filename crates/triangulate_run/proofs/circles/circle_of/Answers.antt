use Rattle.std.proofs.Common.{true, false, sym, ◌∙◌, [], get_or}
use Rattle.std.proofs.lemmas.List.{take_all}
use Rattle.std.proofs.lemmas.List.Folds.{list_any_at}
use Rattle.{triangulate_run.proofs.Found.first_circle, triangulate_run.specs.Table.has}
use Rattle.triangulate_run.proofs.circles.circle_of.Goals as goal

pub returns-then-contains : goal.returns-then-contains
returns-then-contains c =
    let circle = get_or c.args.circles.now c.loop-circle.circle-index
    record { triples = []; inside = [] } in
    let tested = rw c.as_slice.ensures at c.contains.ensures.value in
    let listed = list_any_at (has circle.triples) _ c.loop-triple.triple-index []
    c.loop-triple-test.true (sym tested ∙ c.if-contains.true) in
    c.loop-circle.invariant ∙ first_circle c.args.circles.now _ c.args.i c.args.j c.args.k true
    c.loop-circle-test.true (rw c.as_slice-triple-items.ensures at listed)

pub loop-circle-preserved : goal.loop-circle-preserved
loop-circle-preserved c =
    let unlisted = rw (take_all _ _ c.loop-triple-test.false) at c.loop-triple.invariant in
    c.loop-circle.invariant ∙ first_circle c.args.circles.now _ c.args.i c.args.j c.args.k false
    c.loop-circle-test.true (rw c.as_slice-triple-items.ensures at unlisted)
