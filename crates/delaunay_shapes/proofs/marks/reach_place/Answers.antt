use Rattle.std.proofs.Common.{◌∙◌, ◌-◌, ◌+◌, ap, arith}
use Rattle.{delaunay_shapes.proofs.Marking.others_longer, delaunay_shapes.specs.Marks.count_others}
use Rattle.delaunay_shapes.proofs.marks.reach_place.Goals as goal

pub returns-in_ok-resize-clause-used : goal.returns-in_ok-resize-clause-used
returns-in_ok-resize-clause-used c =
    let was = c.args.directory.now in
    ap count_others c.in_ok-resize.ensures.items
    ∙ others_longer was.items (c.max-last.result + 1) ((c.max-last.result + 1) - was.len)
    (let over = c.if-place-len.true in let count = c.len.ensures in let same = was.ok in
    let last = c.max-last.ensures in omega (arith, over, count, same, last))
