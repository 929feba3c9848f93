use Rattle.std.proofs.Common.{refl}
use Rattle.delaunay_shapes.specs.{has_mark}
use Rattle.delaunay_shapes.proofs.Marking.{no_page, no_places, none_passes}
use Rattle.delaunay_shapes.proofs.marks.Marks.new.Goals as goal

pub invariant_of-result : goal.invariant_of-result
invariant_of-result c = rw (c.new.ensures.items, c.new-2.ensures.items) no_places

pub returns : goal.returns
returns c = none_passes c.args.count (has_mark c.new.result.items c.new-2.result.items)
    (λ k. no_page c.new.result.items c.new-2.result.items k (rw c.new.ensures.items refl))
