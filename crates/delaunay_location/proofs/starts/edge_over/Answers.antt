use Rattle.std.proofs.Common.{◌∙◌}
use Rattle.delaunay_location.proofs.FirstItems.{inside_after, inside_before, last_goes_over}
use Rattle.delaunay_location.proofs.SegmentTests.{unless}
use Rattle.delaunay_location.proofs.starts.edge_over.Goals as goal

pub returns-then-goes_over-2-clause-start : goal.returns-then-goes_over-2-clause-start
returns-then-goes_over-2-clause-start g c =
    let given = rw (← c.embedding.view_is) at c.requires in
    let here = c.directed_edge-here.ensures in
    rw (
      c.fix-next.ensures.value,
      c.next.ensures.index,
      here.dcel,
      here.index,
      ←
          c.embedding.view_is,
    )
    (inside_after c.embedding.invariant c.args.edge given.within given.start)

pub returns-clause-start : goal.returns-clause-start
returns-clause-start g c =
    let given = rw (← c.embedding.view_is) at c.requires in
    let here = c.directed_edge-here.ensures in
    rw (c.fix.ensures.value, c.prev.ensures.index, here.dcel, here.index, ← c.embedding.view_is)
    (inside_before c.embedding.invariant c.args.edge given.within given.start)

pub returns-clause-over : goal.returns-clause-over
returns-clause-over g c =
    let given = rw (← c.embedding.view_is) at c.requires in
    let here = c.directed_edge-here.ensures in
    let next = rw (here.dcel, here.index) at (c.fix-next.ensures.value ∙ c.next.ensures.index) in
    let first = rw (← c.embedding.view_is) at c.goes_over.ensures in
    let second = rw (next, ← c.embedding.view_is) at c.goes_over-2.ensures in
    rw (c.fix.ensures.value, c.prev.ensures.index, here.dcel, here.index, ← c.embedding.view_is)
    (last_goes_over c.embedding.invariant c.args.edge given.within given.start c.requires.ends.apart
    (unless first c.if-goes_over.false) (unless second c.if-goes_over-2.false))
