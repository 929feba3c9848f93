use Rattle.delaunay_shapes.proofs.Crossed.{crossed_within, not_crossed, second_decides}
use Rattle.delaunay_shapes.proofs.items.Sight.crosses_free.Goals as goal

pub returns-then-is_free_unless_on : goal.returns-then-is_free_unless_on
returns-then-is_free_unless_on g c =
    let edge = c.fix-edge.ensures.value in
    let first = rw (
      ← c.self.view_is,
      c.side_along.ensures,
      c.fix-twin.ensures.value,
      c.rev.ensures.index,
    ) at c.is_free_unless_on.ensures in
    let second = rw (← c.self.view_is, c.side_along-then-is_free_unless_on.ensures, edge) at
    c.is_free_unless_on-then-is_free_unless_on.ensures in
    rw (← c.self.view_is) (second_decides c.self.invariant
    (g.G.FreeFaces.free c.self.inside.free.now) c.args.edge.now.index
    (crossed_within c.args.edge.now _ (rw (← c.self.view_is) at c.requires)) _ _
    c.if-is_free_unless_on.true first second)

pub returns-else-is_free_unless_on : goal.returns-else-is_free_unless_on
returns-else-is_free_unless_on g c =
    let first = rw (
      ← c.self.view_is,
      c.side_along.ensures,
      c.fix-twin.ensures.value,
      c.rev.ensures.index,
    ) at c.is_free_unless_on.ensures in
    rw (← c.self.view_is) (not_crossed c.self.invariant (g.G.FreeFaces.free c.self.inside.free.now)
    c.args.edge.now.index (crossed_within c.args.edge.now _ (rw (← c.self.view_is) at c.requires)) _
    c.if-is_free_unless_on.false first)
