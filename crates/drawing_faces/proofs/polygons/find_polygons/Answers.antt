use Rattle.drawing_faces.specs.{lists_in, sides_in}
use Rattle.drawing_faces.proofs.PolygonSearching.{all_within, uneven_ways}
use Rattle.drawing_faces.proofs.polygons.find_polygons.Goals as goal

pub returns-then-is_even-clause-within : goal.returns-then-is_even-clause-within
returns-then-is_even-clause-within g c =
    let p = c.loop-edge.polygons in
    all_within c.args.dcel.now.mesh (sides_in c.args.borders.now) p.labels.items (lists_in p)
    c.loop-edge.invariant.search c.in_default.ensures.closed
    (c.is_even.ensures.even c.if-is_even.true)

pub returns-else-is_even-clause-none : goal.returns-else-is_even-clause-none
returns-else-is_even-clause-none g c =
    let p = c.loop-edge.polygons in
    uneven_ways c.args.dcel.now.mesh (sides_in c.args.borders.now) p.labels.items (lists_in p)
    c.loop-edge.invariant.search c.in_default.ensures.closed
    (c.is_even.ensures.uneven c.if-is_even.false)
