use Rattle.delaunay_core.specs.{place_of}
use Rattle.{delaunay_legalization.specs.state_of, delaunay_shapes.specs.by_place, plane.specs.whole}
use Rattle.delaunay_shapes.proofs.SightDecided.{goes_free, over_line}
use Rattle.delaunay_shapes.proofs.sight.goes_free.Goals as goal

pub invariant_of-sight : goal.invariant_of-sight
invariant_of-sight g c =
    let line = rw (← c.embedding.view_is) at c.line_between-line.ensures.line in
    let covered = rw (← c.embedding.view_is) at c.requires in
    over_line c.embedding.invariant line.state covered.from_covered covered.to_covered

pub returns : goal.returns
returns g c =
    let line = c.line_between-line.ensures.line in
    goes_free g.V.HasPosition.place (state_of c.args.embedding.now.dcel)
    c.line_between-line.result.dcel.now line.state (by_place (g.G.FreeFaces.free c.args.free.now))
    (whole (place_of g.V.Scalar.SpadeNum.whole c.args.from))
    (whole (place_of g.V.Scalar.SpadeNum.whole c.args.to)) line.items line.line_list
    c.passes_each.result (c.passes_each.ensures line.items line.are_left)
