use Rattle.std.proofs.Common.{◌≡◌, ◌∙◌, ap, map, sym}
use Rattle.delaunay_core.specs.{place_of}
use Rattle.delaunay_legalization.specs.{state_of, triangulation_of}
use Rattle.{delaunay_ways.proofs.Shortening.last_place, delaunay_ways.specs.point_at}
use Rattle.delaunay_ways.proofs.short.end_of.Goals as goal

pub returns-in-Some : goal.returns-in-Some
returns-in-Some g c =
    let at = g.V.HasPosition.place in
    let v = c.in-Some.vertex.now in
    let is : c.from_index.result ≡ v = let f = c.from_index.ensures in cc in
    c.position_of.ensures.place ∙ ap (point_at (map at c.args.dcel.now.vertices)) is
    ∙ sym (last_place (triangulation_of at (state_of c.args.dcel.now))
    (place_of g.V.Scalar.SpadeNum.whole c.args.from) c.args.vertices.now v c.in-Some.ensures.value)
