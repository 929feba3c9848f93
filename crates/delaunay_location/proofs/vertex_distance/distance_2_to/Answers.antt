use Rattle.std.proofs.Common.{arith, map, sym, subst}
use Rattle.std.specs.Prelude.{pos}
use Rattle.std.proofs.lemmas.List.{length-map}
use Rattle.std.proofs.lemmas.List.Elements.{All-get_or, All-map}
use Rattle.plane.specs.{InRange}
use Rattle.delaunay_location.proofs.vertex_distance.distance_2_to.Goals as goal

pub distance_2-requires-clause-other_in_range : goal.distance_2-requires-clause-other_in_range
distance_2-requires-clause-other_in_range g c =
    let at = g.V.HasPosition.place in
    let vertices = c.args.dcel.now.vertices in
    subst InRange (sym c.position_of.ensures.place) (All-get_or InRange (map at vertices)
    c.args.vertex (record { x = pos 0; y = pos 0 }) (omega (
      arith,
      c.requires.within,
      length-map vertices at,
    )) (All-map InRange at vertices c.requires.can.kept.in_range))
