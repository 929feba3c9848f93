use Rattle.std.proofs.Common.{◌^◌}
use Rattle.std.proofs.lemmas.List.{length-map}
use Rattle.plane_theorems.proofs.Delaunay.Circles.Nearest.{nearest_by_neighbours}
use Rattle.{delaunay_core.specs.place_of, delaunay_location.proofs.Candidates.place_within}
use Rattle.delaunay_legalization.specs.{state_of, triangulation_of}
use Rattle.delaunay_location.proofs.Neighbours.{fewer_moves, more_counted, room_at, room_stays}
use Rattle.delaunay_location.proofs.nearest_walk.nearest_by_neighbors.Goals as goal

pub first_candidate-requires-clause-fits : goal.first_candidate-requires-clause-fits
first_candidate-requires-clause-fits g c =
    room_at (triangulation_of g.V.HasPosition.place (state_of c.args.dcel.now))
    (place_of g.V.Scalar.SpadeNum.whole c.args.point) (length-map c.args.dcel.now.vertices _)
    c.requires.within _ _ c.requires.fits

pub nearest_from-requires-clause-fits : goal.nearest_from-requires-clause-fits
nearest_from-requires-clause-fits g c = room_stays c.in-Some.ensures.counted (2 ^ 64)
    (room_at (triangulation_of g.V.HasPosition.place (state_of c.args.dcel.now))
    (place_of g.V.Scalar.SpadeNum.whole c.args.point) (length-map c.args.dcel.now.vertices _)
    c.requires.within _ _ c.requires.fits)

pub returns-in-Some-clause-counted : goal.returns-in-Some-clause-counted
returns-in-Some-clause-counted g c =
    fewer_moves _ _ (length-map c.args.dcel.now.vertices _) c.requires.within
    (more_counted c.in-Some.ensures.counted c.nearest_from.ensures.counted)

pub returns-in-None-clause-nearest : goal.returns-in-None-clause-nearest
returns-in-None-clause-nearest g c =
    nearest_by_neighbours _ c.requires.delaunay _ c.args.start
    (place_within _ _ _ c.requires.within) c.in-None.ensures.0
