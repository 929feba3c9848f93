use Rattle.delaunay_location.proofs.outside.is_point_nearer.Goals as goal

pub distance_2-requires : goal.distance_2-requires
distance_2-requires g c = record {
  in_range = g.met.P.PlaneTests.covered_are_in_range _ _ c.requires.from_covered;
  other_in_range = g.met.P.PlaneTests.covered_are_in_range _ _ c.requires.point_covered;
}

pub distance_2-requires-2 : goal.distance_2-requires-2
distance_2-requires-2 g c = record {
  in_range = g.met.P.PlaneTests.covered_are_in_range _ _ c.requires.from_covered;
  other_in_range = g.met.P.PlaneTests.covered_are_in_range _ _ c.requires.other_covered;
}
