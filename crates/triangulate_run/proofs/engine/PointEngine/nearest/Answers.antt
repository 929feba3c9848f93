use Rattle.std.proofs.Common.{refl}
use Rattle.triangulate_run.proofs.Distances.{covered_if_known, measured}
use Rattle.triangulate_run.proofs.Insertions.{listed_if_known}
use Rattle.triangulate_run.proofs.engine.PointEngine.nearest.Goals as goal

pub nearest_of_plain-requires-clause-covered : goal.nearest_of_plain-requires-clause-covered
nearest_of_plain-requires-clause-covered g c =
    covered_if_known (g.P.PlaneTests.covered c.args.self.now.tests.now) _ _ c.index_of.result
    c.requires.ready.points_covered c.if-is_none.ensures c.index_of.ensures

pub nearest_of_all-requires : goal.nearest_of_all-requires
nearest_of_all-requires g c =
    let tests = c.args.self.now.tests.now in
    g.met.P.PlaneTests.covered_are_in_range tests _
    (covered_if_known (g.P.PlaneTests.covered tests) _ _ c.index_of.result
    c.requires.ready.points_covered c.if-is_none.ensures c.index_of.ensures)

pub returns-in-Plain : goal.returns-in-Plain
returns-in-Plain g c =
    let listed = listed_if_known _ _ c.index_of.result c.if-is_none.ensures c.index_of.ensures in
    rw c.in-Plain.is (measured _ _ _ c.nearest_of_plain.result c.distance_reply.result
    c.in-Plain.plain.vertices refl listed c.nearest_of_plain.ensures c.distance_reply.ensures)

pub returns-in-Constrained : goal.returns-in-Constrained
returns-in-Constrained g c =
    let listed = listed_if_known _ _ c.index_of.result c.if-is_none.ensures c.index_of.ensures in
    rw c.in-Constrained.is (measured _ _ _ c.nearest_of_all.result
    c.distance_reply-in-Constrained.result c.in-Constrained.constrained.vertices refl listed
    c.nearest_of_all.ensures c.distance_reply-in-Constrained.ensures)
