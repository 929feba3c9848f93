use Rattle.std.proofs.Common.{◌≡◌, ap, subst, rules, SFits, w64, to_z-of_z}
use Rattle.std.specs.Prelude.{slice_get, Some}
use Rattle.{delaunay_edit.proofs.Removing.read_place, triangulate_run.specs.position}
use Rattle.triangulate_run.proofs.Distances.{least_distance, vertex_in_range}
use Rattle.triangulate_run.proofs.nearest.nearest_of_plain.Goals as goal

pub distance_2-requires-clause-in_range : goal.distance_2-requires-clause-in_range
distance_2-requires-clause-in_range g c =
    g.met.P.PlaneTests.covered_are_in_range c.args.tests.now _ c.requires.covered

pub distance_2-requires-clause-other_in_range : goal.distance_2-requires-clause-other_in_range
distance_2-requires-clause-other_in_range g c =
    let i = c.in-Some.vertex.index in
    vertex_in_range c.args.triangulation.now.vertices i _ c.in-Some.ensures.1.is_vertex
    (subst (λ vs. slice_get vs i ≡ Some c.data.result.now)
    (ap (λ s. s.vertices) c.in-Some.ensures.0) c.data.ensures) c.recall_invariant.ensures.in_range

pub returns-in-Some : goal.returns-in-Some
returns-in-Some g c =
    let i = c.in-Some.vertex.index in
    let v = c.data.result.now in
    let d = c.distance_2.result in
    let at = read_place position c.args.triangulation.now.vertices i v
    (subst (λ vs. slice_get vs i ≡ Some v) (ap (λ s. s.vertices) c.in-Some.ensures.0)
    c.data.ensures) in
    let fits : SFits w64 d = search rules in
    rw (to_z-of_z {w = w64} {z = d} fits)
    (least_distance _ _ (position v) i d c.in-Some.ensures.1 at c.distance_2.ensures)
