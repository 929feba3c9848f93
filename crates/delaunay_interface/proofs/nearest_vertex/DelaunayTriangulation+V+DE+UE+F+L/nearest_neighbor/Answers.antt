use Rattle.std.proofs.Common.{[], sym, subst, ap, ◌∙◌, arith}
use Rattle.std.proofs.lemmas.List.{length-map}
use Rattle.plane.specs.{IsConstrainedDelaunay}
use Rattle.delaunay_legalization.specs.{state_of, triangulation_of}
use Rattle.delaunay_interface.proofs.nearest_vertex.DelaunayTriangulation+V+DE+UE+F+L.nearest_neighbor.Goals as goal

pub nearest_by_neighbors-nearest-requires-clause-delaunay :
    goal.nearest_by_neighbors-nearest-requires-clause-delaunay
nearest_by_neighbors-nearest-requires-clause-delaunay g c =
    subst (λ s. IsConstrainedDelaunay (triangulation_of g.V.HasPosition.place s) [])
    (sym c.mesh-mesh.ensures.state) c.mesh-mesh.ensures.well_formed.headline.delaunay

pub nearest_by_neighbors-nearest-requires-clause-within :
    goal.nearest_by_neighbors-nearest-requires-clause-within
nearest_by_neighbors-nearest-requires-clause-within g c =
    let below = c.start_at.ensures in let count = c.num_vertices-count.ensures.value in
    omega (arith, below, count)

pub nearest_by_neighbors-nearest-requires-clause-in_range :
    goal.nearest_by_neighbors-nearest-requires-clause-in_range
nearest_by_neighbors-nearest-requires-clause-in_range g c =
    g.met.P.PlaneTests.covered_are_in_range c.args.tests.now _ c.requires.covered

pub vertex-requires : goal.vertex-requires
vertex-requires g c =
    let b = c.nearest_by_neighbors-nearest.ensures.nearest.is_vertex in
    omega (arith, b, length-map c.mesh-mesh.result.now.vertices g.V.HasPosition.place)

pub returns : goal.returns
returns g c =
    rw c.vertex.ensures.index (
      ap (λ m. state_of m.now) c.vertex.ensures.dcel ∙ c.mesh-mesh.ensures.state,
      rw (← c.mesh-mesh.ensures.state) c.nearest_by_neighbors-nearest.ensures.nearest,
    )
