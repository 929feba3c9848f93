use Rattle.std.proofs.Common.{ap}
use Rattle.std.proofs.lemmas.List.Elements.{All-map}
use Rattle.plane.specs.{InRange}
use Rattle.{delaunay_core.specs.place_of, test_calls.specs.Vertices.position_of}
use Rattle.test_calls.proofs.Asked.{begins_at, corners_in_range}
use Rattle.test_calls.proofs.asks.asks_fewer.Goals as goal

pub edges_in_shape-requires-clause-sites : goal.edges_in_shape-requires-clause-sites
edges_in_shape-requires-clause-sites g c =
    All-map InRange
    position_of c.mesh_of-mesh.result.now.vertices c.mesh_of-mesh.ensures.in_range

pub edges_in_shape-requires-clause-own_covered : goal.edges_in_shape-requires-clause-own_covered
edges_in_shape-requires-clause-own_covered g c =
    corners_in_range (place_of (λ z. z) c.counting_rectangle-metric.result.metric.lower)
    (place_of (λ z. z) c.counting_rectangle-metric.result.metric.upper)
    c.counting_rectangle-metric.result.metric.lower_in_range
    c.counting_rectangle-metric.result.metric.upper_in_range

pub edges_in_shape-requires-clause-begins : goal.edges_in_shape-requires-clause-begins
edges_in_shape-requires-clause-begins g c = begins_at
    (place_of (λ z. z) c.counting_rectangle-metric.result.metric.lower)
    (place_of (λ z. z) c.counting_rectangle-metric.result.metric.upper) _
    (ap (place_of (λ z. z)) c.counting_rectangle-metric.ensures)
