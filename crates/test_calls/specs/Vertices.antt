-- The vertices of the tests.
use Rattle.{plane.specs.Point, test_calls.specs.declared.vertices.TaggedVertex.TaggedVertex}
use Rattle.delaunay_core.specs.{place_of}

-- the position of a vertex of the tests
abbrev pub position_of : TaggedVertex → Point
position_of v = place_of (λ z. z) v.position
