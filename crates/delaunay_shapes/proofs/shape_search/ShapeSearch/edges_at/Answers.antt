use Rattle.std.proofs.Common.{◌/◌, arith}
use Rattle.delaunay_shapes.proofs.FirstEdges.{if_ok}
use Rattle.delaunay_shapes.proofs.shape_search.ShapeSearch.edges_at.Goals as goal

pub edge_alone-requires-in-Some : goal.edge_alone-requires-in-Some
edge_alone-requires-in-Some g c =
    rw (← c.self.view_is, ← c.self-inside.view_is) at c.in-Some.ensures.some.0

pub returns-in-OnFace-clause-within : goal.returns-in-OnFace-clause-within
returns-in-OnFace-clause-within g c =
    rw (← c.self.view_is, ← c.self-inside.view_is) c.sides_of_face.ensures.within

pub returns-in-Some-clause-starts : goal.returns-in-Some-clause-starts
returns-in-Some-clause-starts g c =
    if_ok _ _ c.edge_alone-in-Some.result
    (λ v there. rw c.in-OutsideOfConvexHull.is (λ h within outer inside.
    (c.in-Some.edge / 2, there, c.in-Some.ensures.some.1))) c.edge_alone-in-Some.ensures.starts

pub returns-in-Some-clause-within : goal.returns-in-Some-clause-within
returns-in-Some-clause-within g c =
    rw (← c.self.view_is, ← c.self-inside.view_is) c.edge_alone-in-Some.ensures.within

pub returns-in-None-clause-starts : goal.returns-in-None-clause-starts
returns-in-None-clause-starts g c = rw c.in-OutsideOfConvexHull.is
    (λ h within outer inside. absurd (c.in-None.ensures.none h within outer inside))

pub returns-in-OnEdge-clause-starts : goal.returns-in-OnEdge-clause-starts
returns-in-OnEdge-clause-starts g c = grind arith

pub returns-in-OnFace-clause-starts : goal.returns-in-OnFace-clause-starts
returns-in-OnFace-clause-starts g c = grind arith
