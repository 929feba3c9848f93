use Rattle.std.proofs.Common.{Some, arith}
use Rattle.delaunay_location.proofs.{FirstItems.alone_on_edge, PastEnd.past_if_unseen}
use Rattle.delaunay_location.proofs.Located.{from_that_vertex, inside_that_face, outside_that_edge}
use Rattle.delaunay_location.proofs.{Located.without_triangulation, OutsideItems.alone_elsewhere}
use Rattle.delaunay_location.proofs.MeshSteps.{embedding_value, of_mesh}
use Rattle.delaunay_location.proofs.OutlineWalk.{seen_from}
use Rattle.delaunay_location.proofs.between.first_from.Goals as goal

pub returns-in-OnVertex : goal.returns-in-OnVertex
returns-in-OnVertex g c = from_that_vertex (embedding_value c.embedding.view_is
    c.embedding.invariant)
    c.in-OnVertex.vertex (rw c.in-OnVertex.is at c.requires.start)

pub returns-in-OnEdge : goal.returns-in-OnEdge
returns-in-OnEdge g c =
    let here = rw (c.in-OnEdge.is, ← c.embedding.view_is) at c.requires.start in
    rw (← c.embedding.view_is) (alone_on_edge c.embedding.invariant c.in-OnEdge.edge
    (of_mesh c.embedding.invariant _ here.handle) here.location.1
    (c.is_same_point.ensures.0 c.if-is_same_point.true))

pub returns-in_default : goal.returns-in_default
returns-in_default g c = rw (← c.embedding.view_is) (alone_elsewhere c.embedding.invariant _
    (rw (← c.embedding.view_is) at c.requires.start) c.in_default.not-OnVertex
    c.in_default.not-OnEdge
    (c.is_same_point.ensures.0 c.if-is_same_point.true))

pub returns-in-OnVertex-start : goal.returns-in-OnVertex-start
returns-in-OnVertex-start g c = from_that_vertex (embedding_value c.embedding.view_is
    c.embedding.invariant)
    c.in-OnVertex-start.vertex (rw c.in-OnVertex-start.is at c.requires.start)

pub face-requires : goal.face-requires
face-requires g c =
    let located = rw (← c.embedding.view_is, c.in-OnFace.is) at c.requires.start in
    let fits = c.embedding.invariant.kept.fits.faces_fit in
    let few = located.handle.1 in omega (arith, fits, few)

pub first_in_face-requires-clause-start : goal.first_in_face-requires-clause-start
first_in_face-requires-clause-start g c =
    let located = rw (← c.embedding.view_is, c.in-OnFace.is) at c.requires.start in
    rw (
      ← c.embedding.view_is,
      c.fix.ensures.value,
      c.adjacent_edge.ensures.index,
      c.face.ensures.dcel,
      c.face.ensures.index,
    ) (inside_that_face c.embedding.invariant c.in-OnFace.face located)

pub first_along-requires-clause-start : goal.first_along-requires-clause-start
first_along-requires-clause-start g c =
    outside_that_edge (embedding_value c.embedding.view_is c.embedding.invariant)
    c.in-OutsideOfConvexHull.edge (rw c.in-OutsideOfConvexHull.is at c.requires.start)

pub first_along-requires-clause-seen : goal.first_along-requires-clause-seen
first_along-requires-clause-seen g c =
    seen_from (embedding_value c.embedding.view_is c.embedding.invariant)
    c.in-OutsideOfConvexHull.edge
    (rw c.in-OutsideOfConvexHull.is at c.requires.start) (Some c.in-Some.seen) c.in-Some.ensures

pub first_past-requires-clause-start : goal.first_past-requires-clause-start
first_past-requires-clause-start g c =
    outside_that_edge (embedding_value c.embedding.view_is c.embedding.invariant)
    c.in-OutsideOfConvexHull.edge (rw c.in-OutsideOfConvexHull.is at c.requires.start)

pub first_past-requires-clause-past : goal.first_past-requires-clause-past
first_past-requires-clause-past g c =
    past_if_unseen (embedding_value c.embedding.view_is c.embedding.invariant)
    c.in-OutsideOfConvexHull.edge
    (rw c.in-OutsideOfConvexHull.is at c.requires.start) c.in-None.ensures

pub first_on_outline-requires-clause-start : goal.first_on_outline-requires-clause-start
first_on_outline-requires-clause-start g c =
    without_triangulation (embedding_value c.embedding.view_is c.embedding.invariant)
    (rw c.in-NoTriangulation.is at c.requires.start)

pub first_on_edge-requires-clause-ends : goal.first_on_edge-requires-clause-ends
first_on_edge-requires-clause-ends g c = grind arith

pub first_along-requires-clause-ends : goal.first_along-requires-clause-ends
first_along-requires-clause-ends g c = grind arith
