use Rattle.delaunay_location.proofs.MeshSteps.{embedding_value}
use Rattle.delaunay_ways.proofs.Surrounding.{at_vertex, beyond, in_face, on_edge}
use Rattle.delaunay_ways.proofs.corners.corners_at.Goals as goal

pub ends_of-requires : goal.ends_of-requires
ends_of-requires g c = rw c.embedding.invariant.kept.fits.directed_fit
    (rw (c.in-OnEdge.is, ← c.embedding.view_is) at c.locate_with_hint.ensures).handle

pub returns-in-OnVertex : goal.returns-in-OnVertex
returns-in-OnVertex g c =
    let here = rw (c.in-OnVertex.is, ← c.embedding.view_is) at c.locate_with_hint.ensures in
    rw (← c.embedding.view_is) (at_vertex c.embedding.invariant _ c.in-OnVertex.vertex here)

pub returns-in-OnEdge : goal.returns-in-OnEdge
returns-in-OnEdge g c =
    let here = rw (c.in-OnEdge.is, ← c.embedding.view_is) at c.locate_with_hint.ensures in
    rw (← c.embedding.view_is, c.ends_of.ensures)
    (on_edge c.embedding.invariant _ c.in-OnEdge.edge here)

pub returns-in-OnFace : goal.returns-in-OnFace
returns-in-OnFace g c =
    let here = rw (c.in-OnFace.is, ← c.embedding.view_is) at c.locate_with_hint.ensures in
    rw (← c.embedding.view_is, c.corners_of.ensures)
    (in_face c.embedding.invariant _ c.in-OnFace.face here)

pub returns-in-OutsideOfConvexHull : goal.returns-in-OutsideOfConvexHull
returns-in-OutsideOfConvexHull g c =
    beyond (embedding_value c.embedding.view_is c.embedding.invariant) _ _
    c.in-OutsideOfConvexHull.is c.locate_with_hint.ensures
