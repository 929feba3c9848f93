use Rattle.delaunay_location.proofs.MeshSteps.{embedding_value}
use Rattle.delaunay_shapes.proofs.Crossed.{iff_named, iff_through}
use Rattle.delaunay_shapes.proofs.SightDecided.{at_vertex_iff, beyond_tells, in_face_iff}
use Rattle.delaunay_shapes.proofs.SightDecided.{on_edge_iff, vertex_there}
use Rattle.delaunay_shapes.proofs.places.is_in_free.Goals as goal

pub is_free_round-requires : goal.is_free_round-requires
is_free_round-requires g c =
    vertex_there c.embedding.invariant (g.G.FreeFaces.free c.args.free.now) _
    (rw (c.in-OnVertex.is, ← c.embedding.view_is) at c.locate_with_hint.ensures)

pub is_free_along-requires : goal.is_free_along-requires
is_free_along-requires g c = rw c.embedding.invariant.kept.fits.directed_fit
    (rw (c.in-OnEdge.is, ← c.embedding.view_is) at c.locate_with_hint.ensures).handle

pub returns-in-OnVertex : goal.returns-in-OnVertex
returns-in-OnVertex g c =
    let here = rw (c.in-OnVertex.is, ← c.embedding.view_is) at c.locate_with_hint.ensures in
    rw (← c.embedding.view_is) (iff_through c.is_free_round.ensures
    (at_vertex_iff c.embedding.invariant
    (g.G.FreeFaces.free c.args.free.now) _ c.in-OnVertex.vertex here))

pub returns-in-OnEdge : goal.returns-in-OnEdge
returns-in-OnEdge g c =
    let here = rw (c.in-OnEdge.is, ← c.embedding.view_is) at c.locate_with_hint.ensures in
    rw (← c.embedding.view_is) (iff_through c.is_free_along.ensures
    (on_edge_iff c.embedding.invariant
    (g.G.FreeFaces.free c.args.free.now) _ c.in-OnEdge.edge here))

pub returns-in-OnFace : goal.returns-in-OnFace
returns-in-OnFace g c =
    let here = rw (c.in-OnFace.is, ← c.embedding.view_is) at c.locate_with_hint.ensures in
    rw (← c.embedding.view_is) (iff_named c.is_free.result _ _ c.is_free.ensures
    (in_face_iff c.embedding.invariant (g.G.FreeFaces.free c.args.free.now) _ c.in-OnFace.face
    here))

pub returns-in-OutsideOfConvexHull : goal.returns-in-OutsideOfConvexHull
returns-in-OutsideOfConvexHull g c =
    beyond_tells (embedding_value c.embedding.view_is c.embedding.invariant)
    (g.G.FreeFaces.free c.args.free.now) _ c.in-OutsideOfConvexHull.is c.locate_with_hint.ensures
