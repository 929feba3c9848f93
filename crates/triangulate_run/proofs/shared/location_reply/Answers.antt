use Rattle.std.proofs.Common.{◌∙◌, ap, subst}
use Rattle.half_edge_links.specs.{origin, rev}
use Rattle.{delaunay_legalization.specs.triangulation_of, plane.specs.IsLocation, plane.specs.whole}
use Rattle.delaunay_location.specs.{location_of, PositionInTriangulation}
use Rattle.triangulate_run.specs.{position, row_at}
use Rattle.triangulate_run.proofs.Locations.{edge_there, face_there}
use Rattle.triangulate_run.proofs.shared.location_reply.Goals as goal

pub returns-in-OnEdge : goal.returns-in-OnEdge
returns-in-OnEdge g c = λ p h.
    let s = g.T.Triangulation.state c.args.triangulation.now in
    let t = triangulation_of position s in
    let d = c.directed_edge-edge in
    let mesh_is = ap (λ s. s.mesh) d.ensures.state in
    let located = subst (λ (a : PositionInTriangulation).
    IsLocation t (whole p) (location_of s.mesh a)) c.in-OnEdge.is h in
    let from = c.from-in-OnEdge-2.ensures ∙ c.index-in-OnEdge.ensures
    ∙ c.from-in-OnEdge.ensures.index ∙ ap (λ n. origin n d.result.index) mesh_is
    ∙ ap (origin s.mesh) d.ensures.index in
    let to = c.from-in-OnEdge-3.ensures ∙ c.index-in-OnEdge-2.ensures ∙ c.to.ensures.index
    ∙ ap (λ n. origin n (rev d.result.index)) mesh_is
    ∙ ap (λ i. origin s.mesh (rev i)) d.ensures.index in
    edge_there t c.requires.tiling p _ _ _ _ _ from to c.edge_reply.ensures located

pub returns-in-OnFace : goal.returns-in-OnFace
returns-in-OnFace g c = λ p h.
    let s = g.T.Triangulation.state c.args.triangulation.now in
    let t = triangulation_of position s in
    let located = subst (λ (a : PositionInTriangulation).
    IsLocation t (whole p) (location_of s.mesh a)) c.in-OnFace.is h in
    let row = c.corner_row.ensures
    ∙ ap (λ n. row_at n c.face.result.index) (ap (λ s. s.mesh) c.face.ensures.state)
    ∙ ap (row_at s.mesh) c.face.ensures.index in
    face_there t c.requires.tiling p _ _ _ _ row located
