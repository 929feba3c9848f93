-- What a new edge at the hull and new faces beside it do, in one record each.
-- Lemmas: hangs_edge, closes_corner, adds_face_beside, extends_line.
use Rattle.std.proofs.Common.{◌≡◌, ℕ, length, Option, Some, ap, ◌∙◌}
use Rattle.half_edge_links.specs.{AreSoundLinks, closed, Closes, edge_into, Hangs, hung, IsAlone}
use Rattle.half_edge_links.specs.{IsClosable, Mesh, next, OnOuter, origin, out_edge, rev}
use Rattle.half_edge_links.specs.Grow.{or_zero}
use Rattle.half_edge_links.specs.Grown.{AddsFaceBeside, ClosesCorner, ExtendsLine, HangsEdge}
use Rattle.half_edge_links.proofs.{Growing.Close.closes, Growing.Hang.hangs}
use Rattle.half_edge_links.proofs.Growing.FaceBeside.{adds_face, replaces_outer}
use Rattle.half_edge_links.proofs.{Growing.SplitLine.into_ends, Sound.Parts.rev_of_even}
use Rattle.half_edge_links.proofs.OuterLoop.Outer.{outer_closed, outer_hung}
use Rattle.half_edge_links.proofs.OuterLoop.Outline.{outline_closed, outline_hung}
use Rattle.half_edge_links.proofs.Sound.Corners.{triangles_closed, triangles_hung}
use Rattle.half_edge_links.proofs.Sound.EndsKept.{ends_beside, ends_closed, ends_hung}

-- what the mesh with an edge from the end of outer edge x to vertex v has of links, ends, corners
-- and outer edges
pub hangs_edge : (m new : Mesh) (x v : ℕ) → AreSoundLinks m → OnOuter m x → IsAlone m v
    → new ≡ hung m x v → HangsEdge m new x v
hangs_edge m new x v s outer alone is =
    let links : Hangs m new x v (length m.half_edges) = rw is (hangs m x v s outer alone) in
    record {
      links = links;
      ends = ends_hung m new x v s outer links;
      corners = triangles_hung m new x v s outer alone links;
      outer = outer_hung m new x v s outer links;
      outline = outline_hung m new x v s outer links;
    }

-- what the mesh with a new face of edge e, the next one and a new edge has of links, ends, corners
-- and outer edges
pub closes_corner : (m new : Mesh) (e : ℕ) → AreSoundLinks m → IsClosable m e → new ≡ closed m e
    → ClosesCorner m new e
closes_corner m new e s can is =
    let links : Closes m new e (length m.half_edges) (length m.face_edges) =
    rw is (closes m e s can) in
    record {
      links = links;
      ends = ends_closed m new e s can links;
      corners = triangles_closed m new e s can links;
      outer = outer_closed m new e s can links;
      outline = outline_closed m new e s can links;
    }

-- an edge from the end of outer edge e to vertex v, and then a face of e and this edge, add a face
-- of e and v
pub adds_face_beside : (m mid new : Mesh) (e v : ℕ) → AreSoundLinks m → OnOuter m e → IsAlone m v →
    HangsEdge m mid e v → ClosesCorner mid new e → AddsFaceBeside m new e v
adds_face_beside m mid new e v s outer alone hung closed =
    let i = hung.links in
    let first : origin mid e ≡ origin m e = i.origins e outer.0 in
    let second : origin mid (next mid e) ≡ origin m (rev e) =
    ap (origin mid) i.next_at ∙ i.there.origin ∙ (s.edges e outer.0).starts in
    let third : origin mid (rev (next mid e)) ≡ v =
    ap (λ k. origin mid (rev k)) i.next_at ∙ ap (origin mid) (rev_of_even _ s.even)
    ∙ i.back.origin in
    record {
      links = adds_face m mid new e v s outer alone i closed.links;
      ends = ends_beside m mid new e v s outer i hung.ends closed.ends;
      corners = rw (first, second, third, hung.corners) at closed.corners;
      outer = replaces_outer m mid new e v s outer alone i closed.links hung.outer closed.outer;
      outline = λ one. closed.outline (hung.outline one);
    }

-- an edge from the end of an edge into vertex u to vertex v extends the line at u
pub extends_line : (m new : Mesh) (u v h : ℕ) → AreSoundLinks m → out_edge m u ≡ Some h
    → HangsEdge m new (rev h) v → ExtendsLine m new u v
extends_line m new u v h s is hung =
    let into : edge_into m u ≡ rev h = ap (λ (o : Option ℕ). rev (or_zero o)) is in
    let end = into_ends m u h s is in
    record {
      links = rw into hung.links;
      ends = rw end at hung.ends;
      outer = rw end at hung.outer;
      outline = hung.outline;
    }
