-- Where a position is, for the vertex that comes there.
-- Lemmas: vertex_of_handle, not_on_vertex.
use Rattle.std.proofs.Common.{◌≡◌, ℕ, ◌<◌, ◌≤◌, length, map, sym, subst}
use Rattle.delaunay_legalization.specs.{IsApart, IsTriangulated, state_of}
use Rattle.delaunay_location.specs.{Locates, OnFace, OnVertex, PositionInTriangulation}
use Rattle.{delaunay_location.proofs.Locating.same_point, plane.specs.Point}
use Rattle.{delaunay_vertices.proofs.EdgeSides.vertex_of_face, half_edge_dcel.specs.Contents}

module _ {V D U F : Type 0} (at : V → Point) (c : Contents V D U F)
    (kept : IsTriangulated at (state_of c)) where
  -- ---- where a position is
  module _ (p : Point) where
    -- located in a face, there is a vertex
    pub vertex_of_handle : (x : PositionInTriangulation) (f : ℕ)
        → Locates (map at c.vertices) c.mesh p x → x ≡ OnFace f → 0 < length c.vertices
    vertex_of_handle x f l is =
        let h = (subst (Locates (map at c.vertices) c.mesh p) is l).handle in
        let fit = kept.fits.faces_fit in
        vertex_of_face at c kept f h.0 (subst (λ n. f ≤ n) (sym fit) h.1)

    -- a position that no vertex has is not located on one
    pub not_on_vertex : IsApart (map at c.vertices) p → (v : ℕ)
        → ¬ Locates (map at c.vertices) c.mesh p (OnVertex v)
    not_on_vertex apart v l = apart.apart v l.location.0 (same_point p _ l.location.1)
