-- What follows from the shape of a mesh over its points.
-- Lemmas: laid_out_tiles, laid_out_distinct, kept_empty.
use Rattle.std.proofs.Common.{◌≡◌, ◌≢◌, ◌<◌, []}
use Rattle.std.proofs.Common.{ℕ, List, length, refl, sym, ap, subst, inl, inr, arith}
use Rattle.std.specs.Prelude.{All}
use Rattle.plane.specs.{Face, InRange, IsTiling, place, Point, whole}
use Rattle.half_edge_links.specs.{empty, IsValidMesh, Mesh}
use Rattle.plane_theorems.proofs.{meshes_tile, Tiling.LineMeshes.no_vertex}
use Rattle.half_edge_dcel.specs.{Contents, IsMeshWithData}
use Rattle.delaunay_legalization.specs.{drawn, edges_of, faces_of, IsTriangulated, outer_of}
use Rattle.delaunay_legalization.specs.{point_at, state_of}
use Rattle.{delaunay_legalization.proofs.OwnEdges.own_edges, plane_theorems.specs.IsMesh}

-- what a valid mesh over its points draws is a tiling
pub laid_out_tiles : (points : List Point) (m : Mesh) → IsValidMesh m
    → IsMesh points (faces_of m) (outer_of m) → IsTiling (drawn points m)
laid_out_tiles points m v shape =
    meshes_tile points (faces_of m) (outer_of m) (edges_of m) shape (own_edges m v)

-- vertices of different indexes differ in position
pub laid_out_distinct : (points : List Point) (faces : List Face) (outer : List (ℕ × ℕ))
    → IsMesh points faces outer → (i j : ℕ) → i < length points → j < length points → i ≢ j
    → point_at points i ≢ point_at points j
laid_out_distinct points faces outer (inl s) i j h k n e = s.distinct i j h k n (ap whole e)
laid_out_distinct points faces outer (inr s) i j h k n e = s.1.distinct i j h k n (ap whole e)

-- a mesh with nothing but the outer face
pub kept_empty : {V D U F : Type 0} (place : V → Point) (c : Contents V D U F) → c.mesh ≡ empty
    → c.vertices ≡ [] → c.undirected ≡ [] → c.faces ≡ [] → IsMeshWithData c
    → IsTriangulated place (state_of c)
kept_empty place c mesh vertices undirected faces w = record {
  in_range =
      subst (λ vs. All (λ v. InRange (place v)) vs) (sym vertices) (λ k d h. absurd (omega arith));
  few_edges = rw (undirected, vertices) (omega arith);
  few_faces = rw (faces, vertices) (omega arith);
  valid = w.valid;
  fits = w.fits;
  shape = rw (mesh, vertices) (inr (refl, no_vertex));
}
