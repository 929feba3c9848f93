-- A vertex that has lost its edges goes, and a triangulation is kept.
-- Lemmas: same_vertices, same_outer, dropped_value, dropped_plain, dropped_kept, in_the_plane.
use Rattle.std.proofs.Common.{◌≡◌, ◌<◌, [], ◌∙◌}
use Rattle.std.proofs.Common.{ℕ, List, length, map, Some, sym, ap, subst, inl, inr, arith}
use Rattle.std.specs.Prelude.{All, slice_get, swap_remove}
use Rattle.std.proofs.lemmas.Option.{slice_get_within}
use Rattle.plane.specs.{InRange, Point, TakesOut}
use Rattle.half_edge_dcel.specs.{Contents, DropsVertex, IsMeshWithData}
use Rattle.delaunay_legalization.specs.{faces_of, IsTriangulated, outer_of, state_of}
use Rattle.delaunay_legalization.proofs.{faces_counted, MeshRemovals.vertex_goes_to_line}
use Rattle.delaunay_legalization.proofs.MeshRemovals.{plain_removes, vertex_goes}
use Rattle.{delaunay_vertices.specs.IsolatesVertex, plane_theorems.specs.LocalMesh}
use Rattle.delaunay_vertices.proofs.Removing.{all_left, kept_by_shape}

module _ {V D U F : Type 0} {points : List Point} {pairs : List (ℕ × ℕ)}
    {old mid : Contents V D U F} {v : ℕ} (isolates : IsolatesVertex points old mid v pairs) where
  -- a vertex loses its edges: the vertices stay
  pub same_vertices : mid.vertices ≡ old.vertices
  same_vertices = ap (λ (c : Contents V D U F). c.vertices) isolates.contents

  -- so do the data of the outer face
  pub same_outer : mid.outer ≡ old.outer
  same_outer = ap (λ (c : Contents V D U F). c.outer) isolates.contents

  -- ---- and it goes
  module _ {new : Contents V D U F} {value : V} (drops : DropsVertex mid new v value) where
    -- with the data that it had
    pub dropped_value : slice_get old.vertices v ≡ Some value
    dropped_value =
        subst (λ (vs : List V). slice_get vs v ≡ Some value) same_vertices drops.had

    -- from the plain state without constraints
    pub dropped_plain : (place : V → Point)
        → TakesOut place (record { vertices = old.vertices; constraints = [] })
        (record { vertices = new.vertices; constraints = [] }) v
    dropped_plain place = plain_removes place old mid new v value same_vertices drops

-- and a triangulation is left
pub dropped_kept : {V D U F : Type 0} {place : V → Point} {pairs : List (ℕ × ℕ)}
    {old mid new : Contents V D U F} {v : ℕ} {value : V} → IsTriangulated place (state_of old)
    → IsolatesVertex (map place old.vertices) old mid v pairs → DropsVertex mid new v value
    → IsMeshWithData new → IsTriangulated place (state_of new)
dropped_kept {V} {D} {U} {F} {place} {pairs} {old} {mid} {new} {v} {value} kept isolates drops
    after = kept_by_shape place new
    (subst (λ (vs : List V). All (λ u. InRange (place u)) vs) (sym vertices_left)
    (all_left (λ u. InRange (place u)) old.vertices v value (slice_get_within old.vertices v
    value (dropped_value isolates drops)) kept.in_range))
    after
    (elim isolates.shape [
      | inl m ↦ inl (vertex_goes place old mid new v value same drops isolates.whole after m)
      | inr m ↦ inr (vertex_goes_to_line place old mid new v value same drops isolates.whole
          after m.0 m.1)
    ])
  where
    same : mid.vertices ≡ old.vertices
    same = same_vertices isolates

    vertices_left : new.vertices ≡ swap_remove old.vertices v value
    vertices_left = ap (λ (c : Contents V D U F). c.vertices) drops.contents
        ∙ ap (λ vs. swap_remove vs v value) same

-- ---- with inner faces the mesh is one in the plane
-- a triangulation with an inner face has a local mesh
pub in_the_plane : {V D U F : Type 0} (place : V → Point) (c : Contents V D U F)
    → IsTriangulated place (state_of c) → 0 < length c.faces
    → LocalMesh (map place c.vertices) (faces_of c.mesh) (outer_of c.mesh)
in_the_plane place c kept some = elim kept.shape [
  | inl m ↦ m
  | inr m ↦ absurd (let n = faces_counted c (record { valid = kept.valid; fits = kept.fits }) in
      let z = ap length m.0 in omega (arith, n, z, some))
]
