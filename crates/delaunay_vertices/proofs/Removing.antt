-- What a triangulation keeps when a vertex goes.
-- Lemmas: all_left, kept_by_shape, few_edges_of, value_was, line_kept.
use Rattle.std.proofs.Common.{◌≡◌, ◌<◌, ◌-◌, [], ◌⊎◌, ◌≢◌, ◌≤◌, ◌*◌, ◌∙◌}
use Rattle.std.proofs.Common.{ℕ, List, length, map, get_or, set, Some, sym, ap, subst, inl, inr}
use Rattle.std.proofs.Common.{arith}
use Rattle.std.specs.Prelude.{All, ℤ, ◌+ℤ◌, slice_get, swap_remove}
use Rattle.std.proofs.lemmas.Bool.{cases_eq}
use Rattle.std.proofs.lemmas.List.{length-map, get_or-take, get_or-set_same, get_or-set_other}
use Rattle.std.proofs.lemmas.Option.{slice_get_within}
use Rattle.half_edge_links.specs.{triangle_at}
use Rattle.plane_theorems.specs.{along, around, IsMesh, LineMesh, total}
use Rattle.plane_theorems.proofs.{hull_edges_count, line_edges_count}
use Rattle.half_edge_dcel.specs.{Contents, HasFewEdges, IsMeshWithData, LeavesMesh}
use Rattle.{half_edge_dcel.proofs.Outlines.empty_list, half_edge_links.proofs.length-swap_remove}
use Rattle.delaunay_legalization.specs.{corners_of, edges_of, faces_of, IsTriangulated, outer_of}
use Rattle.{delaunay_legalization.specs.state_of, plane.specs.InRange, plane.specs.Point}
use Rattle.delaunay_legalization.proofs.{edges_counted, faces_counted, own_edges}
use Rattle.delaunay_legalization.proofs.MeshLineEnds.{line_has_few_edges}
use Rattle.delaunay_legalization.proofs.MeshLineRemoval.{line_removed}

-- what holds of each item holds of each that is left
pub all_left : {X : Type 0} (P : X → Type 0) (xs : List X) (i : ℕ) (x : X) → i < length xs
    → All P xs → All P (swap_remove xs i x)
all_left P xs i x within all k d h =
    subst P (sym (get_or-take (length xs - 1) (set xs i (get_or xs (length xs - 1) x)) k d below))
    (go (cases_eq k i))
  where
    below : k < length xs - 1
    below = let n = length-swap_remove xs i x in omega (arith, h, n)

    go : (k ≡ i) ⊎ (k ≢ i) → P (get_or (set xs i (get_or xs (length xs - 1) x)) k d)
    go (inl e) = subst P (sym (ap (λ j. get_or (set xs i (get_or xs (length xs - 1) x)) j d) e
        ∙ get_or-set_same xs i (get_or xs (length xs - 1) x) d within))
        (all (length xs - 1) x (omega (arith, within)))
    go (inr n) = subst P (sym (get_or-set_other xs i k (get_or xs (length xs - 1) x) d n))
        (all k d (omega (arith, below)))

-- a mesh of points in range is what a triangulation keeps
pub kept_by_shape : {V D U F : Type 0} (place : V → Point) (c : Contents V D U F)
    → All (λ v. InRange (place v)) c.vertices → IsMeshWithData c
    → IsMesh (map place c.vertices) (faces_of c.mesh) (outer_of c.mesh)
    → IsTriangulated place (state_of c)
kept_by_shape place c ranged w shape = record {
  in_range = ranged;
  few_edges = (few shape).0;
  few_faces = (few shape).1;
  valid = w.valid;
  fits = w.fits;
  shape = shape;
}
  where
    few : IsMesh (map place c.vertices) (faces_of c.mesh) (outer_of c.mesh)
        → (length c.undirected ≤ 3 * length c.vertices) × (length c.faces ≤ 2 * length c.vertices)
    few (inl m) =
        let n = hull_edges_count (map place c.vertices) (faces_of c.mesh) (outer_of c.mesh)
        (edges_of c.mesh) m (own_edges c.mesh w.valid) in
        let e = n.0 in
        let f = n.1 in (
          omega (arith, e, edges_counted c w, length-map c.vertices place),
          omega (arith, f, faces_counted c w, length-map c.vertices place),
        )
    few (inr m) =
        let n = line_edges_count (map place c.vertices) (outer_of c.mesh) (edges_of c.mesh) m.1
        (subst (λ fs. (f : ℕ → ℕ → ℤ) → total (λ e. f e.0 e.1 +ℤ f e.1 e.0) (edges_of c.mesh)
        ≡ total (around f) fs +ℤ total (along f) (outer_of c.mesh)) m.0
        (own_edges c.mesh w.valid)) in
        let none = ap length m.0 in (
          omega (arith, n, edges_counted c w, length-map c.vertices place),
          omega (arith, none, faces_counted c w),
        )

-- without inner faces the mesh is one of a line
no_faces : {V D U F : Type 0} (c : Contents V D U F) → IsMeshWithData c → length c.faces ≡ 0
    → faces_of c.mesh ≡ []
no_faces c w none = ap (λ es. map corners_of (map (triangle_at c.mesh) es))
    (empty_list c.mesh.face_edges (sym w.fits.faces_fit ∙ none))

module _ {V D U F : Type 0} {place : V → Point} (old : Contents V D U F)
    (kept : IsTriangulated place (state_of old)) (none : length old.faces ≡ 0) where
  abbrev before : IsMeshWithData old
  before = record { valid = kept.valid; fits = kept.fits }

  on_line : LineMesh (map place old.vertices) (outer_of old.mesh)
  on_line =
      elim kept.shape [ inl m ↦ absurd (m.some_face (no_faces old before none)) | inr m ↦ m.1 ]

  -- a vertex may leave it
  pub few_edges_of : (v : ℕ) → HasFewEdges old.mesh v
  few_edges_of v = line_has_few_edges (map place old.vertices) old.mesh kept.valid
      (no_faces old before none) (sym kept.fits.faces_fit ∙ none) on_line v
      (length-map old.vertices place ∙ kept.fits.vertices_fit)

module _ {V D U F : Type 0} {place : V → Point} {old new : Contents V D U F} {v : ℕ} {value : V}
    (kept : IsTriangulated place (state_of old)) (none : length old.faces ≡ 0)
    (after : IsMeshWithData new) (leaves : LeavesMesh old new v value) where
  same_vertices : leaves.between.vertices ≡ old.vertices
  same_vertices = ap (λ (c : Contents V D U F). c.vertices) leaves.leaves.contents

  -- the data that the vertex has when it goes are those of before
  pub value_was : slice_get old.vertices v ≡ Some value
  value_was = subst (λ (vs : List V). slice_get vs v ≡ Some value) same_vertices leaves.drops.had

  vertices_left : new.vertices ≡ swap_remove old.vertices v value
  vertices_left = ap (λ (c : Contents V D U F). c.vertices) leaves.drops.contents
      ∙ ap (λ vs. swap_remove vs v value) same_vertices

  same_faces : length new.faces ≡ 0
  same_faces = ap (λ (c : Contents V D U F). length c.faces) leaves.drops.contents
      ∙ ap (λ (c : Contents V D U F). length c.faces) leaves.leaves.contents ∙ none

  -- and what is left is kept
  pub line_kept : IsTriangulated place (state_of new)
  line_kept = kept_by_shape place new
      (subst (λ (vs : List V). All (λ u. InRange (place u)) vs) (sym vertices_left)
      (all_left (λ u. InRange (place u)) old.vertices v value
      (slice_get_within old.vertices v value value_was) kept.in_range))
      after
      (inr (
        no_faces new after same_faces,
        line_removed place old new v value (on_line old kept none) leaves,
      ))
