-- A vertex without edges goes, and the last one takes its index: in the faces and the outer edges,
-- the points and the plain state.
-- Lemmas: alone_has_none, mapped_twice, whole_faces, index_within, dropped_on_line, dropped,
-- dropped_faces, removes_vertex.
use Rattle.std.proofs.Common.{◌≡◌, ◌<◌, ◌-◌, [], ◌∷◌, ◌∙◌}
use Rattle.std.proofs.Common.{ℕ, List, length, map, refl, sym, ap, subst}
use Rattle.std.proofs.Common.{arith}
use Rattle.std.specs.Prelude.{Contains, swap_remove, nat_eq, if◌then◌else◌}
use Rattle.std.proofs.lemmas.Option.{slice_get_within}
use Rattle.plane.specs.{Face, Point, TakesOut}
use Rattle.half_edge_links.specs.{AreSoundLinks, Ends, IsAlone, Mesh, origin, out_edge, outline}
use Rattle.half_edge_links.specs.{Triangle, triangle_at, triangles}
use Rattle.half_edge_links.proofs.{map-swap_remove, swap_remove_default}
use Rattle.plane_theorems.specs.{LineMesh, LineMeshWithout, LocalMesh, LocalMeshWithout}
use Rattle.plane_theorems.specs.Edits.Removal.{renumbered, renumbered_pair}
use Rattle.plane_theorems.proofs.Edits.Removal.Renumbering.{last_takes_freed_index}
use Rattle.plane_theorems.proofs.Edits.Removal.Renumbering.{last_takes_freed_index_on_line}
use Rattle.half_edge_dcel.specs.{Contents, DropsVertex, full_faces, full_faces_of, FullFace}
use Rattle.half_edge_dcel.specs.{IsMeshWithData, Removal.renumbered_ends, renumbered_face}
use Rattle.half_edge_dcel.proofs.Dropped.{renumbered_triangle}
use Rattle.delaunay_legalization.specs.{corners_of, faces_of, outer_of, pair_of}
use Rattle.delaunay_legalization.proofs.{EdgePairs.no_joins, FaceChanges.length_map}
use Rattle.delaunay_legalization.proofs.{Entries.not_some, OuterEdges.real}

-- no outer edge starts at a vertex without edges
pub alone_has_none : (m : Mesh) (v j : ℕ) → AreSoundLinks m → IsAlone m v
    → ¬ Contains (outer_of m) (v, j)
alone_has_none m v j s alone c =
    let r = real m v j c in
    let some = (s.edges r.0 r.1.within).has_out in
    not_some (out_edge m (origin m r.0)) (ap (out_edge m) r.1.source ∙ alone.1) some

-- ---- lists
-- two functions applied one after the other to a list are one function applied to it
pub mapped_twice : {X Y Z : Type 0} (f : X → Y) (g : Y → Z) (h : X → Z) (xs : List X)
    → ((x : X) → g (f x) ≡ h x) → map g (map f xs) ≡ map h xs
mapped_twice f g h [] e = refl
mapped_twice f g h (x ∷ xs) e = λ i. e x i ∷ mapped_twice f g h xs e i

-- ---- what the renumbering makes of pairs and faces
renumbered_pairs : (v last : ℕ) (es : List Ends)
    → map pair_of (map (renumbered_ends last v) es) ≡ map (renumbered_pair v last) (map pair_of es)
renumbered_pairs v last [] = refl
renumbered_pairs v last (e ∷ es) =
    ap (λ xs. renumbered_pair v last (pair_of e) ∷ xs) (renumbered_pairs v last es)

renumbered_faces : (v last : ℕ) (ts : List Triangle) → map corners_of
    (map (renumbered_triangle last v) ts) ≡ map (renumbered v last) (map corners_of ts)
renumbered_faces v last [] = refl
renumbered_faces v last (t ∷ ts) =
    ap (λ xs. renumbered v last (corners_of t) ∷ xs) (renumbered_faces v last ts)

-- the corners of faces with their data
corners_listed : {F : Type 0} (ts : List Triangle) (fs : List F) → length fs ≡ length ts
    → map (λ (x : FullFace F). x.corners) (full_faces_of ts fs) ≡ ts
corners_listed [] fs e = refl
corners_listed (t ∷ ts) [] e = absurd (omega (arith, e))
corners_listed (t ∷ ts) (y ∷ fs) e = ap (λ xs. t ∷ xs) (corners_listed ts fs (omega (arith, e)))

-- the corners of the faces with their data are the triangles of the mesh
pub whole_faces : {V D U F : Type 0} (c : Contents V D U F) → IsMeshWithData c
    → map (λ (x : FullFace F). x.corners) (full_faces c) ≡ triangles c.mesh
whole_faces c w = corners_listed (triangles c.mesh) c.faces
    (w.fits.faces_fit ∙ sym (length_map (triangle_at c.mesh) c.mesh.face_edges))

module _ {V D U F : Type 0} (position : V → Point) (old new : Contents V D U F) (v : ℕ) (value : V)
    (drops : DropsVertex old new v value) where
  -- the index of the last old vertex
  last : ℕ
  last = length old.vertices - 1

  -- the vertex that goes is one of the vertices
  pub index_within : v < length old.vertices
  index_within = slice_get_within old.vertices v value drops.had

  vertices_left : new.vertices ≡ swap_remove old.vertices v value
  vertices_left = ap (λ (c : Contents V D U F). c.vertices) drops.contents

  points_left : map position new.vertices
      ≡ swap_remove (map position old.vertices) v (position value)
  points_left = ap (map position) vertices_left ∙ map-swap_remove position old.vertices v value

  outer_left : outer_of new.mesh
      ≡ map (renumbered_pair v (length (map position old.vertices) - 1)) (outer_of old.mesh)
  outer_left = ap (map pair_of) drops.outer ∙ renumbered_pairs v (length old.vertices - 1)
      (outline old.mesh) ∙ ap (λ n. map (renumbered_pair v (n - 1)) (outer_of old.mesh))
      (sym (length_map position old.vertices))

  index_of_point : v < length (map position old.vertices)
  index_of_point = subst (λ n. v < n) (sym (length_map position old.vertices)) index_within

  -- on one line
  pub dropped_on_line : LineMeshWithout v (map position old.vertices) (outer_of old.mesh)
      → LineMesh (map position new.vertices) (outer_of new.mesh)
  dropped_on_line m = subst (λ (x : List Point × List (ℕ × ℕ)). LineMesh x.0 x.1)
      (λ i. (sym points_left i, sym outer_left i)) (last_takes_freed_index_on_line
      (map position old.vertices) (outer_of old.mesh) v (position value) index_of_point m)

  module _ (before : IsMeshWithData old) (after : IsMeshWithData new) where
    triangles_left : triangles new.mesh
        ≡ map (renumbered_triangle (length old.vertices - 1) v) (triangles old.mesh)
    triangles_left =
        sym (whole_faces new after)
        ∙ ap (map (λ (x : FullFace F). x.corners)) drops.faces
        ∙ mapped_twice (renumbered_face (length old.vertices - 1) v) (λ (x : FullFace F). x.corners)
        (λ (x : FullFace F). renumbered_triangle (length old.vertices - 1) v x.corners)
        (full_faces old) (λ x. refl)
        ∙ sym (mapped_twice (λ (x : FullFace F). x.corners) (renumbered_triangle
        (length old.vertices - 1) v) (λ (x : FullFace F). renumbered_triangle
        (length old.vertices - 1) v x.corners) (full_faces old) (λ x. refl))
        ∙ ap (map (renumbered_triangle (length old.vertices - 1) v)) (whole_faces old before)

    faces_left : faces_of new.mesh
        ≡ map (renumbered v (length (map position old.vertices) - 1)) (faces_of old.mesh)
    faces_left = ap (map corners_of) triangles_left ∙ renumbered_faces v (length old.vertices - 1)
        (triangles old.mesh) ∙ ap (λ n. map (renumbered v (n - 1)) (faces_of old.mesh))
        (sym (length_map position old.vertices))

    -- in the plane
    pub dropped :
        LocalMeshWithout v (map position old.vertices) (faces_of old.mesh) (outer_of old.mesh)
        → LocalMesh (map position new.vertices) (faces_of new.mesh) (outer_of new.mesh)
    dropped m = subst (λ (x : List Point × List Face × List (ℕ × ℕ)). LocalMesh x.0 x.1 x.2)
        (λ i. (sym points_left i, sym faces_left i, sym outer_left i))
        (last_takes_freed_index (map position old.vertices) (faces_of old.mesh)
        (outer_of old.mesh) v (position value) index_of_point m)

    -- no face comes
    pub dropped_faces : faces_of old.mesh ≡ [] → faces_of new.mesh ≡ []
    dropped_faces none = faces_left
        ∙ ap (map (renumbered v (length (map position old.vertices) - 1))) none

  -- the plain state without constraints
  pub removes_vertex : TakesOut position (record { vertices = old.vertices; constraints = [] })
      (record { vertices = new.vertices; constraints = [] }) v
  removes_vertex = record {
    here = index_within;
    vertices = λ d. vertices_left
        ∙ swap_remove_default old.vertices v value d (let h = index_within in omega (arith, h));
    constraints =
        λ a b. ((λ j. absurd (no_joins a b j)), (λ j. absurd (no_joins (old_of a) (old_of b) j.2)));
  }
    where
      old_of : ℕ → ℕ
      old_of k = if nat_eq k v then length old.vertices - 1 else k
