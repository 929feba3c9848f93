-- Edges and faces of the mesh as edges and faces of the triangulation.
-- Lemmas: no_side, outer_bare, mesh_edge, mesh_face.
use Rattle.std.proofs.Common.{◌≡◌, ◌⊎◌, ◌-◌, ◌<◌, ◌≤◌, []}
use Rattle.std.proofs.Common.{ℕ, List, length, map, refl, ap, subst, inl, inr, arith}
use Rattle.std.specs.Prelude.{Contains, pos}
use Rattle.std.proofs.lemmas.List.Elements.{All-get_or, All-map}
use Rattle.std.proofs.lemmas.List.{length-map, get_or-map}
use Rattle.plane.specs.{HasFace, InRange, IsFace, IsTiling, place, Point, TurnsLeft}
use Rattle.half_edge_links.specs.{face_edge, Mesh, next, origin, prev, rev, triangle_at, triangles}
use Rattle.plane_theorems.specs.{IsMesh}
use Rattle.plane_theorems.proofs.{by_signs, Contains-none, point_at}
use Rattle.delaunay_legalization.specs.{corners_of, drawn, faces_of, IsMeshEdge, IsMeshFace}
use Rattle.delaunay_legalization.specs.{IsTriangulated, outer_of, State.State}
use Rattle.delaunay_legalization.proofs.EdgePairs.{Contains-map, edge_joins}
use Rattle.{delaunay_legalization.proofs.OuterEdges.listed, half_edge_links.proofs.rev_within}
use Rattle.delaunay_legalization.proofs.Shapes.{laid_out_distinct, laid_out_tiles}
use Rattle.plane.specs.Tiling as T
use Rattle.plane_theorems.proofs.Tiling.Loops as L

-- there is no face where there is none in the list
pub no_side : (points : List Point) (m : Mesh) (i j : ℕ) → faces_of m ≡ []
    → ¬ HasFace (drawn points m) i j
no_side points m i j e h = go (subst (λ fs. Contains fs (T.face i j h.0)
    ⊎ (Contains fs (T.face j h.0 i) ⊎ Contains fs (T.face h.0 i j))) e h.1)
  where
    go : Contains [] (T.face i j h.0)
        ⊎ (Contains [] (T.face j h.0 i) ⊎ Contains [] (T.face h.0 i j)) → ⊥
    go (inl c) = Contains-none (T.face i j h.0) c
    go (inr (inl c)) = Contains-none (T.face j h.0 i) c
    go (inr (inr c)) = Contains-none (T.face h.0 i j) c

-- an edge with the outer face on its left has no face there
pub outer_bare : (points : List Point) (m : Mesh) (i j : ℕ)
    → IsMesh points (faces_of m) (outer_of m) → Contains (outer_of m) (i, j)
    → ¬ HasFace (drawn points m) i j
outer_bare points m i j (inl s) c = L.outer_is_no_side (length points) (point_at points)
    (faces_of m) (outer_of m) (by_signs points (faces_of m) (outer_of m) s) i j c
outer_bare points m i j (inr s) c = no_side points m i j s.0

face_in_tiling : (points : List Point) (m : Mesh) (i j k : ℕ) → IsTiling (drawn points m)
    → IsFace (drawn points m) i j k → TurnsLeft (place points i) (place points j) (place points k)
face_in_tiling points m i j k (inl t) h = t.turning i j k h
face_in_tiling points m i j k (inr t) h = absurd (no_side points m i j t.no_face (k, h))

module _ {V D U F : Type 0} (at : V → Point) (c : State V D U F) (kept : IsTriangulated at c) where
  abbrev points : List Point
  points = map at c.vertices

  vertex_in : (h : ℕ) → h < length c.mesh.half_edges → origin c.mesh h < length points
  vertex_in h w =
      let o = (kept.valid.sound.edges h w).origin_in in
      let f = kept.fits.vertices_fit in
      omega (arith, length-map c.vertices at, o, f)

  -- a directed edge of the triangulation is an edge of the mesh
  pub mesh_edge : (e : ℕ) → e < length c.directed → IsMeshEdge points c.mesh e
  mesh_edge e h =
      let w : e < length c.mesh.half_edges = let f = kept.fits.directed_fit in
      omega (arith, f, h) in
      let v = rev_within e (length c.mesh.half_edges) kept.valid.sound.even w in
      let source = vertex_in e w in
      let target = vertex_in (rev e) v in
      record {
        within = w;
        source = source;
        source_in_range = All-get_or InRange points (origin c.mesh e)
            (record { x = pos 0; y = pos 0 }) source (All-map InRange at c.vertices kept.in_range);
        target = target;
        joined = edge_joins c.mesh kept.valid.sound e w;
        apart = laid_out_distinct points (faces_of c.mesh) (outer_of c.mesh) kept.shape
            (origin c.mesh e) (origin c.mesh (rev e)) source target (kept.valid.apart e w);
        bare = λ z. outer_bare points c.mesh (origin c.mesh e) (origin c.mesh (rev e)) kept.shape
            (listed c.mesh e (origin c.mesh e) (origin c.mesh (rev e))
            (record { within = w; outer = z; source = refl; target = refl }));
      }

  -- an inner face of the triangulation is a face of the mesh
  pub mesh_face : (f : ℕ) → 0 < f → f ≤ length c.faces → IsMeshFace points c.mesh f
  mesh_face f positive h =
      let m = c.mesh in
      let inside : f ≤ length m.face_edges = let e = kept.fits.faces_fit in omega (arith, e, h) in
      let w = (kept.valid.sound.faces f positive inside).0 in
      let s = kept.valid.sound.edges (face_edge m f) w in
      let index : f - 1 < length m.face_edges = omega (arith, inside, positive) in
      let listed : IsFace (drawn points m) (origin m (face_edge m f))
      (origin m (next m (face_edge m f))) (origin m (prev m (face_edge m f))) =
      inl (Contains-map corners_of (triangles m) (f - 1) (triangle_at m 0)
      (corners_of (triangle_at m (face_edge m f)))
      (omega (arith, length-map m.face_edges (triangle_at m), index)) (ap corners_of
      (get_or-map (triangle_at m) m.face_edges (f - 1) 0 (triangle_at m 0) index))) in
      record {
        first = vertex_in (face_edge m f) w;
        second = vertex_in (next m (face_edge m f)) s.next_in;
        third = vertex_in (prev m (face_edge m f)) s.prev_in;
        listed = listed;
        turning = face_in_tiling points m (origin m (face_edge m f))
            (origin m (next m (face_edge m f))) (origin m (prev m (face_edge m f)))
            (laid_out_tiles points m kept.valid kept.shape) listed;
      }
