-- A mesh with faces gets one more vertex, inside a face or within an edge.
-- Lemmas: within_side_shape, inside_gains, hull_gains.
use Rattle.std.proofs.Common.{◌≡◌, ◌/◌, ◌<◌, ◌≤◌, [], ◌∷◌, ◌++◌, ◌∙◌}
use Rattle.std.proofs.Common.{ℕ, List, length, map, sym, ap, subst, inl, inr, arith}
use Rattle.std.proofs.lemmas.List.{length-map}
use Rattle.plane.specs.{place, Point, whole, WithinSegment}
use Rattle.half_edge_links.specs.{AreSoundLinks, Ends, face_edge, HalfSplitsTriangles}
use Rattle.half_edge_links.specs.{InsertsTriangles, IsFlippable, IsHalfSplittable, IsInnerEdge}
use Rattle.half_edge_links.specs.{IsValidMesh, KeepsOuter, Mesh, next, origin, ReplacesOuter, rev}
use Rattle.half_edge_links.specs.{SplitsTriangles, triangle_at, triangles}
use Rattle.plane_theorems.specs.{IsMesh, LocalMesh}
use Rattle.plane_theorems.proofs.{turned_within}
use Rattle.half_edge_dcel.specs.{AddsData, AddsEdges, Contents, edges, SplitsEdge}
use Rattle.half_edge_dcel.specs.Shapes.{InsertsInFace, SplitsBesideOuter}
use Rattle.delaunay_legalization.specs.{corners_of, faces_of, IsInsideFaceOf, IsWithinEdge}
use Rattle.delaunay_legalization.specs.{outer_of, state_of}
use Rattle.delaunay_legalization.proofs.MeshEdits.{insertion_inside, insertion_within_outer}
use Rattle.delaunay_legalization.proofs.MeshEdits.{insertion_within_side}
use Rattle.delaunay_vertices.specs.{CanTake, GainsVertex, Growth.CanSplit}
use Rattle.delaunay_vertices.proofs.DataGrowing.{grows_inside, grows_within_hull}
use Rattle.{delaunay_vertices.proofs.Growing.gains, half_edge_dcel.specs.GrownData.MovesData}
use Rattle.delaunay_vertices.proofs.MadeFaces.{made_inside, made_within_outer}

-- a mesh with an edge of an inner face is not a line
with_faces : (points : List Point) (m : Mesh) (e : ℕ) → AreSoundLinks m → IsInnerEdge m e
    → IsMesh points (faces_of m) (outer_of m) → LocalMesh points (faces_of m) (outer_of m)
with_faces points m e s x (inl l) = l
with_faces points m e s x (inr l) =
    let bare : length m.face_edges ≡ 0 = sym (length-map m.face_edges (triangle_at m))
    ∙ sym (length-map (triangles m) corners_of) ∙ ap length l.0 in
    let f = (s.edges e x.0).face_in in
    let i = x.1 in
    absurd (omega (arith, bare, f, i))

module _ (points : List Point) (q : Point) (m new : Mesh) (v : ℕ) (w : IsValidMesh m)
    (shape : IsMesh points (faces_of m) (outer_of m)) (last : v ≡ length points) where
  -- strictly inside face f
  inside_shape : (f : ℕ) → 0 < f → f ≤ length m.face_edges
      → IsInsideFaceOf points m q (face_edge m f) → InsertsTriangles m new v (face_edge m f)
      → KeepsOuter m new → IsMesh (points ++ q ∷ []) (faces_of new) (outer_of new)
  inside_shape f positive within inside change outer =
      let h = w.sound.faces f positive within in
      let x : IsInnerEdge m (face_edge m f) = (h.0, subst (λ k. 0 < k) (sym h.1) positive) in
      inl (insertion_inside points q m new (face_edge m f) w.sound x
      (with_faces points m (face_edge m f) w.sound x shape) inside
      (subst (λ k. InsertsTriangles m new k (face_edge m f)) last change) outer)

  -- strictly within the edge e between two faces
  pub within_side_shape : (e : ℕ) → IsFlippable m e → IsWithinEdge points m q e
      → SplitsTriangles m new v e → KeepsOuter m new
      → IsMesh (points ++ q ∷ []) (faces_of new) (outer_of new)
  within_side_shape e x within change outer =
      inl (insertion_within_side points q m new e w.sound x
      (with_faces points m e w.sound (x.within, x.inner) shape)
      (subst (λ k. WithinSegment (place points (origin m e)) (place points k) (whole q))
      (sym (w.sound.edges e x.within).starts) within)
      (subst (λ k. SplitsTriangles m new k e) last change) outer)

  -- strictly within the edge e, with the outer face on its right
  within_outer_shape : (e a b : ℕ) → IsHalfSplittable m e → length points ≡ length m.out_edges
      → IsWithinEdge points m q e → HalfSplitsTriangles m new v e
      → ReplacesOuter m new (rev e) v a b → IsMesh (points ++ q ∷ []) (faces_of new) (outer_of new)
  within_outer_shape e a b x fit within change outer =
      inl (insertion_within_outer points q m new e a b w.sound x fit
      (with_faces points m e w.sound (x.within, x.inner) shape)
      (turned_within (place points (origin m e)) (place points (origin m (next m e))) (whole q)
      (subst (λ k. WithinSegment (place points (origin m e)) (place points k) (whole q))
      (sym (w.sound.edges e x.within).starts) within))
      (subst (λ k. HalfSplitsTriangles m new k e) last change)
      (subst (λ k. ReplacesOuter m new (rev e) k a b) last outer))

-- strictly inside face f: what `insert_into_triangle` does makes a triangulation gain the vertex
pub inside_gains : {V D U F : Type 0} {at : V → Point} {v : V} {DP : D → Type 0} {P : U → Type 0}
    {FP : F → Type 0} {new : Contents V D U F} {k : ℕ} {added : List Ends} (old : Contents V D U F)
    (f : ℕ) → CanTake at v (state_of old) → 0 < f → f ≤ length old.mesh.face_edges
    → IsInsideFaceOf (map at old.vertices) old.mesh (at v) (face_edge old.mesh f)
    → k ≡ length old.vertices → InsertsInFace old.mesh new.mesh k (face_edge old.mesh f)
    → AddsData DP P FP (old.vertices ++ v ∷ []) old new 6 3 2
    → AddsEdges P (edges old) (edges new) added → GainsVertex at v (state_of old) (state_of new) k
inside_gains {at = at} {new = new} {k = k} old f can positive within inside is links brings edged =
    let kept = can.kept in
    let last = is ∙ sym (length-map old.vertices at) in
    let listed : f ≤ length old.faces = rw kept.fits.faces_fit within in
    gains old can (ap (λ d. d.vertices) brings.contents) brings.whole is
    (inside_shape _ _ old.mesh _ _ kept.valid kept.shape last f positive within inside
    links.triangles links.outer)
    (grows_inside old new kept.valid kept.fits brings.whole _ _ k f positive listed inside brings
    edged links.triangles)
    (made_inside _ old.mesh new.mesh _ kept.valid kept.shape last f positive within links.triangles)

-- strictly within an edge with the outer face on its right, by what `split_half_edge` does
pub hull_gains : {V D U F : Type 0} {at : V → Point} {v : V} {DP : D → Type 0} {P : U → Type 0}
    {FP : F → Type 0} {new : Contents V D U F} {k n : ℕ} {turned first : Ends} {others : List Ends}
    (old : Contents V D U F) (e : ℕ) → CanSplit at v (state_of old) e → IsHalfSplittable old.mesh e
    → k ≡ length old.vertices → SplitsBesideOuter old.mesh new.mesh n k e
    → MovesData DP P FP (old.vertices ++ v ∷ []) old new e 2 1 1
    → SplitsEdge P (edges old) (edges new) (e / 2) turned first others
    → GainsVertex at v (state_of old) (state_of new) k
hull_gains {at = at} {new = new} old e can half is links brings edged =
    let kept = can.takes.kept in
    let places = length-map old.vertices at in
    let last = is ∙ sym places in
    gains old can.takes (ap (λ d. d.vertices) brings.contents) brings.whole is
    (within_outer_shape _ _ old.mesh _ _ kept.valid kept.shape last e _ _ half
    (places ∙ kept.fits.vertices_fit) can.on_edge links.triangles links.outer)
    (grows_within_hull old new kept.valid kept.fits brings.whole _ _ e _ half.within half.inner
    can.on_edge brings edged links.triangles)
    (made_within_outer _ old.mesh new.mesh _ kept.valid kept.shape last e (half.within, half.inner)
    links.triangles)
