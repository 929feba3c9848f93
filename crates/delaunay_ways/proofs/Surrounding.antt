-- Vertices that are corners of each closed face with a position, by its location.
-- Lemmas: hull_of, at_vertex, on_edge, in_face, beyond, told_as.
use Rattle.std.proofs.Common.{◌≡◌, ◌⊎◌, ◌<◌, ◌∷◌, [], ℕ, List, length, map}
use Rattle.std.proofs.Common.{subst, inl, inr, arith}
use Rattle.std.specs.Prelude.{All}
use Rattle.std.specs.Borrow.{Bor}
use Rattle.std.proofs.lemmas.List.{length-map}
use Rattle.std.proofs.lemmas.List.Elements.{All-cons}
use Rattle.plane.specs.{Face, IsVertex, Point, TilesHull, Triangulation, whole}
use Rattle.half_edge_links.specs.{face_edge, Mesh, next, origin, prev, rev}
use Rattle.{half_edge_links.proofs.rev_within, plane_theorems.proofs.Sight.Sights.in_free_by_place}
use Rattle.plane_theorems.specs.{IsLaid}
use Rattle.plane_theorems.proofs.Segments.Walking.LaidMeshes.{meshes_are_laid}
use Rattle.plane_theorems.proofs.Ways.Trails.{corners_at_vertex, corners_in_face, corners_on_edge}
use Rattle.delaunay_legalization.specs.{drawn, edges_of, faces_of, IsEmbedding, IsTriangulated}
use Rattle.delaunay_legalization.specs.{outer_of, state_of}
use Rattle.{delaunay_legalization.proofs.own_edges, half_edge_dcel.specs.Contents}
use Rattle.delaunay_location.specs.{Locates, NoTriangulation, OnEdge, OnFace, OnVertex}
use Rattle.delaunay_location.specs.{OutsideOfConvexHull, PositionInTriangulation, StartsOutside}
use Rattle.delaunay_location.proofs.Located.{outside_that_edge, without_triangulation}
use Rattle.delaunay_ways.specs.Ways.{IsInNone, IsSurrounded}

-- with a face, the faces tile the hull
pub hull_of : {V D U F : Type 0} (at : V → Point) (c : Contents V D U F)
    → IsTriangulated at (state_of c) → (n : ℕ) → n < length (faces_of c.mesh)
    → TilesHull (drawn (map at c.vertices) c.mesh)
hull_of {V} {D} {U} {F} at c kept n within = elim laid [
  | inl h ↦ h
  | inr l ↦ absurd (none (subst (λ (fs : List Face). n < length fs) l.0.no_face within))
]
  where
    laid : IsLaid (drawn (map at c.vertices) c.mesh)
    laid = meshes_are_laid (map at c.vertices) (faces_of c.mesh) (outer_of c.mesh)
        (edges_of c.mesh) kept.shape (own_edges c.mesh kept.valid)

    none : n < 0 → ⊥
    none k = omega (arith, k)

three : (P : ℕ → Type 0) (i j k : ℕ) → P i → P j → P k → All P (i ∷ j ∷ k ∷ [])
three P i j k x y z = All-cons P i (j ∷ k ∷ []) x (All-cons P j (k ∷ []) y (All-cons P k [] z
    (λ n d w. absurd (omega (arith, w)))))

module _ {V D U F P : Type 0} {at : V → Point} {IsSite : P → Point → Type 0}
    {c : Contents V D U F} {tests : P} (embedding : IsEmbedding at IsSite c tests) (p : Point) where
  abbrev m : Mesh
  m = c.mesh

  abbrev points : List Point
  points = map at c.vertices

  abbrev t : Triangulation
  t = drawn points m

  hull : (n : ℕ) → n < length t.faces → TilesHull t
  hull = hull_of at c embedding.kept

  exists : (v : ℕ) → v < length m.out_edges → IsVertex t v
  exists v w =
      let n = length-map c.vertices at in
      let f = embedding.kept.fits.vertices_fit in
      omega (arith, n, f, w)

  start : (h : ℕ) → h < length m.half_edges → IsVertex t (origin m h)
  start h w = exists (origin m h) (embedding.kept.valid.sound.edges h w).origin_in

  pub at_vertex : (v : ℕ) → Locates points m p (OnVertex v)
      → IsSurrounded t (whole p) (v ∷ v ∷ v ∷ [])
  at_vertex v l = record {
    some = omega arith;
    corners = corners_at_vertex t hull v (whole p) l.location.0 l.location.1;
    exist = three (IsVertex t) v v v l.location.0 l.location.0 l.location.0;
  }

  pub on_edge : (e : ℕ) → Locates points m p (OnEdge e)
      → IsSurrounded t (whole p) (origin m e ∷ origin m (rev e) ∷ origin m (rev e) ∷ [])
  on_edge e l = record {
    some = omega arith;
    corners = corners_on_edge t hull (origin m e) (origin m (rev e)) (whole p) l.location.0
        l.location.1;
    exist = three (IsVertex t) (origin m e) (origin m (rev e)) (origin m (rev e))
        (start e l.handle) end end;
  }
    where
      end : IsVertex t (origin m (rev e))
      end = start (rev e)
          (rev_within e (length m.half_edges) embedding.kept.valid.sound.even l.handle)

  pub in_face : (f : ℕ) → Locates points m p (OnFace f) → IsSurrounded t (whole p)
      (origin m (face_edge m f) ∷ origin m (next m (face_edge m f))
      ∷ origin m (prev m (face_edge m f)) ∷ [])
  in_face f l =
      let within = (embedding.kept.valid.sound.faces f l.handle.0 l.handle.1).0 in
      let edge = embedding.kept.valid.sound.edges (face_edge m f) within in record {
        some = omega arith;
        corners = corners_in_face t hull (origin m (face_edge m f))
            (origin m (next m (face_edge m f))) (origin m (prev m (face_edge m f))) (whole p)
            l.location.0 l.location.1;
        exist = three (IsVertex t) (origin m (face_edge m f)) (origin m (next m (face_edge m f)))
            (origin m (prev m (face_edge m f))) (start (face_edge m f) within)
            (start (next m (face_edge m f)) edge.next_in)
            (start (prev m (face_edge m f)) edge.prev_in);
      }

  outside : StartsOutside t p → IsInNone t (whole p)
  outside s free o =
      let h = hull o.index o.within in
      let e = s.left_of h in
      (in_free_by_place t h free (whole p)).3 e.0 e.1 e.2 e.3 o

  -- beyond the hull, or where there is no face, it is in none
  pub beyond : (r : PositionInTriangulation)
      → ((e : ℕ) × (r ≡ OutsideOfConvexHull e)) ⊎ (r ≡ NoTriangulation) → Locates points m p r
      → IsInNone t (whole p)
  beyond r (inl is) l = outside (outside_that_edge embedding is.0
      (subst (Locates points m p) is.1 l))
  beyond r (inr is) l = outside (without_triangulation embedding
      (subst (Locates points m p) is l))

-- what a handle tells of the mesh that it is from
pub told_as : {V D U F : Type 0} (f : Mesh → ℕ → ℕ) (d e : Bor (Contents V D U F)) (i h j : ℕ)
    → d ≡ e → i ≡ h → j ≡ f d.now.mesh i → j ≡ f e.now.mesh h
told_as {V} {D} {U} {F} f d e i h j same is s =
    subst (λ (b : Bor (Contents V D U F)). j ≡ f b.now.mesh h) same
    (subst (λ (k : ℕ). j ≡ f d.now.mesh k) is s)
