-- What a triangulation keeps where it gets one more vertex.
-- Lemmas: sides_at_most, edges_and_faces, gains, first_shape, few_on_line, second_shape,
-- extended_shape, split_shape.
use Rattle.std.proofs.Common.{◌≡◌, ◌≢◌, ◌⊎◌, ◌+◌, ◌*◌, ◌<◌, ◌≤◌, [], ◌∷◌, ◌++◌, ◌∙◌}
use Rattle.std.proofs.Common.{ℕ, List, length, map, refl, sym, ap, subst, inl, inr, arith}
use Rattle.std.proofs.Common.{length-append}
use Rattle.std.specs.Prelude.{All, pos, ℤ, ◌+ℤ◌}
use Rattle.std.proofs.lemmas.Int.{ints}
use Rattle.std.proofs.lemmas.List.{length-map, map-append}
use Rattle.std.proofs.lemmas.List.Elements.{All-push}
use Rattle.plane.specs.{Face, Fraction, InRange, IsIndex, IsPast, place, Point, whole}
use Rattle.half_edge_links.specs.{AreSoundLinks, IsThis, IsValidMesh, Mesh, OuterChanges}
use Rattle.half_edge_links.specs.{SplitsOuter, triangle_at, triangles, with_vertex}
use Rattle.half_edge_links.specs.Outline.{ExtendsOuter}
use Rattle.plane_theorems.specs.{alone, along, around, IsMesh, LineMesh, LocalMesh, total}
use Rattle.plane_theorems.proofs.{by_signs, Contains-head, corners_differ, hull_edges_count}
use Rattle.plane_theorems.proofs.{line_edges_count, Tiling.Totals.total-sum}
use Rattle.plane_theorems.proofs.{Tiling.LineMeshes.one_vertex, Tiling.Rising.total_ones}
use Rattle.half_edge_dcel.specs.{Contents, IsMeshWithData}
use Rattle.half_edge_dcel.proofs.Outlines.{empty_list, outer_changes}
use Rattle.delaunay_legalization.specs.{corners_of, edges_of, faces_of, IsApart, IsTriangulated}
use Rattle.delaunay_legalization.specs.{IsWithinEdge, MakesFacesAt, outer_of, state_of}
use Rattle.delaunay_legalization.proofs.{edges_counted, faces_counted, own_edges}
use Rattle.delaunay_legalization.proofs.MeshLines.{line_extended, line_split_at}
use Rattle.delaunay_vertices.specs.{CanTake, GainsVertex, GrowsAround}
use Rattle.delaunay_vertices.proofs.MadeFaces.{made_at_count}
use Rattle.plane_theorems.proofs.Tiling.Tiles as P

-- ---- counts
module _ {V D U F : Type 0} (c : Contents V D U F) (w : IsMeshWithData c) where
  -- each edge has two ways, and each face three sides
  pub sides_at_most : 3 * length c.faces ≤ 2 * length c.undirected
  sides_at_most =
      numbers (length (edges_of c.mesh)) (length (faces_of c.mesh)) (length (outer_of c.mesh))
      (length c.undirected) (length c.faces)
      (total (λ e. pos 1) (edges_of c.mesh)) (total (λ f. pos 1) (faces_of c.mesh))
      (total (λ e. pos 1) (outer_of c.mesh)) (total_ones (edges_of c.mesh))
      (total_ones (faces_of c.mesh)) (total_ones (outer_of c.mesh)) ways (edges_counted c w)
      (faces_counted c w)
    where
      ways : total (λ e. pos 1) (edges_of c.mesh) +ℤ total (λ e. pos 1) (edges_of c.mesh)
          ≡ total (λ f. pos 1) (faces_of c.mesh) +ℤ total (λ f. pos 1) (faces_of c.mesh)
          +ℤ total (λ f. pos 1) (faces_of c.mesh) +ℤ total (λ e. pos 1) (outer_of c.mesh)
      ways =
          sym (total-sum (λ e. pos 1) (λ e. pos 1) (edges_of c.mesh))
          ∙ own_edges c.mesh w.valid (λ _ _. pos 1)
          ∙ (λ i. total-sum (λ f. pos 1 +ℤ pos 1) (λ f. pos 1) (faces_of c.mesh) i
          +ℤ total (λ e. pos 1) (outer_of c.mesh))
          ∙ (λ i. total-sum (λ f. pos 1) (λ f. pos 1) (faces_of c.mesh) i
          +ℤ total (λ f. pos 1) (faces_of c.mesh) +ℤ total (λ e. pos 1) (outer_of c.mesh))

      numbers : (e f h u g : ℕ) (a b c : ℤ) → a ≡ pos e → b ≡ pos f → c ≡ pos h
          → a +ℤ a ≡ b +ℤ b +ℤ b +ℤ c → u ≡ e → g ≡ f → 3 * g ≤ 2 * u
      numbers e f h u g a b c i j k x p q = omega (arith, ints)

-- with a vertex, one edge fewer than vertices and faces
pub edges_and_faces : {V D U F : Type 0} (place : V → Point) (c : Contents V D U F)
    → IsMeshWithData c → IsMesh (map place c.vertices) (faces_of c.mesh) (outer_of c.mesh)
    → 0 < length c.vertices → length c.undirected + 1 ≡ length c.faces + length c.vertices
edges_and_faces place c w (inl m) some =
    let n = hull_edges_count (map place c.vertices) (faces_of c.mesh) (outer_of c.mesh)
    (edges_of c.mesh) m (own_edges c.mesh w.valid) in
    let e = n.0 in
    let f = n.1 in
    omega (arith, e, f, edges_counted c w, faces_counted c w, length-map c.vertices place)
edges_and_faces place c w (inr m) some =
    let n = line_edges_count (map place c.vertices) (outer_of c.mesh) (edges_of c.mesh) m.1
    (subst (λ fs. (f : ℕ → ℕ → ℤ) → total (λ e. f e.0 e.1 +ℤ f e.1 e.0) (edges_of c.mesh)
    ≡ total (around f) fs +ℤ total (along f) (outer_of c.mesh)) m.0
    (own_edges c.mesh w.valid)) in
    let none = ap length m.0 in
    omega (
      arith,
      n,
      none,
      some,
      edges_counted c w,
      faces_counted c w,
      length-map c.vertices place,
    )

-- ---- one vertex more
module _ {V D U F : Type 0} {at : V → Point} {new : Contents V D U F} {v : V}
    (old : Contents V D U F) (can : CanTake at v (state_of old))
    (vertices : new.vertices ≡ old.vertices ++ v ∷ []) (w : IsMeshWithData new) where
  -- the new vertex is in range, and the mesh is one of all points: the triangulation has grown by
  -- it
  grown : IsMesh (map at old.vertices ++ at v ∷ []) (faces_of new.mesh) (outer_of new.mesh)
      → IsTriangulated at (state_of new)
  grown mesh = record {
    in_range = subst (λ vs. All (λ u. InRange (at u)) vs) (sym vertices)
        (All-push (λ u. InRange (at u)) old.vertices v can.kept.in_range can.in_range);
    few_edges = omega (arith, counts, sides);
    few_faces = omega (arith, counts, sides);
    valid = w.valid;
    fits = w.fits;
    shape = shape;
  }
    where
      shape : IsMesh (map at new.vertices) (faces_of new.mesh) (outer_of new.mesh)
      shape = subst (λ ps. IsMesh ps (faces_of new.mesh) (outer_of new.mesh))
          (sym (ap (map at) vertices ∙ map-append at old.vertices (v ∷ []))) mesh

      counts : length new.undirected + 1 ≡ length new.faces + length new.vertices
      counts = edges_and_faces at new w shape
          (let n = ap length vertices ∙ length-append old.vertices (v ∷ []) in omega (arith, n))

      sides : 3 * length new.faces ≤ 2 * length new.undirected
      sides = sides_at_most new w

  -- so it gains the vertex, where all beside it stays and each face that came has it as a corner
  pub gains : {k : ℕ} → k ≡ length old.vertices
      → IsMesh (map at old.vertices ++ at v ∷ []) (faces_of new.mesh) (outer_of new.mesh)
      → GrowsAround (map at old.vertices) (at v) (state_of old) (state_of new)
      → MakesFacesAt k (faces_of old.mesh) (outer_of old.mesh) (faces_of new.mesh)
      → GainsVertex at v (state_of old) (state_of new) k
  gains {k} last mesh grows made = record {
    is = last;
    vertices = vertices;
    kept = grown mesh;
    grows = grows;
    made = made_at_count _ _ _ k (length old.vertices) last made;
  }

-- a mesh with few vertices has no face
bare_empty : (points : List Point) (faces : List Face) (outer : List (ℕ × ℕ)) → length points ≡ 0
    → IsMesh points faces outer → (faces ≡ []) × (outer ≡ [])
bare_empty points faces outer e (inl m) = absurd (go faces m)
  where
    go : (faces : List Face) → LocalMesh points faces outer → ⊥
    go [] m = m.some_face refl
    go (f ∷ fs) m = let c = (m.corners f (Contains-head f fs)).0 in omega (arith, e, c)
bare_empty points faces outer e (inr m) = (m.0, none outer m.1)
  where
    none : (outer : List (ℕ × ℕ)) → LineMesh points outer → outer ≡ []
    none [] m = refl
    none (x ∷ xs) m = absurd (let c = ((m.neighbours x.0 x.1).0 (Contains-head x xs)).first in
        omega (arith, e, c))

-- a mesh without vertices that gets its first vertex is still a mesh of its points
pub first_shape : (points : List Point) (q : Point) (m new : Mesh) → length points ≡ 0
    → new ≡ with_vertex m → IsMesh points (faces_of m) (outer_of m)
    → IsMesh (points ++ q ∷ []) (faces_of new) (outer_of new)
first_shape [] q m new e is shape =
    let b = bare_empty [] (faces_of m) (outer_of m) refl shape in
    subst (λ x. IsMesh (q ∷ []) (faces_of x) (outer_of x)) (sym is)
    (inr (b.0, subst (LineMesh (q ∷ [])) (sym b.1) (one_vertex q)))
first_shape (p ∷ ps) q m new e is shape = absurd (omega (arith, e))

-- a mesh without faces is a line
bare_line : (points : List Point) (m : Mesh) → length m.face_edges ≡ 0
    → IsMesh points (faces_of m) (outer_of m) → (faces_of m ≡ []) × LineMesh points (outer_of m)
bare_line points m bare (inl l) = absurd (l.some_face (empty_list (faces_of m)
    (length-map (triangles m) corners_of ∙ length-map m.face_edges (triangle_at m) ∙ bare)))
bare_line points m bare (inr l) = l

-- two points are on a line
pub few_on_line : (points : List Point) (faces : List Face) (outer : List (ℕ × ℕ))
    → length points ≤ 2 → IsMesh points faces outer → (faces ≡ []) × LineMesh points outer
few_on_line points faces outer few (inl m) =
    let s = by_signs points faces outer m in
    let c = s.corners s.some_face.0 s.some_face.1 in
    let d = corners_differ (P.point_at points) s.some_face.0.a s.some_face.0.b s.some_face.0.c
    (s.turning s.some_face.0 s.some_face.1) in
    absurd (three s.some_face.0.a s.some_face.0.b s.some_face.0.c few c.0 c.1 c.2 d.0 d.1 d.2)
  where
    three : (a b c : ℕ) → length points ≤ 2 → a < length points → b < length points
        → c < length points → a ≢ b → b ≢ c → c ≢ a → ⊥
    three a b c few h k l x y z = omega arith
few_on_line points faces outer few (inr m) = m

fresh_place : (points : List Point) (q : Point) → IsApart points q → (k : ℕ) → IsIndex points k
    → place points k ≢ whole q
fresh_place points q apart k h e =
    apart.apart k h (ap (λ (f : Fraction). (let p : Point = record { x = f.x; y = f.y } in p)) e)

-- a mesh of one vertex whose second vertex is joined to it is still a mesh of its points
pub second_shape : (points : List Point) (q : Point) (m new : Mesh) (a b : ℕ) → length points ≡ 1
    → AreSoundLinks m → length points ≡ length m.out_edges → IsMesh points (faces_of m) (outer_of m)
    → IsApart points q → a ≡ 0 → b ≡ length points → triangles new ≡ []
    → OuterChanges (with_vertex m) new (λ h. ⊥) (λ h i j. IsThis 0 a b h i j ⊎ IsThis 1 b a h i j)
    → IsMesh (points ++ q ∷ []) (faces_of new) (outer_of new)
second_shape points q m new a b one s fit shape apart first last none change =
    let l = few_on_line points (faces_of m) (outer_of m) (omega (arith, one)) shape in
    let here : 0 < length points = omega (arith, one) in
    inr (
      ap (map corners_of) none,
      line_extended points q m new 0 0 1 s fit l.1 here (fresh_place points q apart)
          (λ k k_in other. absurd (omega arith))
          (outer_changes m new (λ h. ⊥)
          (λ h i j. IsThis 0 0 (length points) h i j ⊎ IsThis 1 (length points) 0 h i j)
          (subst (λ (x : ℕ × ℕ). OuterChanges (with_vertex m) new (λ h. ⊥) (λ h i j. IsThis 0 x.0
          x.1 h i j ⊎ IsThis 1 x.1 x.0 h i j)) (λ i. (first i, last i)) change)),
    )

-- past the end i of a line
pub extended_shape : (points : List Point) (q : Point) (m new : Mesh) (i v n : ℕ)
    → length m.face_edges ≡ 0 → AreSoundLinks m → length points ≡ length m.out_edges
    → IsMesh points (faces_of m) (outer_of m) → IsApart points q → i < length points
    → v ≡ length points → IsPast (alone points) i (whole q) → triangles new ≡ []
    → ExtendsOuter m new i v n → IsMesh (points ++ q ∷ []) (faces_of new) (outer_of new)
extended_shape points q m new i v n bare s fit shape apart here last past none change =
    let l = bare_line points m bare shape in
    inr (
      ap (map corners_of) none,
      line_extended points q m new i n (n + 1) s fit l.1 here
          (fresh_place points q apart) past (subst (λ x. ExtendsOuter m new i x n) last change),
    )

-- strictly within an edge of a line
pub split_shape : (points : List Point) (q : Point) (m new : Mesh) (e v n : ℕ)
    → length m.face_edges ≡ 0 → IsValidMesh m → length points ≡ length m.out_edges
    → IsMesh points (faces_of m) (outer_of m) → e < length m.half_edges → v ≡ length points
    → IsWithinEdge points m q e → triangles new ≡ [] → SplitsOuter m new e v n
    → IsMesh (points ++ q ∷ []) (faces_of new) (outer_of new)
split_shape points q m new e v n bare w fit shape here last within none change =
    let l = bare_line points m bare shape in
    inr (
      ap (map corners_of) none,
      line_split_at points q m new e n w.sound w.apart fit bare l.1
          here within (subst (λ x. SplitsOuter m new e x n) last change),
    )
