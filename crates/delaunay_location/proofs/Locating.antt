-- A position that no vertex has, that is clear of each edge and inside no face, is past an end of a
-- line of vertices.
-- Lemmas: same_point, at_vertex, in_face, some_edge, past_end.
use Rattle.std.proofs.Common.{◌≡◌, ◌⊎◌, ◌+◌, ◌-◌, ◌<◌, ◌≤◌, [], ◌∙◌}
use Rattle.std.proofs.Common.{ℕ, List, length, map, get_or, sym, ap, subst, inl, inr, arith}
use Rattle.std.specs.Prelude.{ℤ, pos, ◌*ℤ◌, ◌≤ℤ◌, Contains}
use Rattle.std.proofs.lemmas.Int.{ints}
use Rattle.std.proofs.lemmas.Bool.{cases_eq}
use Rattle.std.proofs.lemmas.List.{length-map, get_or-map}
use Rattle.plane.specs.{Face, gap, HasFace, InsideTriangle, IsEdge, IsFace, IsLocation, IsOuter}
use Rattle.plane.specs.{IsPast, IsSame, Location, no_triangulation, on_edge, on_face, on_vertex}
use Rattle.plane.specs.{outside_hull, place, Point, TurnsLeft, whole, WithinSegment}
use Rattle.plane.proofs.{below_and_not_below, turned_inside}
use Rattle.half_edge_links.specs.{face, face_edge, Mesh, origin, rev, triangle_at, triangles}
use Rattle.plane_theorems.proofs.{by_signs, each_point_has_one_location, point_at}
use Rattle.delaunay_legalization.specs.{corners_of, drawn, edges_of, faces_of, IsApart}
use Rattle.delaunay_legalization.specs.{IsInsideFaceOf, IsTriangulated, outer_of, State.State}
use Rattle.delaunay_legalization.proofs.{joins_edge, mesh_edge, mesh_face, own_edges, real}
use Rattle.delaunay_legalization.proofs.{EdgePairs.Contains-map_from, Shapes.laid_out_distinct}
use Rattle.delaunay_legalization.proofs.MeshParts.{no_side}
use Rattle.delaunay_location.specs.{Locates, OnFace, OnVertex, OutsideOfConvexHull, StartsNearest}
use Rattle.delaunay_location.specs.Location.{IsClearOfEdge}
use Rattle.{delaunay_location.proofs.Distances.nearer_of_within, plane_theorems.specs.IsMesh}
use Rattle.plane.specs.Tiling as T
use Rattle.plane_theorems.proofs.Tiling.Loops as L
use Rattle.plane_theorems.proofs.Tiling.Places as P

same_number : (a b : ℤ) → a *ℤ pos 1 ≡ b *ℤ pos 1 → b ≡ a
same_number a b e = omega (arith, ints)

-- points that are at the same place of the plane are equal
pub same_point : (p q : Point) → IsSame (whole p) (whole q) → q ≡ p
same_point p q s =
    let x = same_number p.x q.x s.x in
    let y = same_number p.y q.y s.y in
    λ i. record { x = x i; y = y i }

module _ {V D U F : Type 0} (at : V → Point) (s : State V D U F) (kept : IsTriangulated at s)
    (p : Point) where
  abbrev points : List Point
  points = map at s.vertices

  abbrev m : Mesh
  m = s.mesh

  count : length points ≡ length s.vertices
  count = length-map s.vertices at

  -- a position that a vertex has is located on this vertex
  pub at_vertex : (v : ℕ) → v < length s.vertices → point_at points v ≡ p
      → Locates points m p (OnVertex v)
  at_vertex v h e = record {
    handle = (let f = kept.fits.vertices_fit in omega (arith, f, h));
    location = (
      omega (arith, h, count),
      (let same : p ≡ point_at points v = sym e in
          record { x = ap (λ q. q.x *ℤ pos 1) same; y = ap (λ q. q.y *ℤ pos 1) same }),
    );
  }

  -- a position strictly inside an inner face is located in this face
  pub in_face : (f : ℕ) → 0 < f → f ≤ length s.faces → IsInsideFaceOf points m p (face_edge m f)
      → Locates points m p (OnFace f)
  in_face f positive h i = record {
    handle = (positive, (let e = kept.fits.faces_fit in omega (arith, e, h)));
    location = ((mesh_face at s kept f positive h).listed, i);
  }

  module _ (apart : IsApart points p) (clear : (h : ℕ) → h < length s.directed
      → IsClearOfEdge points m p h) (outside : (f : ℕ) → 0 < f → f ≤ length s.faces
      → ¬ IsInsideFaceOf points m p (face_edge m f)) (several : 2 ≤ length s.vertices) where
    clear_at : (h : ℕ) → h < length m.half_edges → IsClearOfEdge points m p h
    clear_at h w = clear h (let f = kept.fits.directed_fit in omega (arith, f, w))

    not_on_edge : (i j : ℕ) → IsEdge (drawn points m) i j
        → ¬ WithinSegment (place points i) (place points j) (whole p)
    not_on_edge i j e w =
        let h = joins_edge m kept.valid.sound i j e in
        (clear_at h.0 h.1).not_within (rw (h.2, h.3) w)

    listed_face : (i j k : ℕ) → Contains (faces_of m) (T.face i j k)
        → ¬ InsideTriangle (place points i) (place points j) (place points k) (whole p)
    listed_face i j k c w =
        let r = Contains-map_from corners_of (triangles m) (triangle_at m 0) (T.face i j k) c in
        let index : r.0 < length m.face_edges = let l = r.1 in
        omega (arith, l, length-map m.face_edges (triangle_at m)) in
        let e = sym (ap corners_of
        (get_or-map (triangle_at m) m.face_edges r.0 0 (triangle_at m 0) index)) ∙ r.2 in
        let same : r.0 + 1 - 1 ≡ r.0 = omega arith in
        outside (r.0 + 1) (omega arith) (let f = kept.fits.faces_fit in omega (arith, f, index))
        (subst (IsInsideFaceOf points m p) (ap (λ k. get_or m.face_edges k 0) (sym same))
        (subst (λ (q : Face). InsideTriangle (place points q.a) (place points q.b)
        (place points q.c) (whole p)) (sym e) w))

    not_in_face : (i j k : ℕ) → IsFace (drawn points m) i j k
        → ¬ InsideTriangle (place points i) (place points j) (place points k) (whole p)
    not_in_face i j k (inl c) w = listed_face i j k c w
    not_in_face i j k (inr (inl c)) w = listed_face j k i c
        (turned_inside (place points i) (place points j) (place points k) (whole p) w)
    not_in_face i j k (inr (inr c)) w =
        listed_face k i j c (turned_inside (place points j) (place points k) (place points i)
        (whole p) (turned_inside (place points i) (place points j) (place points k) (whole p) w))

    not_left : (i j : ℕ) → IsOuter (drawn points m) i j
        → ¬ TurnsLeft (place points i) (place points j) (whole p)
    not_left i j o w =
        go (L.way_of_edge (faces_of m) (outer_of m) (edges_of m) (own_edges m kept.valid) i j o.0)
      where
        go : HasFace (drawn points m) i j ⊎ Contains (outer_of m) (i, j) → ⊥
        go (inl h) = o.1 h
        go (inr c) =
            let h = real m i j c in
            (clear_at h.0 h.1.within).not_left (h.1.outer, rw (h.1.source, h.1.target) w)

    beyond : (i : ℕ) × (j : ℕ) × IsOuter (drawn points m) i j × IsPast (drawn points m) i (whole p)
    beyond = go found.0 found.1
      where
        found : (l : Location) × IsLocation (drawn points m) (whole p) l
        found = (each_point_has_one_location points (faces_of m) (outer_of m)
            (edges_of m) kept.shape (own_edges m kept.valid) (whole p)).0

        go : (l : Location) → IsLocation (drawn points m) (whole p) l
            → (i : ℕ) × (j : ℕ) × IsOuter (drawn points m) i j × IsPast (drawn points m) i (whole p)
        go (on_vertex i) h = absurd (apart.apart i h.0 (same_point p (point_at points i) h.1))
        go (on_edge i j) h = absurd (not_on_edge i j h.0 h.1)
        go (on_face i j k) h = absurd (not_in_face i j k h.0 h.1)
        go (outside_hull i j) h =
            elim h.1 [ inl w ↦ absurd (not_left i j h.0 w) | inr w ↦ (i, j, h.0, w) ]
        go no_triangulation h = absurd (let few = h.0 in omega (arith, few, count, several))

    starts_there : (i j : ℕ) → IsOuter (drawn points m) i j
        → (h : ℕ) × (h < length m.half_edges) × (origin m h ≡ i) × (origin m (rev h) ≡ j)
    starts_there i j o = joins_edge m kept.valid.sound i j o.0

    -- with several vertices there is an edge
    pub some_edge : 0 < length s.directed
    some_edge =
        let b = beyond in
        let h = starts_there b.0 b.1 b.2 in
        let within : h.0 < length m.half_edges = h.1 in
        let f = kept.fits.directed_fit in omega (arith, f, within)

    is_line : (i : ℕ) → i < length points → IsPast (drawn points m) i (whole p) → faces_of m ≡ []
    is_line i h past = go kept.shape
      where
        go : IsMesh points (faces_of m) (outer_of m) → faces_of m ≡ []
        go (inl l) = absurd (P.none_beyond (length points) (point_at points) (faces_of m)
            (outer_of m) (by_signs points (faces_of m) (outer_of m) l) (whole p) i h past)
        go (inr l) = l.0

    -- the position is past the end of the line where the edge that starts nearest to it starts
    pub past_end : (e : ℕ) → StartsNearest points m p (length s.directed) e
        → Locates points m p (OutsideOfConvexHull e)
    past_end e near =
        let b = beyond in
        let h = starts_there b.0 b.1 b.2 in
        let h_in : h.0 < length s.directed =
        let f = kept.fits.directed_fit in let w = h.1 in omega (arith, f, w) in
        let i_in : b.0 < length points =
        subst (λ k. k < length points) h.2 (mesh_edge at s kept h.0 h_in).source in
        let own = mesh_edge at s kept e (let f = kept.fits.directed_fit in let w = near.within in
        omega (arith, f, w)) in
        let starts : origin m e ≡ b.0 =
        go b.0 i_in b.3 own.source (subst (λ k. gap (whole p) (place points (origin m e))
        ≤ℤ gap (whole p) (place points k)) h.2 (near.nearest h.0 h_in)) in
        let none = is_line b.0 i_in b.3 in
        let inside = (kept.valid.sound.edges e near.within).face_in in
        let no_faces : length m.face_edges ≡ 0 = sym (length-map m.face_edges (triangle_at m))
        ∙ sym (length-map (triangles m) corners_of) ∙ ap length none in
        let bare : face m e ≡ 0 = omega (arith, inside, no_faces) in
        record {
          handle = (near.within, bare);
          location = (
            (own.joined, no_side points m (origin m e) (origin m (rev e)) none),
            inr (subst (λ k. IsPast (drawn points m) k (whole p)) (sym starts) b.3),
          );
        }
      where
        go : (i : ℕ) → i < length points → IsPast (drawn points m) i (whole p)
            → origin m e < length points → gap (whole p) (place points (origin m e))
            ≤ℤ gap (whole p) (place points i) → origin m e ≡ i
        go i i_in past o_in least = elim (cases_eq (origin m e) i) [
          | inl same ↦ same
          | inr other ↦ absurd (below_and_not_below (gap (whole p) (place points i))
              (gap (whole p) (place points (origin m e)))
              (nearer_of_within p (point_at points (origin m e)) (point_at points i)
              (laid_out_distinct points (faces_of m) (outer_of m) kept.shape
              (origin m e) i o_in i_in other) (past (origin m e) o_in other)) least)
        ]
