-- Where a segment starts, by the answer to where its start is.
-- Lemmas: on_that_vertex, from_that_vertex, inside_that_face, none_past, outside_that_edge,
-- without_triangulation.
use Rattle.std.proofs.Common.{◌≡◌, ℕ, ◌<◌, ◌≤◌, List, length, map, Some}
use Rattle.std.proofs.Common.{sym, subst, inl, inr, arith}
use Rattle.plane.specs.{InsideTriangle, IsEdge, IsLocation, IsOuter, IsPast, IsSame, IsVertex, left}
use Rattle.plane.specs.{Location, no_triangulation, on, on_edge, on_face, on_vertex, OnSegment}
use Rattle.plane.specs.{outside_hull, place, Point, Side, side, TilesHull, Triangulation, TurnsLeft}
use Rattle.plane.specs.{vertex, whole, WithinSegment}
use Rattle.plane.proofs.{bracket-same, if_left, left_not_zero, vec}
use Rattle.half_edge_links.specs.{face_edge, Mesh, origin, prev, rev}
use Rattle.plane_theorems.proofs.{by_signs, each_point_has_one_location, edge_flipped, on_parts}
use Rattle.{plane_theorems.proofs.one_point, plane_theorems.specs.IsSameLocation}
use Rattle.half_edge_dcel.specs.{Contents}
use Rattle.delaunay_legalization.specs.{drawn, edges_of, faces_of, IsEmbedding, outer_of, point_at}
use Rattle.delaunay_legalization.proofs.{joins_edge, own_edges}
use Rattle.delaunay_location.specs.{Locates, NoTriangulation, OnFace, OnVertex, OutsideOfConvexHull}
use Rattle.delaunay_location.specs.{Starts.StartsInside, StartsOutside, Vertex, Walk.Starts}
use Rattle.delaunay_location.proofs.{Advance.starts_at_vertex, MeshSteps.start_in}
use Rattle.plane_theorems.proofs.Tiling.Places as Places

-- neither on a vertex, nor on an edge, nor in a face
abbrev IsBare : Location → Type 0
IsBare (on_vertex i) = ⊥
IsBare (on_edge i j) = ⊥
IsBare (on_face i j k) = ⊥
IsBare (outside_hull i j) = Unit {0}
IsBare no_triangulation = Unit {0}

same_index : (n i j : ℕ) → n ≤ 1 → i < n → j < n → i ≡ j
same_index n i j few a b = omega (arith, few, a, b)

-- three of fewer than two vertices turn nowhere
too_few : (t : Triangulation) (i j k : ℕ) → IsVertex t i → IsVertex t j →
    TurnsLeft (vertex t i) (vertex t j) (vertex t k) → length t.points ≤ 1 → ⊥
too_few t i j k a b turns few = left_not_zero
    (if_left (vertex t i) (vertex t i) (vertex t k)
    (subst (λ (n : ℕ). TurnsLeft (vertex t i) (vertex t n) (vertex t k))
    (sym (same_index (length t.points) i j few a b)) turns))
    (bracket-same (vec (vertex t i)) (vec (vertex t k)))

not_left : (z : Side) → z ≡ on → z ≡ left → ⊥
not_left z e f = cc

module _ {V D U F P : Type 0} {at : V → Point} {IsSite : P → Point → Type 0}
    {c : Contents V D U F} {tests : P} (embedding : IsEmbedding at IsSite c tests) where
  abbrev m : Mesh
  m = c.mesh

  abbrev points : List Point
  points = map at c.vertices

  abbrev t : Triangulation
  t = drawn points m

  -- p has one location
  one : (p : Point) (a b : Location) → IsLocation t (whole p) a → IsLocation t (whole p) b
      → IsSameLocation a b
  one p = (each_point_has_one_location points (faces_of m) (outer_of m) (edges_of m)
      embedding.kept.shape (own_edges m embedding.kept.valid) (whole p)).1

  -- located on a vertex, p is where this vertex is
  pub on_that_vertex : {p : Point} (v : ℕ) → Locates points m p (OnVertex v)
      → (v < length c.vertices) × (point_at points v ≡ p)
  on_that_vertex {p = p} v l = (
    subst (λ (n : ℕ). v < n) (sym embedding.kept.fits.vertices_fit) l.handle,
    sym (one_point p (point_at points v) l.location.1),
  )

  -- and the walk starts there
  pub from_that_vertex : {p q : Point} (v : ℕ) → Locates points m p (OnVertex v)
      → Starts at c p q (Some (Vertex v))
  from_that_vertex v l =
      let here = on_that_vertex v l in starts_at_vertex embedding v here.0 (sym here.1)

  -- located in a face, p is strictly inside it
  pub inside_that_face : {p : Point} (f : ℕ) → Locates points m p (OnFace f)
      → StartsInside points m p (face_edge m f)
  inside_that_face {p = p} f l =
      let r = embedding.kept.valid.sound.faces f l.handle.0 l.handle.1 in record {
        inner = subst (λ (k : ℕ). 0 < k) (sym r.1) l.handle.0;
        inside = subst
            (λ (k : ℕ). InsideTriangle (place points (origin m (face_edge m f))) (place points k)
            (place points (origin m (prev m (face_edge m f)))) (whole p))
            (embedding.kept.valid.sound.edges (face_edge m f) r.0).starts l.location.1;
      }

  no_vertex_there : (p : Point) (l : Location) → IsBare l → IsLocation t (whole p) l → (k : ℕ)
      → IsVertex t k → ¬ IsSame (whole p) (vertex t k)
  no_vertex_there p (on_vertex i) away is k h s = away
  no_vertex_there p (on_edge i j) away is k h s = away
  no_vertex_there p (on_face i j n) away is k h s = away
  no_vertex_there p (outside_hull i j) away is k h s =
      one p (outside_hull i j) (on_vertex k) is (h, s)
  no_vertex_there p no_triangulation away is k h s = one p no_triangulation (on_vertex k) is (h, s)

  start_of_edge : (i j : ℕ) → IsEdge t i j → IsVertex t i
  start_of_edge i j e =
      let h = joins_edge m embedding.kept.valid.sound i j e in
      subst (λ (k : ℕ). k < length points) h.2 (start_in embedding h.0 h.1)

  no_edge_there : (p : Point) (l : Location) → IsBare l → IsLocation t (whole p) l → (i j : ℕ)
      → IsEdge t i j → ¬ OnSegment (vertex t i) (vertex t j) (whole p)
  no_edge_there p l away is i j e o =
      elim (on_parts (vertex t i) (vertex t j) (whole p) o) as (λ _. ⊥) [
        | inl s ↦ no_vertex_there p l away is i (start_of_edge i j e) s
        | inr x ↦ elim x as (λ _. ⊥) [
          | inl s ↦ no_vertex_there p l away is j (start_of_edge j i (edge_flipped t i j e)) s
          | inr w ↦ within l away is w
        ]
      ]
    where
      within : (l : Location) → IsBare l → IsLocation t (whole p) l →
          WithinSegment (vertex t i) (vertex t j) (whole p) → ⊥
      within (on_vertex k) away is w = away
      within (on_edge k n) away is w = away
      within (on_face f g h) away is w = away
      within (outside_hull k n) away is w = one p (outside_hull k n) (on_edge i j) is (e, w)
      within no_triangulation away is w = one p no_triangulation (on_edge i j) is (e, w)

  -- where faces tile the hull, no position is past the end of a line
  pub none_past : TilesHull t → (p : Point) (i : ℕ) → IsVertex t i → ¬ IsPast t i (whole p)
  none_past tiles p i v past = elim embedding.kept.shape as (λ _. ⊥) [
    | inl l ↦ Places.none_beyond (length points) (point_at points) (faces_of m) (outer_of m)
        (by_signs points (faces_of m) (outer_of m) l) (whole p) i v past
    | inr l ↦ (let s = tiles.spread in not_left (side (vertex t s.0) (vertex t s.1) (vertex t s.2))
        (l.1.straight s.0 s.1 s.2 s.3 s.4 s.5) s.6)
  ]

  left_of_outer : (p : Point) (l : Location) → IsBare l → IsLocation t (whole p) l → TilesHull t →
      (i : ℕ) × (j : ℕ) × IsOuter t i j × TurnsLeft (vertex t i) (vertex t j) (whole p)
  left_of_outer p (on_vertex i) away is tiles = absurd away
  left_of_outer p (on_edge i j) away is tiles = absurd away
  left_of_outer p (on_face i j k) away is tiles = absurd away
  left_of_outer p (outside_hull i j) away is tiles = elim is.1 [
    | inl w ↦ (i, j, is.0, w)
    | inr past ↦ absurd (none_past tiles p i (start_of_edge i j is.0.0) past)
  ]
  left_of_outer p no_triangulation away is tiles =
      (let s = tiles.spread in absurd (too_few t s.0 s.1 s.2 s.3 s.4 s.6 is.0))

  outside : (p : Point) (l : Location) → IsBare l → IsLocation t (whole p) l → StartsOutside t p
  outside p l away is = record {
    no_vertex = no_vertex_there p l away is;
    no_edge = no_edge_there p l away is;
    left_of = left_of_outer p l away is;
  }

  -- located outside the hull, p is where a segment starts outside
  pub outside_that_edge : {p : Point} (e : ℕ) → Locates points m p (OutsideOfConvexHull e)
      → StartsOutside t p
  outside_that_edge {p = p} e l =
      outside p (outside_hull (origin m e) (origin m (rev e))) tt l.location

  -- so it is where there is no triangulation
  pub without_triangulation : {p : Point} → Locates points m p NoTriangulation → StartsOutside t p
  without_triangulation {p = p} l = outside p no_triangulation tt l.location
