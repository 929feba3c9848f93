-- A value that was put in or took the place of another is at its index, and is located there.
-- Lemmas: appended_points, appended_point, inserted_here, vertex_is_located, insertion_is_located.
use Rattle.std.proofs.Common.{◌≡◌, ◌<◌, [], ◌∷◌, ◌++◌, ◌∙◌}
use Rattle.std.proofs.Common.{ℕ, List, length, map, sym, ap, subst, inl, inr, arith}
use Rattle.std.specs.Prelude.{pos}
use Rattle.std.proofs.lemmas.List.{length-append, length-map, length-set, map-append, map-set}
use Rattle.std.proofs.lemmas.List.{get_or_push, get_or-set_same}
use Rattle.plane.specs.{Appends, Inserts, IsLocation, Location, on_vertex, Plain, Point, points_of}
use Rattle.{plane_theorems.proofs.each_point_has_one_location, plane_theorems.specs.IsSameLocation}
use Rattle.delaunay_legalization.specs.{edges_of, faces_of, IsTriangulated, outer_of, point_at}
use Rattle.delaunay_legalization.specs.{points_and_constraints_by, State.State, triangulation_of}
use Rattle.delaunay_legalization.proofs.{own_edges}
use Rattle.delaunay_location.specs.{location_of, NoTriangulation, OnEdge, OnFace, OnVertex}
use Rattle.delaunay_location.specs.{OutsideOfConvexHull, PositionInTriangulation}
use Rattle.{delaunay_location.proofs.Locating.at_vertex, plane.specs.Replaces, plane.specs.whole}
use Rattle.delaunay_edit.specs.{FindsLocation, IsWellFormed}

module _ {V : Type 0} (position : V → Point) (old new : Plain V) (v : V) where
  -- a value that was put in comes last
  pub appended_points : Appends position old new v
      → points_of position new ≡ points_of position old ++ position v ∷ []
  appended_points a = ap (map position) a.vertices ∙ map-append position old.vertices (v ∷ [])

  -- and is at its position
  pub appended_point : Appends position old new v
      → point_at (points_of position new) (length old.vertices) ≡ position v
  appended_point a = ap (λ ps. point_at ps (length old.vertices)) (appended_points a)
      ∙ get_or_push (points_of position old) (position v) (record { x = pos 0; y = pos 0 })
      (length old.vertices) (length-map old.vertices position)

  appended_below : Appends position old new v → length old.vertices < length new.vertices
  appended_below a = let longer = ap length a.vertices in
      omega (arith, longer, length-append old.vertices (v ∷ []))

  -- and so is a value that took the place of vertex i
  replaced_point : (i : ℕ) → Replaces position old new i v
      → point_at (points_of position new) i ≡ position v
  replaced_point i r = ap (λ vs. point_at (map position vs) i) r.vertices
      ∙ ap (λ ps. point_at ps i) (map-set position old.vertices i v)
      ∙ get_or-set_same (points_of position old) i (position v) (record { x = pos 0; y = pos 0 })
      (subst (λ n. i < n) (sym (length-map old.vertices position)) r.here)

  replaced_below : (i : ℕ) → Replaces position old new i v → i < length new.vertices
  replaced_below i r = let same = ap length r.vertices in
      let here = r.here in omega (arith, same, here, length-set old.vertices i v)

  -- a value that was inserted is at the index that its insertion gave
  pub inserted_here : (i : ℕ) → Inserts position old new v i
      → (i < length new.vertices) × (point_at (points_of position new) i ≡ position v)
  inserted_here i (inl r) = (replaced_below i r, replaced_point i r)
  inserted_here i (inr (is, a)) = (
    subst (λ k. k < length new.vertices) (sym is) (appended_below a),
    ap (point_at (points_of position new)) is ∙ appended_point a,
  )

module _ {V D U F : Type 0} (position : V → Point) (s : State V D U F) where
  -- where a vertex is, each location is on this vertex
  pub vertex_is_located : IsTriangulated position s → (p : Point) (i : ℕ) → i < length s.vertices
      → point_at (map position s.vertices) i ≡ p → (answer : PositionInTriangulation)
      → IsLocation (triangulation_of position s) (whole p) (location_of s.mesh answer)
      → answer ≡ OnVertex i
  vertex_is_located kept p i below here answer there = go answer
      (one (on_vertex i) (location_of s.mesh answer)
      (at_vertex position s kept p i below here).location there)
    where
      one : (l m : Location) → IsLocation (triangulation_of position s) (whole p) l
          → IsLocation (triangulation_of position s) (whole p) m → IsSameLocation l m
      one = (each_point_has_one_location (map position s.vertices) (faces_of s.mesh)
          (outer_of s.mesh) (edges_of s.mesh) kept.shape (own_edges s.mesh kept.valid)
          (whole p)).1

      go : (a : PositionInTriangulation) → IsSameLocation (on_vertex i) (location_of s.mesh a)
          → a ≡ OnVertex i
      go (OnVertex j) same = ap OnVertex (sym same)
      go (OnEdge e) same = absurd same
      go (OnFace f) same = absurd same
      go (OutsideOfConvexHull e) same = absurd same
      go NoTriangulation same = absurd same

  -- so each location of a value that was inserted is on the vertex that its insertion gave
  pub insertion_is_located : (constraints : List U → List ℕ) (old : Plain V) (v : V) (i : ℕ)
      (answer : PositionInTriangulation) → IsWellFormed position constraints s
      → Inserts position old (points_and_constraints_by constraints s) v i
      → FindsLocation position s (position v) answer → answer ≡ OnVertex i
  insertion_is_located constraints old v i answer formed inserts finds =
      let here = inserted_here position old (points_and_constraints_by constraints s) v i inserts in
      vertex_is_located formed.kept (position v) i here.0 here.1 answer finds.location
