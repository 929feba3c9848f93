-- One constraint becomes two where a vertex is strictly within it, and else there are as many as
-- before.
-- Lemmas: as_many, one_more_constraint, counted_split.
use Rattle.std.proofs.Common.{◌≡◌, ◌+◌}
use Rattle.std.proofs.Common.{ℕ, suc, Bool, List, length, map, refl, ap, inl, inr, arith}
use Rattle.plane.specs.{Carries, EachPairOnce, IsLocation, IsPlain, Joins, Location, on_edge, Point}
use Rattle.plane.specs.{whole}
use Rattle.{plane.proofs.same_joined, plane_theorems.proofs.each_point_has_one_location}
use Rattle.{half_edge_dcel.specs.Contents, half_edge_links.specs.origin, half_edge_links.specs.rev}
use Rattle.delaunay_legalization.specs.{constraints_by, edges_of, faces_of, IsDelaunayTriangulation}
use Rattle.delaunay_legalization.specs.{IsTriangulated, marked_edges, outer_of}
use Rattle.delaunay_legalization.specs.{points_and_constraints_by, state_of, triangulation_of}
use Rattle.{delaunay_legalization.specs.State.State, delaunay_vertices.specs.SplitsConstraints}
use Rattle.delaunay_legalization.proofs.{constraints_are_edges, own_edges}
use Rattle.delaunay_location.specs.{Locates, location_of, NoTriangulation, OnEdge, OnFace, OnVertex}
use Rattle.delaunay_location.specs.{OutsideOfConvexHull, PositionInTriangulation}
use Rattle.delaunay_edit.specs.{Counting.IsOnConstraint, Counting.IsSplitCount, IsCounted}
use Rattle.{delaunay_edit.proofs.Constrained.plain_with_edges, plane_theorems.specs.IsSameLocation}
use Rattle.delaunay_edit.proofs.{DifferentConstraints.constraints_once, JoinedPairs.edge_joins}
use Rattle.delaunay_edit.proofs.EditCounts.{free_number, split_number}

module _ {V D U F : Type 0} (place : V → Point) (marks : U → Bool) (constraints : List U → List ℕ)
    (marked : (ds : List U) → constraints ds ≡ marked_edges marks ds)
    (old : Contents V D U F) (new : State V D U F) (was : IsTriangulated place (state_of old))
    (now : IsTriangulated place new) (value : V) (answer : PositionInTriangulation)
    (located : Locates (map place old.vertices) old.mesh (place value) answer)
    (splits : SplitsConstraints place constraints (state_of old) new value) where
  abbrev pairs : List (ℕ × ℕ)
  pairs = constraints_by constraints (state_of old)

  abbrev CarriesNew : ℕ → ℕ → Type 0
  CarriesNew a b = Carries place (points_and_constraints_by constraints (state_of old)) value a b

  one_location : (l m : Location)
      → IsLocation (triangulation_of place (state_of old)) (whole (place value)) l
      → IsLocation (triangulation_of place (state_of old)) (whole (place value)) m
      → IsSameLocation l m
  one_location =
      (each_point_has_one_location (map place old.vertices) (faces_of old.mesh) (outer_of old.mesh)
      (edges_of old.mesh) was.shape (own_edges old.mesh was.valid) (whole (place value))).1

  -- a constraint that carries the vertex is where it is
  carrier : (a b : ℕ) → Joins pairs a b → CarriesNew a b →
      IsLocation (triangulation_of place (state_of old)) (whole (place value)) (on_edge a b)
  carrier a b j w = (
    constraints_are_edges marks constraints marked old.mesh old.undirected was.fits.undirected_fit
        was.valid a b j,
    w,
  )

  plain : IsPlain place (points_and_constraints_by constraints (state_of old))
  plain = plain_with_edges place (state_of old) was pairs
      (constraints_are_edges marks constraints marked old.mesh old.undirected
      was.fits.undirected_fit was.valid)

  once_before : EachPairOnce pairs
  once_before = constraints_once place marks constraints marked (state_of old) was

  once_after : EachPairOnce (constraints_by constraints new)
  once_after = constraints_once place marks constraints marked new now

  none_carries : (answer : PositionInTriangulation)
      → Locates (map place old.vertices) old.mesh (place value) answer
      → ¬ IsOnConstraint constraints old.undirected answer → (a b : ℕ) → Joins pairs a b
      → ¬ CarriesNew a b
  none_carries (OnVertex v) l off a b j w =
      one_location (on_edge a b) (location_of old.mesh (OnVertex v)) (carrier a b j w) l.location
  none_carries (OnEdge e) l off a b j w =
      let same = one_location (on_edge a b) (location_of old.mesh (OnEdge e))
      (carrier a b j w) l.location in
      off ((edge_joins place marks constraints marked old was (origin old.mesh e)
      (origin old.mesh (rev e)) e l.handle
      refl refl).1 (same_joined pairs (origin old.mesh e) (origin old.mesh (rev e)) a b same j))
  none_carries (OnFace f) l off a b j w =
      one_location (on_edge a b) (location_of old.mesh (OnFace f)) (carrier a b j w) l.location
  none_carries (OutsideOfConvexHull e) l off a b j w =
      one_location (on_edge a b) (location_of old.mesh (OutsideOfConvexHull e))
      (carrier a b j w) l.location
  none_carries NoTriangulation l off a b j w =
      one_location (on_edge a b) (location_of old.mesh NoTriangulation) (carrier a b j w) l.location

  -- where the place is not on a constraint, there are as many constraints as before
  pub as_many : ¬ IsOnConstraint constraints old.undirected answer
      → length (constraints_by constraints new) ≡ length pairs
  as_many off = free_number place (points_and_constraints_by constraints (state_of old))
      (points_and_constraints_by constraints new) once_before once_after value
      (length old.vertices) plain refl splits
      (none_carries answer located off)

  split_at : (answer : PositionInTriangulation)
      → Locates (map place old.vertices) old.mesh (place value) answer
      → IsOnConstraint constraints old.undirected answer
      → length (constraints_by constraints new) ≡ suc (length pairs)
  split_at (OnVertex v) l on = absurd on
  split_at (OnEdge e) l on =
      split_number place (points_and_constraints_by constraints (state_of old))
      (points_and_constraints_by constraints new) once_before once_after value
      (length old.vertices) plain refl
      splits
      (origin old.mesh e) (origin old.mesh (rev e))
      ((edge_joins place marks constraints marked old was (origin old.mesh e)
      (origin old.mesh (rev e)) e l.handle refl
      refl).0 on) l.location.1
      (λ x y j w. one_location (location_of old.mesh (OnEdge e)) (on_edge x y) l.location
      (carrier x y j w))
  split_at (OnFace f) l on = absurd on
  split_at (OutsideOfConvexHull e) l on = absurd on
  split_at NoTriangulation l on = absurd on

  -- where it is on one, there is one more
  pub one_more_constraint : IsOnConstraint constraints old.undirected answer
      → length (constraints_by constraints new) ≡ suc (length pairs)
  one_more_constraint on = split_at answer located on

  -- the kept number afterwards, once edges are flipped
  pub counted_split : (number n : ℕ) (last : State V D U F)
      → IsCounted place constraints (state_of old) number
      → IsSplitCount constraints old.undirected answer n
      → IsDelaunayTriangulation place constraints last → constraints_by constraints last
      ≡ constraints_by constraints new → IsCounted place constraints last (number + n)
  counted_split number n last before split legal same = record {
    legal = legal;
    counted = elim split [
      | inl x ↦
          (let more = one_more_constraint x.0 in let one = x.1 in let counted = before.counted in
          let flips = ap (λ (ps : List (ℕ × ℕ)). length ps) same in
          omega (arith, more, one, counted, flips))
      | inr x ↦ (let still = as_many x.0 in let none = x.1 in let counted = before.counted in
          let flips = ap (λ (ps : List (ℕ × ℕ)). length ps) same in
          omega (arith, still, none, counted, flips))
    ];
  }
