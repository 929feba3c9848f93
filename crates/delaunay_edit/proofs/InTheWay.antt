-- Which constraints are in the way of a path, by the first conflict of the walk along its segment.
-- Lemmas: meets_is_cross, first_decides.
use Rattle.std.proofs.Common.{◌≡◌, ◌⊎◌, ◌↔◌, ◌<◌}
use Rattle.std.proofs.Common.{ℕ, Bool, true, false, IsTrue, List, length, map, Option, Some, None}
use Rattle.std.proofs.Common.{is_some, refl, subst, inl, inr}
use Rattle.std.specs.Prelude.{ℤ, not}
use Rattle.plane.specs.{Cross, Fraction, IsSame, Joins, MeetsWithin, place, Point, whole}
use Rattle.plane.proofs.{decide_point, Meetings.cross_at_point, same-refl, within_segment-same}
use Rattle.plane_theorems.proofs.{no_edges_cross, on_parts}
use Rattle.half_edge_dcel.specs.{Contents, DirectedEdgeHandle}
use Rattle.delaunay_legalization.specs.{constraints_by, edges_of, faces_of, IsTriangulated}
use Rattle.delaunay_legalization.specs.{marked_edges, outer_of, point_at, state_of}
use Rattle.delaunay_legalization.proofs.{constraints_are_edges, own_edges}
use Rattle.delaunay_location.specs.{GivesConflict, IntersectsConstraint, IsReady}
use Rattle.delaunay_location.specs.{LineIntersectionIterator, WalksLine}
use Rattle.delaunay_location.proofs.Intersecting.{crosses_none, crosses_one}
use Rattle.{delaunay_edit.specs.Adding.CanAddPath, delaunay_legalization.specs.triangulation_of}
use Rattle.{delaunay_edit.proofs.Walking.in_map, plane.specs.WithinSegment}

-- a yes where nothing was found, and a no where something was
yes_if_none : (b : Bool) → false ≡ not b → b ≡ true
yes_if_none true e = refl
yes_if_none false e = cc

not_yes : (b : Bool) → true ≡ not b → b ≡ true → ⊥
not_yes true e f = cc
not_yes false e f = cc

-- a segment that meets another within it, but not at its own ends, crosses it
pub meets_is_cross : (s t u v : Fraction) → ¬ WithinSegment u v s → ¬ WithinSegment u v t
    → MeetsWithin s t u v → Cross s t u v
meets_is_cross s t u v no_start no_end m =
    record {
      at = m.at;
      meet = m.meet;
      within_first = go (on_parts s t m.at m.meet.first);
      within_second = m.within;
    }
  where
    go : IsSame m.at s ⊎ (IsSame m.at t ⊎ WithinSegment s t m.at) → WithinSegment s t m.at
    go (inl e) = absurd (no_start (within_segment-same u v m.at s e m.within))
    go (inr (inl e)) = absurd (no_end (within_segment-same u v m.at t e m.within))
    go (inr (inr w)) = w

module _ {V D U F : Type 0} (at : V → Point) (marks : U → Bool) (constraints : List U → List ℕ)
    (marked : (ds : List U) → constraints ds ≡ marked_edges marks ds) (c : Contents V D U F)
    (kept : IsTriangulated at (state_of c)) (i j : ℕ) (hi : i < length c.vertices)
    (hj : j < length c.vertices) where
  abbrev points : List Point
  points = map at c.vertices

  abbrev Barred : Type 0
  Barred = IntersectsConstraint (triangulation_of at (state_of c))
      (constraints_by constraints (state_of c))
      (point_at points i) (point_at points j)

  -- no vertex is strictly within a constraint
  none_within : (a b k : ℕ) → k < length c.vertices
      → Joins (constraints_by constraints (state_of c)) a b
      → ¬ WithinSegment (place points a) (place points b) (place points k)
  none_within a b k within joined =
      (no_edges_cross points (faces_of c.mesh) (outer_of c.mesh) (edges_of c.mesh) kept.shape
      (own_edges c.mesh kept.valid)).0 a b k
      (constraints_are_edges marks constraints marked c.mesh c.undirected kept.fits.undirected_fit
      kept.valid a b
      joined) (in_map at c.vertices k within)

  -- a constraint that the segment meets within is in the way
  way_is_barred : Barred → ¬ CanAddPath at constraints c i j
  way_is_barred x free = free x.from x.to x.constraint
      (meets_is_cross (place points i) (place points j) (place points x.from) (place points x.to)
      (none_within x.from x.to i hi x.constraint) (none_within x.from x.to j hj x.constraint) x.met)

  -- and where there is none, none is
  way_is_free : ¬ Barred → CanAddPath at constraints c i j
  way_is_free none a b joined cross =
      elim (decide_point (point_at points i) (point_at points j)) as (λ _. ⊥) [
        | inl e ↦ none_within a b i hi joined
            ((cross_at_point (place points i) (place points j) (place points a)
            (place points b) (subst (λ (q : Point). IsSame (place points i) (whole q)) e
            (same-refl (place points i)))).0
            cross)
        | inr n ↦ none (record {
          apart = n;
          from = a;
          to = b;
          constraint = joined;
          met = record { at = cross.at; meet = cross.meet; within = cross.within_second };
        })
      ]

  module _ {P S : Type 0} (number : S → ℤ) (IsSite IsCovered : P → Point → Type 0) (line after :
      LineIntersectionIterator V D U F P S) (ready : IsReady at number IsSite IsCovered line)
      (walks : WalksLine at number (state_of c) (point_at points i) (point_at points j) line) where
    -- the first conflict bars the way
    one_in_way : (e : DirectedEdgeHandle V D U F)
        → GivesConflict at number constraints line (Some e) after
        → ¬ CanAddPath at constraints c i j
    one_in_way e gives =
        way_is_barred (crosses_one at number IsSite IsCovered marks constraints marked line ready
        (state_of c) (point_at points i) (point_at points j) walks after e gives)

    -- without one it is free
    none_in_way : GivesConflict at number constraints line None after
        → CanAddPath at constraints c i j
    none_in_way gives =
        way_is_free (crosses_none at number IsSite IsCovered marks constraints marked line ready
        (state_of c) (point_at points i) (point_at points j) walks after gives)

    -- where b tells that no conflict was found, it tells whether the path can be added
    pub first_decides : (r : Option (DirectedEdgeHandle V D U F)) (b : Bool) → is_some r ≡ not b
        → GivesConflict at number constraints line r after → IsTrue b
        ↔ CanAddPath at constraints c i j
    first_decides None b is gives = ((λ _. none_in_way gives), (λ _. yes_if_none b is))
    first_decides (Some e) b is gives =
        ((λ yes. absurd (not_yes b is yes)), (λ free. absurd (one_in_way e gives free)))
