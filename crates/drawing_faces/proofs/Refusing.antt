-- Why points, segments and holes of a drawing are refused, from why its steps are.
-- Lemmas: refused_by, refused_only, ok_anyway, bulk_refuses, points_may_be_taken, places_refused,
-- has_ends, ends_at_points, all_end_at_points, not_all_have_ends, one_lacks_ends, refused_at.
use Rattle.std.proofs.Common.{◌≡◌, ◌≢◌, ◌⊎◌, ◌+◌, ◌*◌, ◌<◌, ◌∙◌}
use Rattle.std.proofs.Common.{ℕ, List, length, map, get_or, Result, Ok, Err, Some}
use Rattle.std.proofs.Common.{refl, sym, ap, subst, inl, inr, arith}
use Rattle.std.specs.Prelude.{ℤ, pos, All, IfErr, OnOk, slice_get, slice_index, take}
use Rattle.std.specs.Prelude.{false}
use Rattle.std.specs.Result.{IsErrAnd, IsOk, is_err}
use Rattle.std.proofs.lemmas.List.{get_or-map, length-map}
use Rattle.std.proofs.lemmas.List.Elements.{All-from_get_or, All-get_or, All-weaker}
use Rattle.std.proofs.lemmas.Option.{slice_get-get_or}
use Rattle.half_edge_links.specs.{MAX_ELEMENTS}
use Rattle.delaunay_core.specs.{InsertionError, Point2}
use Rattle.{delaunay_legalization.specs.point_at, plane.specs.InRange, plane.specs.Point}
use Rattle.{delaunay_legalization.specs.State.State, drawing_faces.proofs.Named.handle_below}
use Rattle.delaunay_extensions.specs.{BulkInsertionError, HaveHandles, IsAt, NoRoom, RefusesWhere}
use Rattle.delaunay_extensions.specs.{StopsAt, Vertex}
use Rattle.drawing_faces.specs.{AreIn, DrawingError, DrawnSegment, HasEnds, MayTake, position}
use Rattle.drawing_faces.specs.{Holes.RefusesHole, Holes.RefusesHoles, RefusesEnds, RefusesPoints}
use Rattle.drawing_faces.specs.Refusals.{bulk_fault, EndsAtPoints}
use Rattle.delaunay_core.specs.declared.math.InsertionError.TheVariants as insertion
use Rattle.drawing_faces.specs.declared.error.DrawingError.TheVariants as error

-- ---- what an error says
-- a result is this error, of which something holds
pub refused_by : {T E : Type 0} (r : Result T E) (e : E) (P : E → Type 0)
    → IsErrAnd r (λ x. x ≡ e) → P e → IfErr r P
refused_by (Ok t) e P is holds = tt
refused_by (Err x) e P is holds = subst P (sym is) holds

-- the same, where an error can be this one alone
pub refused_only : {T E : Type 0} (r : Result T E) (e : E) (P : E → Type 0)
    → IfErr r (λ x. x ≡ e) → P e → IfErr r P
refused_only (Ok t) e P is holds = tt
refused_only (Err x) e P is holds = subst P (sym is) holds

-- what holds in any case holds of a value
pub ok_anyway : {T E P : Type 0} (r : Result T E) → P → OnOk r P
ok_anyway (Ok t) holds = holds
ok_anyway (Err e) holds = tt

-- a result that is no error is a value
pub ok_of : {T E : Type 0} (r : Result T E) → is_err r ≡ false → IsOk r
ok_of (Ok t) is = refl
ok_of (Err e) is = absurd (cc)

-- ---- points
abbrev origin : Point2 ℤ
origin = record { x = pos 0; y = pos 0 }

module _ {V D U F : Type 0} (place : V → Point) (constraints : List U → List ℕ) (list : List V)
    (old new : State V D U F) where
  -- a list is refused before it is inserted for a vertex out of range, later for memory alone
  never_full : (i : ℕ) → StopsAt place constraints list (Vertex i insertion.OutOfIndexes) old new
      → ⊥
  never_full i (inl (refuses, same)) = let differ = refuses.0 in cc
  never_full i (inr later) = let differ = later.out_of_memory in cc

  never_large : StopsAt place constraints list (NoRoom insertion.TooLarge) old new → ⊥
  never_large (inl (refuses, same)) = refuses.0 refl
  never_large (inr later) = let differ = later.out_of_memory in cc

module _ {R D U F : Type 0} (constraints : List U → List ℕ) (points : List (Point2 ℤ))
    (count : ℕ) (result : Result R BulkInsertionError) (old new : State (Point2 ℤ) D U F)
    (refuses : RefusesWhere position points count result) where
  -- points that were not inserted are refused for this
  pub bulk_refuses : (why : BulkInsertionError) → result ≡ Err why
      → StopsAt position constraints points why old new
      → RefusesPoints points count (bulk_fault why)
  bulk_refuses (Vertex i insertion.TooLarge) is stops = (i, (refuses.too_large i).0 is)
  bulk_refuses (Vertex i insertion.OutOfIndexes) is stops =
      absurd (never_full position constraints points old new i stops)
  bulk_refuses (Vertex i insertion.OutOfMemory) is stops = tt
  bulk_refuses (NoRoom insertion.TooLarge) is stops =
      absurd (never_large position constraints points old new stops)
  bulk_refuses (NoRoom insertion.OutOfIndexes) is stops = refuses.full.0 is
  bulk_refuses (NoRoom insertion.OutOfMemory) is stops = tt

  -- points that were inserted might be
  pub points_may_be_taken : (r : R) (handles : List ℕ) (vertices : List (Point2 ℤ))
      → result ≡ Ok r → HaveHandles position points handles vertices
      → All InRange (map position vertices) → MayTake points count
  points_may_be_taken r handles vertices is have all = record {
    in_range = inside;
    few = λ many. let full = sym is ∙ refuses.full.1 (inside, many) in cc;
  }
    where
      at_place : (i : ℕ) → i < length points → InRange (position (get_or points i origin))
      at_place i within =
          let at = have.each i (get_or points i origin) (slice_get-get_or points i origin within) in
          let below = at.below in
          subst InRange at.here (All-get_or InRange (map position vertices) at.handle
          (record { x = pos 0; y = pos 0 }) (omega (arith, below, length-map vertices position))
          all)

      inside : All (λ p. InRange (position p)) points
      inside = All-from_get_or (λ p. InRange (position p)) points origin at_place

-- points that may be taken are few enough for indexes
few_places : (points : List (Point2 ℤ)) (handles : List ℕ) (vertices : List (Point2 ℤ))
    → HaveHandles position points handles vertices → MayTake points 0
    → MAX_ELEMENTS < length handles → ⊥
few_places points handles vertices have may many =
    let size = have.size in may.few (omega (arith, many, size))

-- so memory alone is refused to their places
pub places_refused : (points : List (Point2 ℤ)) (handles : List ℕ) (vertices : List (Point2 ℤ))
    → HaveHandles position points handles vertices → MayTake points 0 → (why : DrawingError)
    → (why ≡ error.OutOfMemory) ⊎ (MAX_ELEMENTS < length handles) → RefusesPoints points 0 why
places_refused points handles vertices have may why (inl is) =
    subst (RefusesPoints points 0) (sym is) tt
places_refused points handles vertices have may why (inr many) =
    absurd (few_places points handles vertices have may many)

-- ---- segments
module _ (points : List (Point2 ℤ)) (handles : List ℕ) (vertices : List (Point2 ℤ))
    (have : HaveHandles position points handles vertices) (s : DrawnSegment) where
  -- a segment that ends at points has its ends among their vertices
  pub has_ends : EndsAtPoints (length points) s → HasEnds handles (length vertices) s
  has_ends (from, to) =
      let size = have.size in record {
        places = (omega (arith, from, size), omega (arith, to, size));
        from = handle_below points handles vertices have s.from from;
        to = handle_below points handles vertices have s.to to;
      }

  -- and the other way round
  pub ends_at_points : HasEnds handles (length vertices) s → EndsAtPoints (length points) s
  ends_at_points ends =
      let size = have.size in
      let from = ends.places.0 in
      let to = ends.places.1 in (omega (arith, from, size), omega (arith, to, size))

module _ (points : List (Point2 ℤ)) (handles : List ℕ) (vertices : List (Point2 ℤ))
    (have : HaveHandles position points handles vertices) (segments : List DrawnSegment) where
  pub all_end_at_points : All (HasEnds handles (length vertices)) segments
      → All (EndsAtPoints (length points)) segments
  all_end_at_points all = All-weaker (HasEnds handles (length vertices))
      (EndsAtPoints (length points)) (ends_at_points points handles vertices have) segments all

  pub not_all_have_ends : ¬ All (HasEnds handles (length vertices)) segments
      → ¬ All (EndsAtPoints (length points)) segments
  not_all_have_ends lacks all = lacks (All-weaker (EndsAtPoints (length points))
      (HasEnds handles (length vertices)) (has_ends points handles vertices have) segments all)

-- one of some segments has no such ends
pub one_lacks_ends : (vertices : List ℕ) (count : ℕ) (segments : List DrawnSegment) (i : ℕ)
    (d : DrawnSegment) → i < length segments → ¬ HasEnds vertices count (get_or segments i d)
    → ¬ All (HasEnds vertices count) segments
one_lacks_ends vertices count segments i d within lacks all =
    lacks (All-get_or (HasEnds vertices count) segments i d within all)

-- ---- holes
-- the point at this index is refused, and those before it were taken
pub refused_at : {D U F : Type 0} (s : State (Point2 ℤ) D U F) (constraints : List ℕ)
    (holes : List (Point2 ℤ)) (i : ℕ) (d : Point2 ℤ) (before : List ℕ) (why : DrawingError)
    → i < length holes → AreIn s constraints (take i holes) before
    → RefusesHole s constraints i (get_or holes i d) why → RefusesHoles s constraints holes why
refused_at s constraints holes i d before why within are refused = record {
  index = i;
  point = get_or holes i d;
  there = slice_get-get_or holes i d within;
  refused = refused;
  before = before;
  before_are = are;
}
