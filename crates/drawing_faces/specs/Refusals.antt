-- Why points and segments of a drawing are refused. Memory may be refused at any step.
use Rattle.std.specs.Prelude.{◌+◌, ◌*◌, ◌<◌, ℕ, ℤ, List, length, All, slice_index}
use Rattle.half_edge_links.specs.{MAX_ELEMENTS}
use Rattle.{delaunay_core.specs.InsertionError, delaunay_core.specs.Point2, plane.specs.InRange}
use Rattle.delaunay_extensions.specs.{BulkInsertionError, IsFirstOutside}
use Rattle.drawing_faces.specs.{declared.edits.DrawnSegment.DrawnSegment, Names.position}
use Rattle.drawing_faces.specs.declared.error.DrawingError.{DrawingError}
use Rattle.drawing_faces.specs.declared.error.DrawingError.TheVariants.{NoPoint, OutOfMemory}
use Rattle.drawing_faces.specs.declared.error.DrawingError.TheVariants.{TooLarge, TooMany}
use Rattle.delaunay_core.specs.declared.math.InsertionError.TheVariants as insertion
use Rattle.delaunay_extensions.specs.declared.error.BulkInsertionError.TheVariants as bulk

-- ---- points
-- the error of an insertion, as one of a drawing
abbrev pub insertion_fault : InsertionError → DrawingError
insertion_fault insertion.TooLarge = TooLarge
insertion_fault insertion.OutOfIndexes = TooMany
insertion_fault insertion.OutOfMemory = OutOfMemory

-- and that of many
abbrev pub bulk_fault : BulkInsertionError → DrawingError
bulk_fault (bulk.Vertex i why) = insertion_fault why
bulk_fault (bulk.NoRoom why) = insertion_fault why

-- points that come to a mesh with so many vertices may be added: all are in range, and they are few
-- enough for indexes
pub record MayTake (points : List (Point2 ℤ)) (count : ℕ) : Type 0 where
  pub in_range : All (λ p. InRange (position p)) points
  pub few : ¬ (MAX_ELEMENTS < 6 * (count + length points))

-- they are refused for this: one of them is out of range, or else they are too many
abbrev pub RefusesPoints : List (Point2 ℤ) → ℕ → DrawingError → Type 0
RefusesPoints points count TooLarge = (i : ℕ) × IsFirstOutside position points i
RefusesPoints points count TooMany = All (λ p. InRange (position p)) points
    × (MAX_ELEMENTS < 6 * (count + length points))
RefusesPoints points count OutOfMemory = Unit {0}
RefusesPoints points count error = ⊥

-- ---- segments
-- a segment ends at points of a list of so many
abbrev pub EndsAtPoints : ℕ → DrawnSegment → Type 0
EndsAtPoints count s = (s.from < count) × (s.to < count)

-- its ends are places in a list of vertices, and those are among so many
pub record HasEnds (vertices : List ℕ) (count : ℕ) (s : DrawnSegment) : Type 0 where
  pub places : EndsAtPoints (length vertices) s
  pub from : slice_index vertices s.from < count
  pub to : slice_index vertices s.to < count

-- segments are refused for this: one of them has no such ends
abbrev pub RefusesEnds : List ℕ → ℕ → List DrawnSegment → DrawingError → Type 0
RefusesEnds vertices count segments NoPoint = ¬ All (HasEnds vertices count) segments
RefusesEnds vertices count segments OutOfMemory = Unit {0}
RefusesEnds vertices count segments error = ⊥
