-- The faces of a triangulation that are kept, by the names of their corners.
use Rattle.std.specs.Prelude.{◌≡◌, ◌⊎◌, ◌++◌, ℕ, ℤ, List, length, map}
use Rattle.{delaunay_core.specs.Point2, plane.specs.Face}
use Rattle.{delaunay_legalization.specs.State.State, delaunay_legalization.specs.triangulation_of}
use Rattle.drawing_faces.specs.{Drawing.ends_of, Kept.AreKept, Kept.IsLeftOut, Sides.AreBeside}
use Rattle.drawing_faces.specs.{Holes.AreIn, Holes.RefusesHoles, Names.places_of, Names.position}
use Rattle.drawing_faces.specs.{declared.error.DrawingError.DrawingError, Refusals.RefusesEnds}
use Rattle.drawing_faces.specs.{declared.edits.DrawnSegment.DrawnSegment, declared.faces.Kept.Kept}

module _ {D U F : Type 0} (s : State (Point2 ℤ) D U F) (constraints handles : List ℕ)
    (holes : List (Point2 ℤ)) (sides : List DrawnSegment) where
  -- these rows are the kept faces, each once, by the names of their corners. Faces in holes are
  -- those that a point of a hole is in, and those on the left of a hole's side
  pub record AreKeptRows (kept : Kept) (names : List ℕ) (rows : List (List ℕ)) : Type 0 where
    pub in_holes : List ℕ
    pub in_holes_are : AreIn s constraints holes in_holes
    pub beside : List ℕ
    pub beside_are : AreBeside s (map (ends_of handles) sides) beside
    pub faces : List Face
    pub faces_are : AreKept (IsLeftOut kept s.mesh constraints (in_holes ++ beside)) 1
        (triangulation_of position s).faces faces
    pub rows_are : rows ≡ map (places_of names) faces

  -- a point in a hole is refused for this, or else a side that ends at no vertex
  abbrev pub RefusesRows : DrawingError → Type 0
  RefusesRows error = RefusesHoles s constraints holes error
      ⊎ RefusesEnds handles (length s.vertices) sides error
