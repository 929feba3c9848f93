-- The triangulation of a drawing.
use Rattle.std.specs.Prelude.{◌≡◌, ◌↔◌, [], ◌∷◌, ◌++◌, ℕ, ℤ, Bool, true, false, List, length, map}
use Rattle.std.specs.Prelude.{All, slice_index, if◌then◌else◌, nat_eq}
use Rattle.plane.specs.{Face, face, Joins}
use Rattle.half_edge_links.specs.{face_edge, Mesh, Triangle, triangle_at}
use Rattle.{delaunay_core.specs.Point2, drawing_faces.specs.declared.faces.FaceCorners.FaceCorners}
use Rattle.delaunay_legalization.specs.{declared.cdt_edge.CdtEdge.CdtEdge, triangulation_of}
use Rattle.delaunay_edit.specs.{constraint_edges, constraints_of, IsDelaunay}
use Rattle.delaunay_journal.specs.{AddConstraint, Added, Edit, Outcome, Refused}
use Rattle.delaunay_journal.specs.declared.edit.Refusal.TheVariants.{Conflict}
use Rattle.{delaunay_extensions.specs.HaveHandles, delaunay_legalization.specs.State.State}
use Rattle.drawing_faces.specs.{declared.drawn.DrawnMesh.DrawnMesh, Holes.AreIn, Holes.RefusesHoles}
use Rattle.drawing_faces.specs.Kept.{AreKept, IsLeftOut}
use Rattle.drawing_faces.specs.Names.{NamesVertices, places_of, position}
use Rattle.drawing_faces.specs.Refusals.{EndsAtPoints, MayTake, RefusesPoints}
use Rattle.drawing_faces.specs.Segments.{AreAdded, AreOnAdded}
use Rattle.drawing_faces.specs.{declared.error.DrawingError.DrawingError, Sides.AreBeside}
use Rattle.drawing_faces.specs.{declared.edits.DrawnSegment.DrawnSegment, declared.faces.Kept.Kept}
use Rattle.drawing_faces.specs.declared.error.DrawingError.TheVariants.{NoPoint, OutOfMemory}

-- a face of the tiling, by its corners
abbrev pub face_of : FaceCorners → Face
face_of c = face c.first c.second c.third

-- the corners of a triangle of the mesh
abbrev pub indexes_of : Triangle → FaceCorners
indexes_of t = record { first = t.first; second = t.second; third = t.third }

-- those of a face of the mesh, by its index
abbrev pub indexes_at : Mesh → ℕ → FaceCorners
indexes_at m f = indexes_of (triangle_at m (face_edge m f))

-- the faces of a layer above 0
abbrev pub faces_inside : List ℕ → List FaceCorners → List FaceCorners
faces_inside ns [] = []
faces_inside [] (f ∷ fs) = []
faces_inside (n ∷ ns) (f ∷ fs) =
    if nat_eq n 0 then faces_inside ns fs else f ∷ faces_inside ns fs

-- the ends of a segment, by the vertices of the points
abbrev pub ends_of : List ℕ → DrawnSegment → ℕ × ℕ
ends_of vertices s = (slice_index vertices s.from, slice_index vertices s.to)

-- the edit that joins them
abbrev pub joining_of : {V : Type 0} → List ℕ → DrawnSegment → Edit V
joining_of vertices s = AddConstraint (ends_of vertices s).0 (ends_of vertices s).1

-- whether a segment was added, by what its edit gave
abbrev pub is_added : {V : Type 0} → Outcome V → Bool
is_added (Added made) = true
is_added o = false

-- the edit was made, or a constraint was in the way
abbrev pub IsDecided : {V : Type 0} → Outcome V → Type 0
IsDecided (Added made) = Unit {0}
IsDecided (Refused Conflict) = Unit {0}
IsDecided o = ⊥

-- this is the constrained Delaunay triangulation of these points, whose vertices have these handles
-- and names, with the constraints that the segments make which were added
pub record IsDrawingOf {D U F : Type 0} (points : List (Point2 ℤ)) (segments : List DrawnSegment)
    (handles names : List ℕ) (added : List Bool) (s : State (Point2 ℤ) D (CdtEdge U) F) : Type 0
  where
    pub may_take : MayTake points 0
    pub ends : All (EndsAtPoints (length points)) segments
    pub delaunay : IsDelaunay position constraint_edges s
    pub vertices : NamesVertices points (map position s.vertices) names
    pub handles_are : HaveHandles position points handles s.vertices
    pub added_are : AreAdded position (map position s.vertices) (Joins [])
        (map (ends_of handles) segments) added
    pub joined : (a b : ℕ) → Joins (constraints_of s) a b
        ↔ AreOnAdded position (map position s.vertices) (map (ends_of handles) segments) added a b

-- such a triangulation; its faces that are kept, each once, by the indexes of their corners. Faces
-- in holes are those that a point of a hole is in, and those on the left of a hole's side
pub record IsDrawn (points : List (Point2 ℤ)) (segments : List DrawnSegment)
    (holes : List (Point2 ℤ)) (sides : List DrawnSegment) (kept : Kept) (m : DrawnMesh) :
    Type 0 where
  pub handles : List ℕ
  pub drawing : IsDrawingOf points segments handles m.vertices.items m.added.items m.triangulation
  pub in_holes : List ℕ
  pub in_holes_are : AreIn m.triangulation (constraint_edges m.triangulation.undirected) holes
      in_holes
  pub side_ends : All (EndsAtPoints (length points)) sides
  pub beside : List ℕ
  pub beside_are : AreBeside m.triangulation (map (ends_of handles) sides) beside
  pub faces : List Face
  pub faces_are : AreKept
      (IsLeftOut kept m.triangulation.mesh (constraint_edges m.triangulation.undirected)
      (in_holes ++ beside)) 1
      (triangulation_of position m.triangulation).faces faces
  pub places : m.faces.items ≡ map (places_of m.vertices.items) faces

-- some triangulation of these points and segments. Where its vertices and constraints lie depends
-- on these alone
pub record HasDrawing (points : List (Point2 ℤ)) (segments : List DrawnSegment) : Type 0 where
  pub handles : List ℕ
  pub names : List ℕ
  pub added : List Bool
  pub state : State (Point2 ℤ) (Unit {0}) (CdtEdge (Unit {0})) (Unit {0})
  pub drawing : IsDrawingOf points segments handles names added state

-- a drawing is refused for this. Points, segments, points in holes and sides of holes are looked at
-- in this order, and each case says that all before it is as it should be, as `IsDrawn` says of the
-- whole. So one answer is right, but that memory may be refused at any step
pub data RefusesDrawing (points : List (Point2 ℤ)) (segments : List DrawnSegment)
    (holes : List (Point2 ℤ)) (sides : List DrawnSegment) (error : DrawingError) : Type 0 where
  points_refused : RefusesPoints points 0 error
      → RefusesDrawing points segments holes sides error
  segment_of_none : error ≡ NoPoint → MayTake points 0
      → ¬ All (EndsAtPoints (length points)) segments
      → RefusesDrawing points segments holes sides error
  hole_refused : (d : HasDrawing points segments)
      → RefusesHoles d.state (constraint_edges d.state.undirected) holes error
      → RefusesDrawing points segments holes sides error
  side_of_none : error ≡ NoPoint → (d : HasDrawing points segments) (in_holes : List ℕ)
      → AreIn d.state (constraint_edges d.state.undirected) holes in_holes
      → ¬ All (EndsAtPoints (length points)) sides
      → RefusesDrawing points segments holes sides error
  memory_refused : error ≡ OutOfMemory → RefusesDrawing points segments holes sides error
