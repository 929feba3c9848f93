-- What one call makes of points and segments between them.
use Rattle.std.specs.Prelude.{◌≡◌, ◌*◌, ◌<◌, [], ℕ, ℤ, List, length, map, take, IsTrue, IsSomeAnd}
use Rattle.std.specs.Prelude.{slice_get, slice_index}
use Rattle.{delaunay_core.specs.Point2, plane.specs.Triangulation}
use Rattle.{delaunay_legalization.specs.triangulation_of, drawing_faces.specs.Drawing.IsDrawn}
use Rattle.{delaunay_edit.specs.constraints_of, half_edge_links.specs.MAX_ELEMENTS}
use Rattle.drawing_faces.specs.{All, declared.drawn.DrawnMesh.DrawnMesh, DrawnSegment, position}
use Rattle.c_calls.specs.{IsFaceEntry, IsRawInRange, OUT_OF_MEMORY, RawFace, RawPoint, RawSegment}
use Rattle.c_calls.specs.{declared.statuses.TheConstants.TOO_LARGE, Written.Listing}
use Rattle.c_calls.specs.declared.statuses.TheConstants.{CROSSING, NO_SUCH_POINT, OUT_OF_INDEXES}

-- ---- the first of a list that is not so
-- so many from the first on are so
abbrev pub FirstAre : {A : Type 0} → (A → Type 0) → List A → ℕ → Type 0
FirstAre IsSo xs n = (k : ℕ) → k < n → IsSomeAnd (slice_get xs k) IsSo

-- the one at this index is not, and each before it is
pub record IsFirstNot {A : Type 0} (IsSo : A → Type 0) (xs : List A) (at : ℕ) : Type 0 where
  pub there : IsSomeAnd (slice_get xs at) (λ x. ¬ IsSo x)
  pub before : FirstAre IsSo xs at

-- a segment ends at points of a list of so many
abbrev pub EndsAtPoints : ℕ → RawSegment → Type 0
EndsAtPoints count s = (s.from < count) × (s.to < count)

-- ---- the drawing
abbrev pub drawn_point : RawPoint → Point2 ℤ
drawn_point p = record { x = p.x; y = p.y }

abbrev pub drawn_segment : RawSegment → DrawnSegment
drawn_segment s = record { from = s.from; to = s.to }

-- the constrained Delaunay triangulation of these points, and which segments are in it
abbrev pub AreDrawn : List RawPoint → List RawSegment → DrawnMesh → Type 0
AreDrawn points segments m =
    IsDrawn (map drawn_point points) (map drawn_segment segments) [] [] All m

-- what it draws
abbrev pub drawing_of : DrawnMesh → Triangulation
drawing_of m = triangulation_of position m.triangulation

-- ---- its faces
-- a face with the names of its corners in place of these
abbrev pub named_face : List ℕ → RawFace → RawFace
named_face names f = record f {
  corner_0 = slice_index names f.corner_0;
  corner_1 = slice_index names f.corner_1;
  corner_2 = slice_index names f.corner_2;
}

-- the face at an index of a list, with such names
abbrev pub IsNamedOf : List ℕ → List RawFace → ℕ → RawFace → Type 0
IsNamedOf names faces k f = IsSomeAnd (slice_get faces k) (λ g. f ≡ named_face names g)

-- the face at an index, with its corners by the first points that are there
pub record IsNamedFaceAt (m : DrawnMesh) (k : ℕ) (f : RawFace) : Type 0 where
  pub face : RawFace
  pub is_face : IsFaceEntry (drawing_of m) (constraints_of m.triangulation) k face
  pub is_named : f ≡ named_face m.vertices.items face

-- each face is listed
abbrev pub ListsNamedFaces : DrawnMesh → ℕ → ℕ → List RawFace → List RawFace → Type 0
ListsNamedFaces m status told old new =
    Listing (IsNamedFaceAt m) (length (drawing_of m).faces) status told old new

-- ---- the call
-- the points may be drawn: all are in range, and they are few enough for indexes
pub record MayDraw (points : List RawPoint) : Type 0 where
  pub in_range : FirstAre IsRawInRange points (length points)
  pub few : ¬ (MAX_ELEMENTS < 6 * length points)

-- each segment of a drawing was added
abbrev pub AllTaken : DrawnMesh → Type 0
AllTaken m = FirstAre IsTrue m.added.items (length m.added.items)

-- these segments are the first so many, which have their ends, and this is their drawing
pub record DrawsFirst (points : List RawPoint) (segments : List RawSegment) (n : ℕ)
    (m : DrawnMesh) : Type 0 where
  pub ends : FirstAre (EndsAtPoints (length points)) segments n
  pub drawn : AreDrawn points (take n segments) m

-- how the drawing of such points ended: the faces are listed where each segment is in the drawing,
-- or it tells which segment is wrong, or memory was refused
pub data DrawsFaces (points : List RawPoint) (segments : List RawSegment)
    (status at was told : ℕ) (old new : List RawFace) : Type 0 where
  faces_drawn : (m : DrawnMesh) → DrawsFirst points segments (length segments) m → AllTaken m
      → ListsNamedFaces m status told old new
      → DrawsFaces points segments status at was told old new
  segment_crossing : (m : DrawnMesh) (n : ℕ) → status ≡ CROSSING
      → DrawsFirst points segments n m → IsFirstNot IsTrue m.added.items at → told ≡ was
      → new ≡ old → DrawsFaces points segments status at was told old new
  segment_of_none : (m : DrawnMesh) → status ≡ NO_SUCH_POINT → DrawsFirst points segments at m
      → AllTaken m → IsFirstNot (EndsAtPoints (length points)) segments at → told ≡ was
      → new ≡ old → DrawsFaces points segments status at was told old new
  drawing_refused : status ≡ OUT_OF_MEMORY → told ≡ was → new ≡ old
      → DrawsFaces points segments status at was told old new

-- how the call ended: it tells which point is out of range, or that there are too many, or it drew
-- them
pub data Triangulates (points : List RawPoint) (segments : List RawSegment)
    (status at was told : ℕ) (old new : List RawFace) : Type 0 where
  drawn : MayDraw points → DrawsFaces points segments status at was told old new
      → Triangulates points segments status at was told old new
  point_outside : status ≡ TOO_LARGE → IsFirstNot IsRawInRange points at → told ≡ was
      → new ≡ old → Triangulates points segments status at was told old new
  too_many_points : status ≡ OUT_OF_INDEXES → FirstAre IsRawInRange points (length points)
      → MAX_ELEMENTS < 6 * length points → told ≡ was → new ≡ old
      → Triangulates points segments status at was told old new
