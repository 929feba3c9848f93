-- The faces that points in holes are in, and why one of them is refused.
use Rattle.std.specs.Prelude.{◌≡◌, ◌≤◌, ◌/◌, [], ◌∷◌, ◌++◌, ℕ, ℤ, List, length, take, All, Contains}
use Rattle.std.specs.Prelude.{Some, slice_get}
use Rattle.plane.specs.{InRange}
use Rattle.half_edge_links.specs.{face, Mesh, rev}
use Rattle.{delaunay_core.specs.Point2, delaunay_legalization.specs.State.State}
use Rattle.delaunay_location.specs.{NoTriangulation, OnEdge, OnFace, OnVertex, OutsideOfConvexHull}
use Rattle.{delaunay_edit.specs.FindsLocation, delaunay_location.specs.PositionInTriangulation}
use Rattle.drawing_faces.specs.{declared.error.DrawingError.DrawingError, Names.position}
use Rattle.drawing_faces.specs.declared.error.DrawingError.TheVariants.{HoleInNoFace, HoleOnSegment}
use Rattle.drawing_faces.specs.declared.error.DrawingError.TheVariants.{HoleTooLarge, OutOfMemory}

-- a position is on one of these undirected edges, which are the constraints
abbrev pub IsOnConstraint : List ℕ → PositionInTriangulation → Type 0
IsOnConstraint constraints (OnEdge e) = Contains constraints (e / 2)
IsOnConstraint constraints at = ⊥

-- it is in no face and beside none: on a vertex, or there is no triangulation
abbrev pub IsInNoFace : PositionInTriangulation → Type 0
IsInNoFace (OnVertex v) = Unit {0}
IsInNoFace NoTriangulation = Unit {0}
IsInNoFace at = ⊥

-- the inner faces that it is in: of an edge those on both sides, which may be the outer one
abbrev pub faces_at : Mesh → PositionInTriangulation → List ℕ
faces_at m (OnVertex v) = []
faces_at m (OnEdge e) = face m e ∷ face m (rev e) ∷ []
faces_at m (OnFace f) = f ∷ []
faces_at m (OutsideOfConvexHull e) = []
faces_at m NoTriangulation = []

-- a position that opens these faces: it is on no constraint and on no vertex
pub record Opens (m : Mesh) (constraints faces : List ℕ) (at : PositionInTriangulation) : Type 0
  where
    pub free : ¬ IsOnConstraint constraints at
    pub beside : ¬ IsInNoFace at
    pub faces_are : faces ≡ faces_at m at

module _ {D U F : Type 0} (s : State (Point2 ℤ) D U F) (constraints : List ℕ) where
  -- a point is in range, and of the position where it is this holds
  pub record IsWhere (p : Point2 ℤ) (Holds : PositionInTriangulation → Type 0) : Type 0 where
    pub in_range : InRange (position p)
    pub at : PositionInTriangulation
    pub found : FindsLocation position s (position p) at
    pub holds : Holds at

  -- a point in a hole is taken, and these are the faces that it is in
  abbrev pub IsIn : Point2 ℤ → List ℕ → Type 0
  IsIn p faces = IsWhere p (Opens s.mesh constraints faces)

  -- each of these points is taken, and these are all faces that they are in, one after another
  abbrev pub AreIn : List (Point2 ℤ) → List ℕ → Type 0
  AreIn [] faces = faces ≡ []
  AreIn (p ∷ ps) faces = (here : List ℕ) × IsIn p here
      × ((rest : List ℕ) × (faces ≡ here ++ rest) × AreIn ps rest)

  -- the faces that a point is in come behind others
  pub record AddsFacesAt (p : Point2 ℤ) (old new : List ℕ) : Type 0 where
    pub here : List ℕ
    pub is_in : IsIn p here
    pub faces : new ≡ old ++ here
    pub within : All (λ f. f ≤ length s.faces) here

  -- a point in a hole, at this index of its list, is refused for this
  abbrev pub RefusesHole : ℕ → Point2 ℤ → DrawingError → Type 0
  RefusesHole i p (HoleTooLarge index) = (index ≡ i) × ¬ InRange (position p)
  RefusesHole i p (HoleOnSegment index) = (index ≡ i) × IsWhere p (IsOnConstraint constraints)
  RefusesHole i p (HoleInNoFace index) = (index ≡ i) × IsWhere p IsInNoFace
  RefusesHole i p OutOfMemory = Unit {0}
  RefusesHole i p error = ⊥

  -- of a list of such points one is refused for this, and those before it are taken
  pub record RefusesHoles (holes : List (Point2 ℤ)) (error : DrawingError) : Type 0 where
    pub index : ℕ
    pub point : Point2 ℤ
    pub there : slice_get holes index ≡ Some point
    pub refused : RefusesHole index point error
    pub before : List ℕ
    pub before_are : AreIn (take index holes) before
