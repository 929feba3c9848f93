-- What queries of a triangulation that C keeps answer.
use Rattle.std.specs.Prelude.{◌≡◌, ◌⊎◌, ◌-◌, ◌/◌, ◌==◌, if◌then◌else◌, ℕ, List, length, map}
use Rattle.std.specs.Prelude.{Some, slice_get, IsSomeAnd}
use Rattle.std.specs.List.{AllZip}
use Rattle.plane.specs.{across, along, at_vertex, Face, face, HasFace, IsLineList, IsNearest, Item}
use Rattle.plane.specs.{Joins, Point, Triangulation, whole}
use Rattle.{delaunay_legalization.specs.State.State, delaunay_legalization.specs.triangulation_of}
use Rattle.delaunay_location.specs.{NoTriangulation, OnEdge, OnFace, OnVertex, OutsideOfConvexHull}
use Rattle.{delaunay_edit.specs.FindsLocation, delaunay_location.specs.PositionInTriangulation}
use Rattle.c_calls.specs.{declared.kept.AnyTriangulation.AnyTriangulation, Kept.kept_place}
use Rattle.c_calls.specs.Written.{Answering, Finding, IsRawInRange, Listing, plain_point, Tells}
use Rattle.c_calls.specs.declared.kept.AnyTriangulation.TheVariants.{Constrained, Plain}
use Rattle.c_calls.specs.declared.lines.TheConstants.{ACROSS_EDGE, ALONG_EDGE, AT_VERTEX}
use Rattle.c_calls.specs.declared.queries.TheConstants.{IN_FACE, NOWHERE, ON_EDGE, ON_VERTEX}
use Rattle.c_calls.specs.{declared.queries.TheConstants.OUTSIDE, declared.raw.RawMeeting.RawMeeting}
use Rattle.c_calls.specs.{declared.raw.NumberedPoint.NumberedPoint, declared.raw.RawPoint.RawPoint}
use Rattle.c_calls.specs.{declared.raw.RawEdge.RawEdge, declared.raw.RawLocation.RawLocation}
use Rattle.c_calls.specs.declared.raw.RawFace.{RawFace}
use Rattle.c_calls.specs.declared.statuses.TheConstants.{IS_CONSTRAINED, NONE, TOO_LARGE}

-- ---- all vertices
-- a position, for C
abbrev pub raw_position : NumberedPoint → RawPoint
raw_position v = record { x = v.position.x; y = v.position.y }

-- a vertex's number
abbrev pub number_of : NumberedPoint → ℕ
number_of v = v.number

-- an element of a list is at this place
abbrev pub IsElementAt : {A : Type 0} → List A → ℕ → A → Type 0
IsElementAt xs k a = slice_get xs k ≡ Some a

-- the position of each vertex is listed
abbrev pub ListsPositions : List NumberedPoint → ℕ → ℕ → List RawPoint → List RawPoint → Type 0
ListsPositions vs status told old new =
    Listing (IsElementAt (map raw_position vs)) (length vs) status told old new

-- the number of each vertex is listed
abbrev pub ListsNumbers : List NumberedPoint → ℕ → ℕ → List ℕ → List ℕ → Type 0
ListsNumbers vs status told old new =
    Listing (IsElementAt (map number_of vs)) (length vs) status told old new

-- ---- where a point is
-- the index that C has of a face, which counts the inner ones alone
abbrev pub face_number : ℕ → ℕ
face_number f = if f == 0 then NONE else (f - 1)

-- a location, for C
abbrev pub raw_location : PositionInTriangulation → RawLocation
raw_location (OnVertex v) = record { kind = ON_VERTEX; index = v }
raw_location (OnEdge e) = record { kind = ON_EDGE; index = e / 2 }
raw_location (OnFace f) = record { kind = IN_FACE; index = face_number f }
raw_location (OutsideOfConvexHull e) = record { kind = OUTSIDE; index = e / 2 }
raw_location NoTriangulation = record { kind = NOWHERE; index = NONE }

-- what C is told of where a point is: the library's answer
pub record IsLocationIn {V D U F : Type 0} (place : V → Point) (s : State V D U F)
    (query : RawPoint)
    (told : RawLocation) : Type 0 where
  pub answer : PositionInTriangulation
  pub finds : FindsLocation place s (plain_point query) answer
  pub named : told ≡ raw_location answer

-- the same of a triangulation that C keeps
abbrev pub IsKeptLocation : AnyTriangulation → RawPoint → RawLocation → Type 0
IsKeptLocation (Plain t) query told = IsLocationIn kept_place t query told
IsKeptLocation (Constrained t) query told = IsLocationIn kept_place t query told

-- ---- which vertex is nearest
-- a vertex that none is strictly nearer than, or that there is none
abbrev pub IsNearestAnswer : {V D U F : Type 0} → (V → Point) → State V D U F → RawPoint → ℕ
    → Type 0
IsNearestAnswer place s query vertex = ((vertex ≡ NONE) × (length s.vertices ≡ 0))
    ⊎ IsNearest (triangulation_of place s) (whole (plain_point query)) vertex

-- each query gets one, of a plain triangulation. A constrained one refuses it
abbrev pub FindsKeptNearest : AnyTriangulation → List RawPoint → ℕ → List ℕ → List ℕ → Type 0
FindsKeptNearest (Plain t) queries status old new =
    Answering queries (IsNearestAnswer kept_place t) status old new
FindsKeptNearest (Constrained t) queries status old new =
    (status ≡ IS_CONSTRAINED) × (new ≡ old)

-- ---- edges and faces, of what a triangulation draws and the pairs that constraints join
-- a mark: 1 where a constraint joins the two vertices, and else 0
abbrev pub IsMark : List (ℕ × ℕ) → ℕ → ℕ → ℕ → Type 0
IsMark constraints i j mark =
    ((mark ≡ 1) × Joins constraints i j) ⊎ ((mark ≡ 0) × ¬ Joins constraints i j)

-- the edge at a place: its ends, and its mark
pub record IsEdgeEntry (t : Triangulation) (constraints : List (ℕ × ℕ)) (k : ℕ)
    (e : RawEdge) : Type 0 where
  pub ends : IsElementAt t.edges k (e.from, e.to)
  pub marked : IsMark constraints e.from e.to e.constrained

-- each edge is listed
abbrev pub ListsRawEdges : Triangulation → List (ℕ × ℕ) → ℕ → ℕ → List RawEdge → List RawEdge
    → Type 0
ListsRawEdges t constraints status told old new =
    Listing (IsEdgeEntry t constraints) (length t.edges) status told old new

-- the way from i to j is round the face
abbrev pub HasWayRound : Face → ℕ → ℕ → Type 0
HasWayRound f i j = ((f.a ≡ i) × (f.b ≡ j))
    ⊎ (((f.b ≡ i) × (f.c ≡ j)) ⊎ ((f.c ≡ i) × (f.a ≡ j)))

-- the index of the face with the way from j to i, which is that beyond the way from i to j, or that
-- there is none
abbrev pub IsBeyond : Triangulation → ℕ → ℕ → ℕ → Type 0
IsBeyond t i j n = ((n ≡ NONE) × ¬ HasFace t j i)
    ⊎ IsSomeAnd (slice_get t.faces n) (λ f. HasWayRound f j i)

-- the side of a face from i to j: the face beyond it, and its mark
pub record SideEntry (t : Triangulation) (constraints : List (ℕ × ℕ)) (i j beyond mark : ℕ) : Type 0
  where
    pub neighbor : IsBeyond t i j beyond
    pub marked : IsMark constraints i j mark

-- the face at a place: its corners, and the side opposite each
pub record IsFaceEntry (t : Triangulation) (constraints : List (ℕ × ℕ)) (k : ℕ)
    (f : RawFace) : Type 0 where
  pub corners : IsElementAt t.faces k (face f.corner_0 f.corner_1 f.corner_2)
  pub side_0 : SideEntry t constraints f.corner_1 f.corner_2 f.neighbor_0 f.constrained_0
  pub side_1 : SideEntry t constraints f.corner_2 f.corner_0 f.neighbor_1 f.constrained_1
  pub side_2 : SideEntry t constraints f.corner_0 f.corner_1 f.neighbor_2 f.constrained_2

-- each face is listed
abbrev pub ListsRawFaces : Triangulation → List (ℕ × ℕ) → ℕ → ℕ → List RawFace → List RawFace
    → Type 0
ListsRawFaces t constraints status told old new =
    Listing (IsFaceEntry t constraints) (length t.faces) status told old new

-- ---- what a line meets
-- what C is told of an item, where these pairs are constraints
abbrev pub IsMeeting : List (ℕ × ℕ) → Item → RawMeeting → Type 0
IsMeeting constraints (at_vertex i) m =
    m ≡ record { kind = AT_VERTEX; from = i; to = i; constrained = 0 }
IsMeeting constraints (across i j) m = (m.kind ≡ ACROSS_EDGE) × (m.from ≡ i) × (m.to ≡ j)
    × IsMark constraints i j m.constrained
IsMeeting constraints (along i j) m = (m.kind ≡ ALONG_EDGE) × (m.from ≡ i) × (m.to ≡ j)
    × IsMark constraints i j m.constrained

-- a call tells of these items, in their order
abbrev pub TellsItems : List (ℕ × ℕ) → List Item → ℕ → ℕ → List RawMeeting → List RawMeeting
    → Type 0
TellsItems constraints items status told old new =
    (meetings : List RawMeeting) × AllZip (IsMeeting constraints) items meetings
    × Tells meetings status told old new

-- a segment may be asked about
abbrev pub MayAskLine : RawPoint → RawPoint → Type 0
MayAskLine from to = IsRawInRange from × IsRawInRange to

-- what C is told of what a segment meets: the line list
abbrev pub AreMeetings : Triangulation → List (ℕ × ℕ) → RawPoint → RawPoint → List RawMeeting
    → Type 0
AreMeetings t constraints from to meetings =
    (items : List Item) × IsLineList t (whole (plain_point from)) (whole (plain_point to)) items
    × AllZip (IsMeeting constraints) items meetings

-- a query for what a segment meets
abbrev pub FindsLine : Triangulation → List (ℕ × ℕ) → RawPoint → RawPoint → ℕ → ℕ → ℕ
    → List RawMeeting → List RawMeeting → Type 0
FindsLine t constraints from to status was told old new =
    Finding (MayAskLine from to) (AreMeetings t constraints from to)
    (λ reason. (reason ≡ TOO_LARGE) × ¬ MayAskLine from to) status was told old new
