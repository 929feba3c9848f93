-- What each call says of the triangulation that a handle has, where it has one.
use Rattle.std.specs.Prelude.{◌≡◌, ℕ, ℤ, List, Option, None, Some, MatchOption}
use Rattle.c_calls.specs.{Answers.OpensAt, Answers.OpensCopy, declared.raw.RawLocation.RawLocation}
use Rattle.c_calls.specs.{Beyond.ListsBeyond, Reach.ListsLabels, Ways.FindsWay, Written.Answering}
use Rattle.c_calls.specs.{Conflicts.FindsConflicts, declared.kept.AnyTriangulation.AnyTriangulation}
use Rattle.c_calls.specs.Kept.{CountsKept, kept_drawing, kept_links, kept_state, kept_vertices}
use Rattle.c_calls.specs.{declared.raw.RawCounts.RawCounts, Layers.kept_marked, Layers.ListsLayers}
use Rattle.c_calls.specs.Queries.{FindsKeptNearest, FindsLine, IsKeptLocation, ListsNumbers}
use Rattle.c_calls.specs.Queries.{ListsPositions, ListsRawEdges, ListsRawFaces}
use Rattle.c_calls.specs.{declared.raw.RawEdge.RawEdge, Shapes.FindsEdgesIn, Shapes.FindsVerticesIn}
use Rattle.c_calls.specs.Sight.{FindsSight}
use Rattle.c_calls.specs.{declared.raw.RawBox.RawBox, declared.raw.RawFace.RawFace, Wide.ListsWide}
use Rattle.c_calls.specs.{declared.raw.RawMeeting.RawMeeting, declared.raw.RawSegment.RawSegment}
use Rattle.c_calls.specs.{declared.raw.RawPoint.RawPoint, declared.raw.RawShape.RawShape}
use Rattle.c_calls.specs.declared.statuses.TheConstants.{ALREADY_OPEN, CLOSED, WELL}

-- a closed handle was to be opened, and an open one refuses that
abbrev pub OpensClosed : ℕ → ℕ → Option AnyTriangulation → Option AnyTriangulation → Type 0
OpensClosed kind status old new =
    MatchOption old (OpensAt kind status new) (λ k. (status ≡ ALREADY_OPEN) × (new ≡ Some k))

-- a handle was to be opened with a copy of what another one has, if that is open
abbrev pub CopiesOpen : Option AnyTriangulation → ℕ → Option AnyTriangulation → Option
    AnyTriangulation → Type 0
CopiesOpen kept status old new =
    MatchOption kept ((status ≡ CLOSED) × (new ≡ old)) (λ k. OpensCopy k status old new)

-- an edit of what an open handle has. A closed one refuses it
abbrev pub EditsOpen : (AnyTriangulation → Option AnyTriangulation → Type 0) → ℕ → Option
    AnyTriangulation
    → Option AnyTriangulation → Type 0
EditsOpen Becomes status old new =
    MatchOption old ((status ≡ CLOSED) × (new ≡ None)) (λ k. Becomes k new)

-- a query of what an open handle has. A closed one refuses it, and what was to be written stays
abbrev pub AsksOpen : Type 0 → (AnyTriangulation → Type 0) → ℕ → Option AnyTriangulation → Type 0
AsksOpen Stays IsTold status kept = MatchOption kept ((status ≡ CLOSED) × Stays) IsTold

-- how many parts there are
abbrev pub TellsCounts : Option AnyTriangulation → ℕ → RawCounts → Type 0
TellsCounts kept status counts = MatchOption kept (status ≡ CLOSED)
    (λ k. (status ≡ WELL) × CountsKept k counts)

-- ---- lists of all parts
abbrev pub TellsPositions : Option AnyTriangulation → ℕ → ℕ → ℕ → List RawPoint → List RawPoint →
    Type 0
TellsPositions kept status was told old new = AsksOpen ((new ≡ old) × (told ≡ was))
    (λ k. ListsPositions (kept_vertices k) status told old new) status kept

abbrev pub TellsNumbers : Option AnyTriangulation → ℕ → ℕ → ℕ → List ℕ → List ℕ → Type 0
TellsNumbers kept status was told old new = AsksOpen ((new ≡ old) × (told ≡ was))
    (λ k. ListsNumbers (kept_vertices k) status told old new) status kept

abbrev pub TellsEdges : Option AnyTriangulation → ℕ → ℕ → ℕ → List RawEdge → List RawEdge → Type 0
TellsEdges kept status was told old new = AsksOpen ((new ≡ old) × (told ≡ was))
    (λ k. ListsRawEdges (kept_drawing k) (kept_state k).constraints status told old new) status kept

abbrev pub TellsFaces : Option AnyTriangulation → ℕ → ℕ → ℕ → List RawFace → List RawFace → Type 0
TellsFaces kept status was told old new = AsksOpen ((new ≡ old) × (told ≡ was))
    (λ k. ListsRawFaces (kept_drawing k) (kept_state k).constraints status told old new) status kept

abbrev pub TellsLayers : Option AnyTriangulation → ℕ → ℕ → ℕ → List ℕ → List ℕ → Type 0
TellsLayers kept status was told old new = AsksOpen ((new ≡ old) × (told ≡ was))
    (λ k. ListsLayers (kept_drawing k) (kept_links k) (kept_marked k) status told old new) status
    kept

abbrev pub TellsBeyond : Option AnyTriangulation → RawBox → ℕ → ℕ → ℕ → List ℕ → List ℕ → Type 0
TellsBeyond kept within status was told old new = AsksOpen ((new ≡ old) × (told ≡ was))
    (λ k. ListsBeyond (kept_drawing k) within status told old new) status kept

-- ---- answers to many queries
abbrev pub TellsLocations : Option AnyTriangulation → List RawPoint → ℕ → List RawLocation →
    List RawLocation
    → Type 0
TellsLocations kept queries status old new = AsksOpen (new ≡ old)
    (λ k. Answering queries (IsKeptLocation k) status old new) status kept

abbrev pub TellsNearest : Option AnyTriangulation → List RawPoint → ℕ → List ℕ → List ℕ → Type 0
TellsNearest kept queries status old new = AsksOpen (new ≡ old)
    (λ k. FindsKeptNearest k queries status old new) status kept

-- ---- lists of what was found
abbrev pub TellsLine : Option AnyTriangulation → RawPoint → RawPoint → ℕ → ℕ → ℕ → List RawMeeting
    → List RawMeeting → Type 0
TellsLine kept from to status was told old new = AsksOpen ((new ≡ old) × (told ≡ was))
    (λ k. FindsLine (kept_drawing k) (kept_state k).constraints from to status was told old new)
    status kept

abbrev pub TellsCrossed : Option AnyTriangulation → RawPoint → RawPoint → ℕ → ℕ → ℕ → List
    RawSegment
    → List RawSegment → Type 0
TellsCrossed kept from to status was told old new = AsksOpen ((new ≡ old) × (told ≡ was))
    (λ k. FindsConflicts (kept_drawing k) (kept_state k).constraints from to status was told old
    new) status kept

abbrev pub TellsVerticesIn : Option AnyTriangulation → RawShape → ℕ → ℕ → ℕ → List ℕ → List ℕ → Type
    0
TellsVerticesIn kept shape status was told old new = AsksOpen ((new ≡ old) × (told ≡ was))
    (λ k. FindsVerticesIn (kept_drawing k) shape status was told old new) status kept

abbrev pub TellsEdgesIn : Option AnyTriangulation → RawShape → ℕ → ℕ → ℕ → List ℕ → List ℕ → Type 0
TellsEdgesIn kept shape status was told old new = AsksOpen ((new ≡ old) × (told ≡ was))
    (λ k. FindsEdgesIn (kept_drawing k) (kept_links k) shape status was told old new) status kept

-- ---- lines of sight
abbrev pub TellsInSight : Option AnyTriangulation → RawPoint → RawPoint → List ℕ → ℕ → ℕ → Type 0
TellsInSight kept from to bytes status seen = MatchOption kept (status ≡ CLOSED)
    (λ k. FindsSight (kept_drawing k) from to bytes status seen)

-- ---- ways
abbrev pub TellsWay : Option AnyTriangulation → RawPoint → RawPoint → List ℕ → ℕ → ℕ → ℕ
    → List RawPoint → List RawPoint → Type 0
TellsWay kept from to bytes status was told old new = AsksOpen ((new ≡ old) × (told ≡ was))
    (λ k. FindsWay (kept_drawing k) from to bytes status was told old new) status kept

abbrev pub TellsLabels : Option AnyTriangulation → List ℕ → ℕ → ℕ → ℕ → List ℕ → List ℕ → Type 0
TellsLabels kept bytes status was told old new = AsksOpen ((new ≡ old) × (told ≡ was))
    (λ k. ListsLabels (kept_drawing k) bytes status was told old new) status kept

abbrev pub TellsWide : Option AnyTriangulation → List ℕ → ℤ → ℕ → ℕ → ℕ → List ℕ → List ℕ → Type 0
TellsWide kept bytes width_2 status was told old new = AsksOpen ((new ≡ old) × (told ≡ was))
    (λ k. ListsWide (kept_drawing k) bytes width_2 status was told old new) status kept
