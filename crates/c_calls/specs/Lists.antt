-- What edits of a triangulation that C keeps make of it by a list of C's, by their statuses.
use Rattle.std.specs.Prelude.{◌≡◌, ◌≢◌, ◌+◌, ◌*◌, ◌<◌, ◌≤◌, [], ◌∷◌, ◌++◌, ℕ, Bool, true, false}
use Rattle.std.specs.Prelude.{List, length, map}
use Rattle.std.specs.Prelude.{All, Contains, Some, drop, slice_get, take}
use Rattle.plane.specs.{Adds, CanAdd, InRange, Point}
use Rattle.half_edge_links.specs.{MAX_ELEMENTS}
use Rattle.delaunay_legalization.specs.{declared.cdt_edge.CdtEdge.CdtEdge, State.State}
use Rattle.delaunay_edit.specs.{constrained, constraint_edges, none}
use Rattle.delaunay_extensions.specs.{Bulk.StopsLater, BulkInsertionError, InsertsAll}
use Rattle.c_calls.specs.Kept.{kept_place, unnumbered_at}
use Rattle.c_calls.specs.declared.kept.AnyTriangulation.{AnyTriangulation}
use Rattle.c_calls.specs.declared.kept.AnyTriangulation.TheVariants.{Constrained, Plain}
use Rattle.c_calls.specs.{declared.raw.NumberedPoint.NumberedPoint, declared.raw.RawPoint.RawPoint}
use Rattle.c_calls.specs.declared.statuses.TheConstants.{CROSSING, IS_PLAIN, NO_SUCH_VERTEX}
use Rattle.c_calls.specs.declared.statuses.TheConstants.{OUT_OF_INDEXES, OUT_OF_MEMORY, TOO_LARGE}
use Rattle.c_calls.specs.declared.statuses.TheConstants.{TOO_SHORT, UNEQUAL_LENGTHS, WELL}

-- ---- a list of points
-- the vertices at these points, each with the number 0
abbrev pub unnumbered_points : List RawPoint → List NumberedPoint
unnumbered_points ps = map (λ p. unnumbered_at p.x p.y) ps

module _ {V D U F : Type 0} (place : V → Point) where
  -- a list may be inserted: there is room for its indexes, all is in range, and there are few
  -- enough vertices
  pub record MayInsert (list : List V) (before : List ℕ) (old : State V D U F) : Type 0 where
    pub room : length list ≤ length before
    pub in_range : All (λ v. InRange (place v)) list
    pub few : ¬ (MAX_ELEMENTS < 6 * (length old.vertices + length list))

module _ {V D U F : Type 0} (place : V → Point) (constraints : List U → List ℕ) where
  -- how the insertion of all vertices of a list ended. Their indexes are written to the front of
  -- another list where all are there, and else that stays
  pub data ListInsertion (list : List V) (status : ℕ) (before after : List ℕ)
      (old new : State V D U F) : Type 0 where
    all_inserted : (handles : List ℕ) → status ≡ WELL → MayInsert place list before old
        → InsertsAll place constraints list handles old new
        → after ≡ handles ++ drop (length handles) before
        → ListInsertion list status before after old new
    insertion_short : status ≡ TOO_SHORT → length before < length list → new ≡ old
        → after ≡ before → ListInsertion list status before after old new
    insertion_outside : status ≡ TOO_LARGE → length list ≤ length before
        → ¬ All (λ v. InRange (place v)) list → new ≡ old → after ≡ before
        → ListInsertion list status before after old new
    insertion_full : status ≡ OUT_OF_INDEXES → length list ≤ length before
        → All (λ v. InRange (place v)) list
        → MAX_ELEMENTS < 6 * (length old.vertices + length list) → new ≡ old → after ≡ before
        → ListInsertion list status before after old new
    insertion_refused : status ≡ OUT_OF_MEMORY → MayInsert place list before old → new ≡ old
        → after ≡ before → ListInsertion list status before after old new
    insertion_stopped : (error : BulkInsertionError) → status ≡ OUT_OF_MEMORY
        → MayInsert place list before old → StopsLater place constraints list error old new
        → after ≡ before → ListInsertion list status before after old new

-- an insertion of a list into either type, which stays
abbrev pub InsertsListKept : List NumberedPoint → ℕ → List ℕ → List ℕ → AnyTriangulation →
    AnyTriangulation
    → Type 0
InsertsListKept list status before after (Plain a) (Plain b) =
    ListInsertion kept_place none list status before after a b
InsertsListKept list status before after (Constrained a) (Constrained b) =
    ListInsertion kept_place constraint_edges list status before after a b
InsertsListKept list status before after (Plain a) (Constrained b) = ⊥
InsertsListKept list status before after (Constrained a) (Plain b) = ⊥

-- ---- a list of numbers
-- each vertex of a list got the number at its place there, the last one where the list has it more
-- than once, and all else stayed
pub record GivesNumbers {D U F : Type 0} (vertices numbers : List ℕ)
    (old new : State NumberedPoint D U F) : Type 0 where
  pub rest : new ≡ record old { vertices = new.vertices }
  pub positions : map (λ (p : NumberedPoint). p.position) new.vertices
      ≡ map (λ (p : NumberedPoint). p.position) old.vertices
  pub others : (i : ℕ) → ¬ Contains vertices i
      → slice_get new.vertices i ≡ slice_get old.vertices i
  pub given : (k i n : ℕ) → slice_get vertices k ≡ Some i
      → ((j : ℕ) → k < j → slice_get vertices j ≢ Some i) → slice_get numbers k ≡ Some n
      → slice_get (map (λ (p : NumberedPoint). p.number) new.vertices) i ≡ Some n

-- how it ended that vertices were to get numbers
pub data Numbering {D U F : Type 0} (vertices numbers : List ℕ) (status : ℕ)
    (old new : State NumberedPoint D U F) : Type 0 where
  numbered : status ≡ WELL → GivesNumbers vertices numbers old new
      → Numbering vertices numbers status old new
  numbering_unequal : status ≡ UNEQUAL_LENGTHS → length vertices ≢ length numbers → new ≡ old
      → Numbering vertices numbers status old new
  numbering_of_none : status ≡ NO_SUCH_VERTEX → ¬ All (λ i. i < length old.vertices) vertices
      → new ≡ old → Numbering vertices numbers status old new

-- numbers for vertices of either type, which stays
abbrev pub NumbersKept : List ℕ → List ℕ → ℕ → AnyTriangulation → AnyTriangulation → Type 0
NumbersKept vertices numbers status (Plain a) (Plain b) = Numbering vertices numbers status a b
NumbersKept vertices numbers status (Constrained a) (Constrained b) =
    Numbering vertices numbers status a b
NumbersKept vertices numbers status (Plain a) (Constrained b) = ⊥
NumbersKept vertices numbers status (Constrained a) (Plain b) = ⊥

-- ---- a chain of segments
-- from a vertex to the first of a list, and from each of these to the next
abbrev pub segments_from : ℕ → List ℕ → List (ℕ × ℕ)
segments_from v [] = []
segments_from v (w ∷ ws) = (v, w) ∷ segments_from w ws

-- the segments of a chain of vertices, which may be closed
abbrev pub chain_segments : List ℕ → Bool → List (ℕ × ℕ)
chain_segments [] closed = []
chain_segments (v ∷ vs) false = segments_from v vs
chain_segments (v ∷ vs) true = segments_from v (vs ++ v ∷ [])

module _ {V D U F : Type 0} (place : V → Point) where
  -- the ends of segments were joined, one segment after another
  abbrev pub AddsInTurn : List (ℕ × ℕ) → State V D (CdtEdge U) F → State V D (CdtEdge U) F → Type 0
  AddsInTurn [] old new = new ≡ old
  AddsInTurn (s ∷ ss) old new = (middle : State V D (CdtEdge U) F)
      × (Adds place (constrained old) (constrained middle) s.0 s.1 × AddsInTurn ss middle new)

  -- so many of these segments were joined, and the one from here to there is the next
  pub record StopsAtSegment (segments : List (ℕ × ℕ)) (made from to : ℕ)
      (old new : State V D (CdtEdge U) F) : Type 0 where
    pub next : slice_get segments made ≡ Some (from, to)
    pub joined : AddsInTurn (take made segments) old new

  -- how the addition of constraints along segments between vertices ended, of which so many were
  -- joined
  pub data SegmentsAddition (segments : List (ℕ × ℕ)) (status made : ℕ)
      (old new : State V D (CdtEdge U) F) : Type 0 where
    all_joined : status ≡ WELL → made ≡ length segments → AddsInTurn segments old new
        → SegmentsAddition segments status made old new
    joining_crossing : (from to : ℕ) → status ≡ CROSSING
        → StopsAtSegment segments made from to old new
        → ¬ CanAdd place (constrained new) from to
        → SegmentsAddition segments status made old new
    joining_refused : (from to : ℕ) → status ≡ OUT_OF_MEMORY
        → StopsAtSegment segments made from to old new
        → CanAdd place (constrained new) from to
        → SegmentsAddition segments status made old new

  -- how the addition of constraints along a chain of vertices ended
  pub data ChainAddition (vertices : List ℕ) (closed : Bool) (status made : ℕ)
      (old new : State V D (CdtEdge U) F) : Type 0 where
    chain_joined : SegmentsAddition (chain_segments vertices closed) status made old new
        → ChainAddition vertices closed status made old new
    chain_of_none : status ≡ NO_SUCH_VERTEX → made ≡ 0
        → ¬ All (λ i. i < length old.vertices) vertices → new ≡ old
        → ChainAddition vertices closed status made old new

-- a chain of constraints. A plain triangulation refuses it
abbrev pub AddsChainKept : List ℕ → Bool → ℕ → ℕ → AnyTriangulation → AnyTriangulation → Type 0
AddsChainKept vertices closed status made (Plain a) new = (status ≡ IS_PLAIN) × (new ≡ Plain a)
AddsChainKept vertices closed status made (Constrained a) (Constrained b) =
    ChainAddition kept_place vertices closed status made a b
AddsChainKept vertices closed status made (Constrained a) (Plain b) = ⊥
