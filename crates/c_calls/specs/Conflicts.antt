-- What C is told of the constraints that a segment crosses.
use Rattle.std.specs.Prelude.{◌≡◌, ◌≢◌, ◌⊎◌, ◌+◌, [], ◌∷◌, ℕ, List, Option, MatchOption}
use Rattle.std.specs.Prelude.{slice_set}
use Rattle.plane.specs.{across, along, at_vertex, IsLineList, Item, Joins, Triangulation, whole}
use Rattle.c_calls.specs.{Queries.MayAskLine, Written.Finding, Written.plain_point, Written.Tells}
use Rattle.c_calls.specs.declared.lines.TheConstants.{ACROSS_EDGE}
use Rattle.c_calls.specs.{declared.raw.RawMeeting.RawMeeting, declared.raw.RawSegment.RawSegment}
use Rattle.c_calls.specs.{declared.raw.RawPoint.RawPoint, declared.statuses.TheConstants.TOO_LARGE}

-- the segment crosses an edge there which is a constraint, as these are
abbrev pub IsCrossed : List (ℕ × ℕ) → Item → RawSegment → Type 0
IsCrossed constraints (at_vertex i) s = ⊥
IsCrossed constraints (across i j) s =
    (s ≡ record { from = i; to = j }) × Joins constraints i j
IsCrossed constraints (along i j) s = ⊥

-- the constraints that are crossed among these items, each once, in their order
abbrev pub AreCrossed : List (ℕ × ℕ) → List Item → List RawSegment → Type 0
AreCrossed constraints [] found = found ≡ []
AreCrossed constraints (m ∷ items) found =
    (((s : RawSegment) → ¬ IsCrossed constraints m s) × AreCrossed constraints items found)
    ⊎ ((s : RawSegment) × ((rest : List RawSegment) × (IsCrossed constraints m s
    × ((found ≡ s ∷ rest) × AreCrossed constraints items rest))))

-- what a meeting says of a constraint that is crossed
abbrev pub IsConflictMet : RawMeeting → Option RawSegment → Type 0
IsConflictMet m found = MatchOption found ((m.kind ≢ ACROSS_EDGE) ⊎ (m.constrained ≡ 0))
    (λ s. (m.kind ≡ ACROSS_EDGE) × ((m.constrained ≢ 0)
    × (s ≡ record { from = m.from; to = m.to })))

-- one more constraint was written at its place, if it was one
abbrev pub PutsConflict : Option RawSegment → ℕ → ℕ → List RawSegment → List RawSegment → Type 0
PutsConflict found was count old new = MatchOption found ((count ≡ was) × (new ≡ old))
    (λ s. (count ≡ was + 1) × (new ≡ slice_set old was s))

-- a call tells of the constraints that are crossed among these items
abbrev pub TellsConflicts : List (ℕ × ℕ) → List Item → ℕ → ℕ → List RawSegment → List RawSegment
    → Type 0
TellsConflicts constraints items status told old new =
    (found : List RawSegment) × AreCrossed constraints items found × Tells found status told old new

-- the constraints that a segment crosses, by its line list
abbrev pub AreConflicts : Triangulation → List (ℕ × ℕ) → RawPoint → RawPoint → List RawSegment
    → Type 0
AreConflicts t constraints from to found =
    (items : List Item) × IsLineList t (whole (plain_point from)) (whole (plain_point to)) items
    × AreCrossed constraints items found

-- a query for the constraints that a segment crosses
abbrev pub FindsConflicts : Triangulation → List (ℕ × ℕ) → RawPoint → RawPoint → ℕ → ℕ → ℕ
    → List RawSegment → List RawSegment → Type 0
FindsConflicts t constraints from to status was told old new =
    Finding (MayAskLine from to) (AreConflicts t constraints from to)
    (λ reason. (reason ≡ TOO_LARGE) × ¬ MayAskLine from to) status was told old new
