-- What edits make of constraints: a new vertex on one splits it, and its straight halves can be
-- joined when their vertex goes.
use Rattle.std.specs.Prelude.{◌≡◌, ◌≢◌, ◌⊎◌, ◌↔◌, ℕ, ◌<◌, List, nat_abs}
use Rattle.plane.specs.{Cross, IsEdge, IsIndex, IsSamePair, IsVertex, Joins, OnSegment, place}
use Rattle.plane.specs.{Point, SamePairs, squared_vector, Triangulation, vertex, whole}
use Rattle.plane.specs.{WithinSegment}
use Rattle.plane_theorems.specs.{Edits.Legal.point_of, Tiling.Laws.EdgesMeetAtVertices}

-- the pair of i and j goes, and its halves at n come
abbrev SplitsPair : List (ℕ × ℕ) → List (ℕ × ℕ) → ℕ → ℕ → ℕ → Type 0
SplitsPair old new n i j = (a b : ℕ) → Joins new a b
    ↔ ((Joins old a b × ¬ IsSamePair a b i j) ⊎ (IsSamePair a b i n ⊎ IsSamePair a b n j))

-- what an insert of a vertex at q, with the index n, makes of the pairs, in the words of plain
-- states: a pair that carries it becomes two halves
abbrev pub IsHalfOf : List Point → List (ℕ × ℕ) → ℕ → Point → ℕ → ℕ → Type 0
IsHalfOf points old n q i m =
    (m ≡ n) × ((j : ℕ) × Joins old i j × WithinSegment (place points i) (place points j) (whole q))

abbrev AppendsPairs : List Point → List (ℕ × ℕ) → List (ℕ × ℕ) → ℕ → Point → Type 0
AppendsPairs points old new n q = (i j : ℕ) → Joins new i j
    ↔ ((Joins old i j × ¬ WithinSegment (place points i) (place points j) (whole q))
    ⊎ (IsHalfOf points old n q i j ⊎ IsHalfOf points old n q j i))

-- one pair carries q and is split, or none does and all stay
abbrev SplitsOneOrNone : List Point → List (ℕ × ℕ) → List (ℕ × ℕ) → ℕ → Point → Type 0
SplitsOneOrNone points old new n q = ((i : ℕ) × (j : ℕ) × Joins old i j
    × WithinSegment (place points i) (place points j) (whole q) × SplitsPair old new n i j)
    ⊎ (((i j : ℕ) → Joins old i j → ¬ WithinSegment (place points i) (place points j) (whole q))
    × SamePairs old new)

-- where the pairs are edges, that is what an insert makes of them
abbrev pub SplitIsAppend : Type 0
SplitIsAppend = (t : Triangulation) (old new : List (ℕ × ℕ)) (n : ℕ) (q : Point)
    → EdgesMeetAtVertices t → ((a b : ℕ) → Joins old a b → IsEdge t a b)
    → SplitsOneOrNone t.points old new n q → AppendsPairs t.points old new n q

-- two edges that end at v, strictly between their other ends a and b: no other vertex is strictly
-- between these, they have no edge, and no edge but those at v crosses their segment
abbrev pub StraightHalvesJoin : Type 0
StraightHalvesJoin = (t : Triangulation) (a b v : ℕ) → EdgesMeetAtVertices t → IsVertex t v
    → ((k : ℕ) → IsVertex t k → k ≢ v → vertex t k ≢ vertex t v)
    → IsEdge t a v → IsEdge t v b → WithinSegment (vertex t a) (vertex t b) (vertex t v)
    → ((k : ℕ) → IsVertex t k → k ≢ v → ¬ WithinSegment (vertex t a) (vertex t b) (vertex t k))
    × (¬ IsEdge t a b)
    × ((c d : ℕ) → IsEdge t c d → c ≢ v → d ≢ v
    → ¬ Cross (vertex t a) (vertex t b) (vertex t c) (vertex t d))

-- ---- the path of constraints between two vertices
-- a and b are vertices of the closed segment of i and j, next to one another on it, as plain states
-- have it
pub record AreNextOn (points : List Point) (i j a b : ℕ) : Type 0 where
  pub apart : a ≢ b
  pub first_index : IsIndex points a
  pub second_index : IsIndex points b
  pub first : OnSegment (place points i) (place points j) (place points a)
  pub second : OnSegment (place points i) (place points j) (place points b)
  pub none_between : (k : ℕ) → IsIndex points k
      → ¬ WithinSegment (place points a) (place points b) (place points k)

-- no two indexes have one point
abbrev pub ArePlacedApart : List Point → Type 0
ArePlacedApart points = (a b : ℕ) → IsIndex points a → IsIndex points b → a ≢ b
    → place points a ≢ place points b

-- it has a first subconstraint
abbrev pub PathBegins : Type 0
PathBegins = (points : List Point) (i j : ℕ) → ArePlacedApart points → IsIndex points i
    → IsIndex points j → i ≢ j → (w : ℕ) × AreNextOn points i j i w

-- and is this subconstraint with the path from its end
abbrev pub PathGoesOn : Type 0
PathGoesOn = (points : List Point) (i j w : ℕ) → ArePlacedApart points → IsIndex points j → i ≢ j
    → AreNextOn points i j i w
    → (a b : ℕ) → AreNextOn points i j a b ↔ (IsSamePair a b i w ⊎ AreNextOn points w j a b)

-- from a vertex to itself there is no subconstraint
abbrev pub PathEnds : Type 0
PathEnds = (points : List Point) (j : ℕ) → ArePlacedApart points → (a b : ℕ)
    → ¬ AreNextOn points j j a b

-- what crosses a subconstraint crosses the whole segment: where no constraint crosses this, none
-- crosses a subconstraint
abbrev pub SubconstraintCrossesWhole : Type 0
SubconstraintCrossesWhole = (points : List Point) (i j a b c d : ℕ) → ArePlacedApart points
    → IsIndex points i → IsIndex points j → i ≢ j → IsIndex points c → IsIndex points d → c ≢ d
    → AreNextOn points i j a b
    → Cross (place points a) (place points b) (place points c) (place points d)
    → Cross (place points i) (place points j) (place points c) (place points d)

-- the path from the end of its first subconstraint is shorter
abbrev pub PathShortens : Type 0
PathShortens = (points : List Point) (i j w : ℕ) → ArePlacedApart points → IsIndex points i
    → IsIndex points j → i ≢ j → AreNextOn points i j i w
    → nat_abs (squared_vector (point_of points w) (point_of points j))
    < nat_abs (squared_vector (point_of points i) (point_of points j))
