-- The plain state, vertices in a list and constraints as pairs of their indexes, and what each edit
-- makes of it.
-- Plain: the vertices, and the constraints as pairs of their indexes
-- IsPlain: no two vertices have one position, and each pair is of two different vertices
-- points_of: the positions of the vertices, in their order
-- Appends old new v: v becomes the last vertex, and a constraint that carries it becomes its halves
-- Replaces old new i v: v comes to vertex i, which has the position of v
-- Inserts old new v i: one of the two, after which v has the index i
-- Removes old new i: vertex i goes; two constraints that are halves of one at i become that one
-- TakesOut old new i: vertex i goes with all its constraints
-- CanAdd s i j: no constraint crosses the segment from i to j
-- Adds old new i j: each two neighbours on the segment from i to j become a constraint
-- Releases old new i j: the constraint of i and j goes
-- Run: what a list of accepted edits makes of the state, one after the other
use Rattle.std.specs.Prelude.{◌≡◌, ◌≢◌, ◌⊎◌, ◌↔◌, ◌-◌, ◌<◌, [], ◌∷◌, ◌++◌, if◌then◌else◌}
use Rattle.std.specs.Prelude.{ℕ, List, length, map, slice_index_or, slice_set, nat_eq, All}
use Rattle.std.specs.Prelude.{AllPairs, swap_remove}
use Rattle.plane.specs.Crossing.{Cross}
use Rattle.plane.specs.Fractions.{OnSegment, Point, whole, WithinSegment}
use Rattle.plane.specs.Pairs.{IsIndex, IsSamePair, Joins, place, SamePairs}

-- what edits are defined on: vertices in a list, and constraints as pairs of their indexes
pub record Plain (V : Type 0) : Type 0 where
  pub vertices : List V
  pub constraints : List (ℕ × ℕ)

-- the edits. An `add_constraint_edge` is two inserts and an add
pub data Edit (V : Type 0) : Type 0 where
  insert : V → Edit V
  replace : ℕ → V → Edit V
  remove : ℕ → Edit V
  add : ℕ → ℕ → Edit V
  release : ℕ → ℕ → Edit V
  clear : Edit V
  from_delaunay : Edit V

module _ {V : Type 0} (position : V → Point) where
  -- the positions of the vertices, in their order
  abbrev pub points_of : Plain V → List Point
  points_of s = map position s.vertices

  -- two vertices at different positions
  abbrev pub DifferInPosition : V → V → Type 0
  DifferInPosition u v = position u ≢ position v

  -- the positions differ, and each pair is of two vertices
  pub record IsPlain (s : Plain V) : Type 0 where
    pub distinct : AllPairs DifferInPosition s.vertices
    pub pairs : (i j : ℕ) → Joins s.constraints i j
        → (i < length s.vertices) × (j < length s.vertices) × (i ≢ j)

  -- v takes the place of vertex i, which has its position
  pub record Replaces (old new : Plain V) (i : ℕ) (v : V) : Type 0 where
    pub here : i < length old.vertices
    pub same : position (slice_index_or old.vertices i v) ≡ position v
    pub vertices : new.vertices ≡ slice_set old.vertices i v
    pub constraints : SamePairs old.constraints new.constraints

  -- v is strictly within the segment of i and j
  abbrev pub Carries : Plain V → V → ℕ → ℕ → Type 0
  Carries s v i j =
      WithinSegment (place (points_of s) i) (place (points_of s) j) (whole (position v))

  -- i and m are a half of a pair that carries v: m is n, the index that v gets
  abbrev pub IsHalf : Plain V → V → ℕ → ℕ → ℕ → Type 0
  IsHalf s v n i m = (m ≡ n) × ((j : ℕ) × Joins s.constraints i j × Carries s v i j)

  -- v comes last, and a pair that carries it becomes two halves
  pub record Appends (old new : Plain V) (v : V) : Type 0 where
    pub fresh : All (DifferInPosition v) old.vertices
    pub vertices : new.vertices ≡ old.vertices ++ v ∷ []
    pub constraints : let n = length old.vertices in
        (i j : ℕ) → Joins new.constraints i j ↔ ((Joins old.constraints i j × ¬ Carries old v i j)
        ⊎ (IsHalf old v n i j ⊎ IsHalf old v n j i))

  -- after an insert of v, its index is i
  abbrev pub Inserts : Plain V → Plain V → V → ℕ → Type 0
  Inserts old new v i = Replaces old new i v ⊎ ((i ≡ length old.vertices) × Appends old new v)

  -- vertex i goes, and the last vertex takes the index i. The old index of what is now k is k, but
  -- last where k is i, and the pairs that are left are those which stand in J by their old indexes
  pub record Drops (J : ℕ → ℕ → Type 0) (old new : Plain V) (i : ℕ) : Type 0 where
    pub here : i < length old.vertices
    pub vertices : (d : V) → new.vertices ≡ swap_remove old.vertices i d
    pub constraints : let last = length old.vertices - 1 in
        let old_index = λ (k : ℕ). if nat_eq k i then last else k in
        (a b : ℕ) → Joins new.constraints a b
        ↔ ((a < last) × (b < last) × J (old_index a) (old_index b))

  -- vertex i goes with its pairs
  abbrev pub TakesOut : Plain V → Plain V → ℕ → Type 0
  TakesOut old new i = Drops (Joins old.constraints) old new i

  -- exactly two pairs stand at vertex i, of other ends a and b, and it is strictly within the
  -- segment of these
  pub record AreStraightHalves (s : Plain V) (i a b : ℕ) : Type 0 where
    pub apart : a ≢ b
    pub first : Joins s.constraints i a
    pub second : Joins s.constraints i b
    pub only : (k : ℕ) → Joins s.constraints i k → (k ≡ a) ⊎ (k ≡ b)
    pub within : let at = place (points_of s) in WithinSegment (at a) (at b) (at i)

  -- vertex i goes with its pairs. Where they are the halves of a straight constraint, their far
  -- ends become a pair
  abbrev pub Removes : Plain V → Plain V → ℕ → Type 0
  Removes old new i =
      Drops (λ a b. Joins old.constraints a b ⊎ AreStraightHalves old i a b) old new i

  -- no pair crosses the segment of i and j
  abbrev pub CanAdd : Plain V → ℕ → ℕ → Type 0
  CanAdd s i j = let at = place (points_of s) in
      (a b : ℕ) → Joins s.constraints a b → ¬ Cross (at i) (at j) (at a) (at b)

  -- a and b are vertices of the closed segment of i and j, next to one another on it
  pub record AreNeighboursOn (points : List Point) (i j a b : ℕ) : Type 0 where
    pub apart : a ≢ b
    pub first_index : IsIndex points a
    pub second_index : IsIndex points b
    pub first : OnSegment (place points i) (place points j) (place points a)
    pub second : OnSegment (place points i) (place points j) (place points b)
    pub none_between : (k : ℕ) → IsIndex points k
        → ¬ WithinSegment (place points a) (place points b) (place points k)

  -- the vertices of the closed segment are joined, each to the next. For equal i and j there is
  -- one, and nothing is joined
  pub record Adds (old new : Plain V) (i j : ℕ) : Type 0 where
    pub ends : (i < length old.vertices) × (j < length old.vertices)
    pub free : CanAdd old i j
    pub vertices : new.vertices ≡ old.vertices
    pub constraints : (a b : ℕ) → Joins new.constraints a b
        ↔ (Joins old.constraints a b ⊎ AreNeighboursOn (points_of old) i j a b)

  -- the pair of i and j goes
  pub record Releases (old new : Plain V) (i j : ℕ) : Type 0 where
    pub there : Joins old.constraints i j
    pub vertices : new.vertices ≡ old.vertices
    pub constraints : (a b : ℕ) → Joins new.constraints a b
        ↔ (Joins old.constraints a b × ¬ IsSamePair a b i j)

  -- nothing is left
  pub record IsCleared (new : Plain V) : Type 0 where
    pub vertices : new.vertices ≡ []
    pub constraints : new.constraints ≡ []

  -- the vertices stay and no pair is left, as `from_delaunay` leaves them
  pub record Unconstrains (old new : Plain V) : Type 0 where
    pub vertices : new.vertices ≡ old.vertices
    pub constraints : new.constraints ≡ []

  -- nothing changes
  pub record IsSameState (old new : Plain V) : Type 0 where
    pub vertices : new.vertices ≡ old.vertices
    pub constraints : SamePairs old.constraints new.constraints

  -- what an accepted edit makes of the state
  abbrev pub Step : Edit V → Plain V → Plain V → Type 0
  Step (insert v) old new = (i : ℕ) × Inserts old new v i
  Step (replace i v) old new = Replaces old new i v
  Step (remove i) old new = Removes old new i
  Step (add i j) old new = Adds old new i j
  Step (release i j) old new = Releases old new i j
  Step clear old new = IsCleared new
  Step from_delaunay old new = Unconstrains old new

  -- accepted edits, one after another
  abbrev pub Run : List (Edit V) → Plain V → Plain V → Type 0
  Run [] old new = IsSameState old new
  Run (e ∷ es) old new = (middle : Plain V) × Step e old middle × Run es middle new
