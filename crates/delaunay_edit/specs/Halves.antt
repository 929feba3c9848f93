-- The halves of a straight constraint, whose middle is a vertex, and what becomes of their far ends
-- where the vertex goes.
use Rattle.std.specs.Prelude.{◌≡◌, ◌≢◌, ◌⊎◌, ◌*◌, ◌/◌, ◌≤◌}
use Rattle.std.specs.Prelude.{ℕ, Bool, true, List, length, map, Option, MatchOption, IfSome}
use Rattle.std.specs.Prelude.{Contains}
use Rattle.plane.specs.{AreStraightHalves, Joins, Plain, Point}
use Rattle.half_edge_links.specs.{moved, origin, rev}
use Rattle.{half_edge_dcel.specs.Contents, plane_theorems.specs.AllPassBut}
use Rattle.delaunay_legalization.specs.{constraints_by, faces_of, IsTriangulated, Legalizes}
use Rattle.{delaunay_legalization.specs.state_of, delaunay_vertices.specs.pairs_left}
use Rattle.delaunay_edit.specs.Adding.{AddsPath, HasFreeWay}
use Rattle.delaunay_edit.specs.Counting.{EndsAt, HasPairs}
use Rattle.delaunay_edit.specs.{declared.crossing.CrossingLists.CrossingLists, Lists.HaveRoom}

-- ---- the search for them
-- directed edge h is a constraint that ends at neither a nor b
abbrev pub LeadsBeside : {V D U F : Type 0} → (List U → List ℕ) → Contents V D U F → ℕ → ℕ → ℕ
    → Type 0
LeadsBeside constraints c a b h = Contains (constraints c.undirected) (h / 2)
    × (origin c.mesh (rev h) ≢ a) × (origin c.mesh (rev h) ≢ b)

-- k is the far end of a pair at v, and neither a nor b; or each far end is one of these
abbrev pub IsEndBeside : List (ℕ × ℕ) → ℕ → ℕ → ℕ → Option ℕ → Type 0
IsEndBeside pairs v a b r = MatchOption r ((k : ℕ) → Joins pairs v k → (k ≡ a) ⊎ (k ≡ b))
    (λ k. Joins pairs v k × (k ≢ a) × (k ≢ b))

-- exactly two pairs stand at v, of far ends a and b
pub record AreOnlyEnds (pairs : List (ℕ × ℕ)) (v a b : ℕ) : Type 0 where
  pub apart : a ≢ b
  pub first : Joins pairs v a
  pub second : Joins pairs v b
  pub only : (k : ℕ) → Joins pairs v k → (k ≡ a) ⊎ (k ≡ b)

-- the far ends of the pairs at v, if there are exactly two
abbrev pub AreTwoEnds : List (ℕ × ℕ) → ℕ → Option (ℕ × ℕ) → Type 0
AreTwoEnds pairs v r =
    MatchOption r ((a b : ℕ) → ¬ AreOnlyEnds pairs v a b) (λ p. AreOnlyEnds pairs v p.0 p.1)

-- the far ends of the straight halves at v, if it has such
abbrev pub AreHalvesAt : {V : Type 0} → (V → Point) → Plain V → ℕ → Option (ℕ × ℕ) → Type 0
AreHalvesAt place s v r =
    MatchOption r ((a b : ℕ) → ¬ AreStraightHalves place s v a b)
    (λ p. AreStraightHalves place s v p.0 p.1)

-- how many constraints fewer there are when v goes: as many as end at it, or one, where the far
-- ends of two are joined
abbrev pub IsLoss : List (ℕ × ℕ) → ℕ → Option (ℕ × ℕ) → ℕ → Type 0
IsLoss pairs v ends n = MatchOption ends (HasPairs (EndsAt pairs v) n) (λ _. n ≡ 1)

-- ---- where the vertex has gone
-- the others have a triangulation in which each edge passes but constraints and those of the pairs,
-- which go by former indexes, and the segment between the far ends, if there are such, is free
pub record CanSettle {V D U F : Type 0} (place : V → Point) (can_mark : Bool)
    (constraints : List U → List ℕ) (c : Contents V D U F) (v : ℕ) (ends : Option (ℕ × ℕ))
    (pairs : List (ℕ × ℕ)) : Type 0 where
  pub kept : IsTriangulated place (state_of c)
  pub passing : AllPassBut (map place c.vertices) (faces_of c.mesh)
      (constraints_by constraints (state_of c)) (pairs_left (length c.vertices) v pairs)
  pub way : IfSome ends (λ p. (can_mark ≡ true) × HasFreeWay place constraints c
      (moved (length c.vertices) v p.0) (moved (length c.vertices) v p.1))

-- there is room to test the edges of so many vertices, in two sets, and for those that cross the
-- segment between the far ends, if there are such
pub record HasRoomToSettle (vertices room room_among : ℕ) (crossing : CrossingLists)
    (ends : Option (ℕ × ℕ)) : Type 0 where
  pub edges : 3 * vertices ≤ room
  pub among : 3 * vertices ≤ room_among
  pub crossing_edges : IfSome ends (λ _. HaveRoom (3 * vertices) crossing)

-- the path between the far ends, if there are such, became constraints, and then edges were flipped
-- until each passes
pub record Settles {V D U F : Type 0} (place : V → Point) (marks : U → Bool) (marked : U → U)
    (constraints : List U → List ℕ) (old new : Contents V D U F) (v : ℕ) (ends : Option (ℕ × ℕ))
    (flips_before flips_after : ℕ) : Type 0 where
  pub middle : Contents V D U F
  pub path : MatchOption ends (middle ≡ old) (λ p. AddsPath place marks marked constraints old
      middle (moved (length old.vertices) v p.0) (moved (length old.vertices) v p.1))
  pub legalizes : Legalizes place constraints middle new flips_before flips_after
