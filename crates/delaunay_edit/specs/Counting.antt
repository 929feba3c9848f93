-- How many constraints there are.
use Rattle.std.specs.Prelude.{◌≡◌, ◌⊎◌, ◌↔◌, ℕ, ◌/◌, List, length, Contains}
use Rattle.plane.specs.{EachPairOnce, Joins, Point}
use Rattle.delaunay_legalization.specs.{constraints_by, IsDelaunayTriangulation, State.State}
use Rattle.delaunay_location.specs.{NoTriangulation, OnEdge, OnFace, OnVertex, OutsideOfConvexHull}
use Rattle.{delaunay_location.specs.PositionInTriangulation, plane_theorems.specs.AreNextOn}
use Rattle.delaunay_vertices.specs.Constraints.{IsOneIf}

-- so many pairs are in this relation: a list has each of them, once
pub record HasPairs (J : ℕ → ℕ → Type 0) (n : ℕ) : Type 0 where
  pub pairs : List (ℕ × ℕ)
  pub count : length pairs ≡ n
  pub once : EachPairOnce pairs
  pub exact : (a b : ℕ) → Joins pairs a b ↔ J a b

-- the location is on an edge that is a constraint
abbrev pub IsOnConstraint : {U : Type 0} → (List U → List ℕ) → List U
    → PositionInTriangulation → Type 0
IsOnConstraint constraints ds (OnEdge e) = Contains (constraints ds) (e / 2)
IsOnConstraint constraints ds (OnVertex v) = ⊥
IsOnConstraint constraints ds (OnFace f) = ⊥
IsOnConstraint constraints ds (OutsideOfConvexHull e) = ⊥
IsOnConstraint constraints ds NoTriangulation = ⊥

-- one where the location is on a constraint, and else none
abbrev pub IsSplitCount : {U : Type 0} → (List U → List ℕ) → List U
    → PositionInTriangulation → ℕ → Type 0
IsSplitCount constraints ds answer n = IsOneIf (IsOnConstraint constraints ds answer) n

-- a constraint joins a and b, of which one is vertex v
abbrev pub EndsAt : List (ℕ × ℕ) → ℕ → ℕ → ℕ → Type 0
EndsAt pairs v a b = Joins pairs a b × ((a ≡ v) ⊎ (b ≡ v))

-- a and b are a subconstraint of the path from i to j that is no pair of the list
abbrev pub IsMissing : List Point → List (ℕ × ℕ) → ℕ → ℕ → ℕ → ℕ → Type 0
IsMissing points pairs i j a b = AreNextOn points i j a b × ¬ Joins pairs a b

-- a triangulation with the number of its constraints
pub record IsCounted {V D U F : Type 0} (place : V → Point) (constraints : List U → List ℕ)
    (s : State V D U F) (number : ℕ) : Type 0 where
  pub legal : IsDelaunayTriangulation place constraints s
  pub counted : number ≡ length (constraints_by constraints s)
