-- What becomes of the constraints where a vertex is appended.
use Rattle.std.specs.Prelude.{◌≡◌, ◌⊎◌, ◌↔◌, ℕ, List, length}
use Rattle.plane.specs.{Carries, IsHalf, Joins, Point}
use Rattle.delaunay_legalization.specs.{constraints_by, points_and_constraints_by, State.State}

-- a constraint that v is strictly within became two halves, and the others stay, as the plain state
-- says of a vertex that is appended
abbrev pub SplitsConstraints : {V D U F : Type 0} → (V → Point) → (List U → List ℕ) → State V D U F
    → State V D U F →
    V → Type 0
SplitsConstraints at constraints old new v =
    let was = points_and_constraints_by constraints old in let n = length old.vertices in
    (i j : ℕ) → Joins (constraints_by constraints new) i j ↔
    ((Joins (constraints_by constraints old) i j × ¬ Carries at was v i j) ⊎
    (IsHalf at was v n i j ⊎ IsHalf at was v n j i))

-- n is 1 where Q holds, and else 0
abbrev pub IsOneIf : Type 0 → ℕ → Type 0
IsOneIf Q n = (Q × (n ≡ 1)) ⊎ ((¬ Q) × (n ≡ 0))
