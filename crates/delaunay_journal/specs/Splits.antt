-- Segments that become constraints and split those that they cross.
use Rattle.std.specs.Prelude.{◌≡◌, ◌⊎◌, ◌++◌, [], ◌∷◌, ℕ, List, All}
use Rattle.std.specs.Prelude.{Option, None, Some}
use Rattle.plane.specs.{Joins, Plain, Point, Releases}
use Rattle.delaunay_legalization.specs.{points_and_constraints_by, State.State}
use Rattle.delaunay_edit.specs.{IsDelaunay}

-- links lead from i over these to j
abbrev pub Leads : (ℕ → ℕ → Type 0) → ℕ → List ℕ → ℕ → Type 0
Leads J i [] j = i ≡ j
Leads J i (k ∷ ks) j = J i k × Leads J k ks j

-- a path of links leads from i to j
abbrev pub AreConnected : (ℕ → ℕ → Type 0) → ℕ → ℕ → Type 0
AreConnected J i j = (ks : List ℕ) × Leads J i ks j

-- a constraint joins i and j, or a segment between them is still to become one
abbrev pub IsLink : List (ℕ × ℕ) → List (ℕ × ℕ) → ℕ → ℕ → Type 0
IsLink constraints segments i j = Joins constraints i j ⊎ Joins segments i j

-- segments became constraints, and split others: what constraints and segments connected they
-- connect still. All vertices stay, and those behind them were made so
pub record Splits {V : Type 0} (IsMade : V → Type 0) (old new : Plain V)
    (before after : List (ℕ × ℕ)) : Type 0 where
  pub made : List V
  pub vertices : new.vertices ≡ old.vertices ++ made
  pub all_made : All IsMade made
  pub connects : (i j : ℕ) → AreConnected (IsLink old.constraints before) i j
      → AreConnected (IsLink new.constraints after) i j

-- the segments that a segment s and a constraint that it crosses become when both go by vertex v. A
-- constraint that passes v already is none
abbrev pub by_vertex : ℕ → Option (ℕ × ℕ) → ℕ × ℕ → List (ℕ × ℕ)
by_vertex v None s = (v, s.1) ∷ (s.0, v) ∷ []
by_vertex v (Some c) s = (c.0, v) ∷ (v, c.1) ∷ (v, s.1) ∷ (s.0, v) ∷ []

-- these take the place of the last segment
abbrev pub LeadsBy : ℕ → Option (ℕ × ℕ) → List (ℕ × ℕ) → List (ℕ × ℕ) → Type 0
LeadsBy v crossed before after = (rest : List (ℕ × ℕ)) (s : ℕ × ℕ) → before ≡ rest ++ s ∷ []
    → after ≡ rest ++ by_vertex v crossed s

-- the pair that is told was taken out, or nothing was changed
abbrev pub Frees : {V : Type 0} → (V → Point) → Option (ℕ × ℕ) → Plain V → Plain V → Type 0
Frees at None old new = new ≡ old
Frees at (Some c) old new = Releases at old new c.0 c.1

-- so far segments became constraints and split others, and the headline holds
pub record IsSplitting {V D U F : Type 0} (place : V → Point) (constraints : List U → List ℕ)
    (IsMade : V → Type 0) (old new : State V D U F) (before after : List (ℕ × ℕ)) : Type 0 where
  pub splits : Splits IsMade (points_and_constraints_by constraints old)
      (points_and_constraints_by constraints new) before after
  pub headline : IsDelaunay place constraints new
