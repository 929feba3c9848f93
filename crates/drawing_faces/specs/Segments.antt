-- Which segments become constraints, one after another, and what they join.
use Rattle.std.specs.Prelude.{◌≡◌, ◌⊎◌, ◌↔◌, [], ◌∷◌, ℕ, Bool, true, false, List, map}
use Rattle.plane.specs.{AreNeighboursOn, Cross, Joins, place, Point}
use Rattle.{delaunay_legalization.specs.constraints_by, delaunay_legalization.specs.State.State}

module _ {V : Type 0} (position : V → Point) (points : List Point) where
  -- no pair of these crosses the segment between two vertices
  abbrev pub IsUncrossed : (ℕ → ℕ → Type 0) → ℕ × ℕ → Type 0
  IsUncrossed IsPair e = (a b : ℕ) → IsPair a b
      → ¬ Cross (place points e.0) (place points e.1) (place points a) (place points b)

  -- each segment in turn is added exactly if no pair crosses it of those that there are: some to
  -- begin with, and the neighbours on each segment that was added before it
  abbrev pub AreAdded : (ℕ → ℕ → Type 0) → List (ℕ × ℕ) → List Bool → Type 0
  AreAdded IsPair [] [] = Unit {0}
  AreAdded IsPair [] (t ∷ ts) = ⊥
  AreAdded IsPair (e ∷ es) [] = ⊥
  AreAdded IsPair (e ∷ es) (true ∷ ts) = IsUncrossed IsPair e
      × AreAdded (λ a b. IsPair a b ⊎ AreNeighboursOn position points e.0 e.1 a b) es ts
  AreAdded IsPair (e ∷ es) (false ∷ ts) = (¬ IsUncrossed IsPair e) × AreAdded IsPair es ts

  -- two vertices are neighbours on a segment that was added
  abbrev pub AreOnAdded : List (ℕ × ℕ) → List Bool → ℕ → ℕ → Type 0
  AreOnAdded [] ts a b = ⊥
  AreOnAdded (e ∷ es) [] a b = ⊥
  AreOnAdded (e ∷ es) (true ∷ ts) a b =
      AreNeighboursOn position points e.0 e.1 a b ⊎ AreOnAdded es ts a b
  AreOnAdded (e ∷ es) (false ∷ ts) a b = AreOnAdded es ts a b

-- segments became constraints, those that are added; the vertices stay
pub record AddsSegments {V D U F : Type 0} (position : V → Point) (constraints : List U → List ℕ)
    (segments : List (ℕ × ℕ)) (added : List Bool) (old new : State V D U F) : Type 0 where
  pub each : AreAdded position (map position old.vertices)
      (Joins (constraints_by constraints old)) segments added
  pub joined : (a b : ℕ) → Joins (constraints_by constraints new) a b
      ↔ (Joins (constraints_by constraints old) a b
      ⊎ AreOnAdded position (map position old.vertices) segments added a b)
  pub vertices : new.vertices ≡ old.vertices
