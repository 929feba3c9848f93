-- What a search along sides of free faces has marked, and what it may go on to.
use Rattle.std.specs.Prelude.{◌≡◌, ◌⊎◌, ◌<◌, ℕ, Bool, false, List, length, Contains}
use Rattle.std.specs.Prelude.{cond, true, slice_index_or}
use Rattle.std.specs.List.{count_by}
use Rattle.plane.specs.{IsVertex, Triangulation}
use Rattle.plane_theorems.specs.Ways.Links.{IsLinked, IsMarked}
use Rattle.delaunay_ways.specs.Steps.{AreEarlier, AreSteps, IsStep}
use Rattle.delaunay_ways.specs.{declared.leads.Lead.Lead, declared.reading.Step.Step}

-- vertex w is marked, or there is a lead to it
abbrev pub IsMet : List Bool → List Lead → ℕ → Type 0
IsMet marks leads w = IsMarked marks w ⊎ ((x : Lead) × Contains leads x × (x.vertex ≡ w))

-- how many vertices are not marked
abbrev pub count_unmarked : List Bool → ℕ
count_unmarked marks = count_by (λ b. cond b false true) marks

-- a search from the last vertices that has come to none of the first ones: what is linked with a
-- marked vertex is marked, or there is a lead to it
pub record IsSearch (t : Triangulation) (free : ℕ → Bool) (first last : List ℕ)
    (marks : List Bool) (steps : List Step) (leads : List Lead) : Type 0 where
  pub count : length marks ≡ length t.points
  pub steps_are : AreSteps t free last steps
  pub earlier : AreEarlier steps
  pub leads_are : (x : Lead) → Contains leads x → IsStep t free last steps x.vertex x.before
  pub begun : (v : ℕ) → Contains last v → IsMet marks leads v
  pub none : (v : ℕ) → Contains first v → ¬ IsMarked marks v
  pub followed : (v w : ℕ) → IsMarked marks v → IsLinked t free v w → IsMet marks leads w

-- a lead to a vertex that is not marked was taken, and some to marked vertices
pub record Takes (marks : List Bool) (leads : List Lead) (x : Lead) (leads' : List Lead) : Type 0
  where
    pub unmarked : ¬ IsMarked marks x.vertex
    pub was : Contains leads x
    pub kept : (y : Lead) → Contains leads y
        → (y ≡ x) ⊎ (IsMarked marks y.vertex ⊎ Contains leads' y)
    pub only : (y : Lead) → Contains leads' y → Contains leads y

-- leads were added to each vertex that is linked with vertex v
pub record Spreads (t : Triangulation) (free : ℕ → Bool) (v before : ℕ) (leads leads' : List Lead) :
    Type 0 where
  pub kept : (x : Lead) → Contains leads x → Contains leads' x
  pub there : (w : ℕ) → IsLinked t free v w → (x : Lead) × Contains leads' x × (x.vertex ≡ w)
  pub only : (x : Lead) → Contains leads' x → Contains leads x
      ⊎ ((x.before ≡ before) × IsVertex t x.vertex × IsLinked t free v x.vertex)

-- leads to each of the first n of these vertices, and no others
pub record Begins (last : List ℕ) (n : ℕ) (leads : List Lead) : Type 0 where
  pub there : (k : ℕ) → k < n → (x : Lead) × Contains leads x × (x.vertex ≡ slice_index_or last k 0)
  pub only : (x : Lead) → Contains leads x → (x.before ≡ 0) × Contains last x.vertex
