-- How a search along sides of free faces came to vertices, step by step.
use Rattle.std.specs.Prelude.{◌≡◌, ◌+◌, ◌<◌, ◌≤◌, ℕ, Bool, List, length, Contains}
use Rattle.std.specs.Prelude.{slice_index_or}
use Rattle.plane.specs.{IsVertex, Triangulation}
use Rattle.plane_theorems.specs.Ways.Links.{BeginsIn, IsLinked, IsPath}
use Rattle.delaunay_ways.specs.declared.reading.Step.{Step}

-- step k
abbrev pub step_at : List Step → ℕ → Step
step_at steps k = slice_index_or steps k (record { vertex = 0; before = 0 })

-- vertex v is one of the last ones, or linked with the vertex of an earlier step
pub record IsStep (t : Triangulation) (free : ℕ → Bool) (last : List ℕ) (steps : List Step)
    (v before : ℕ) : Type 0 where
  pub within : before ≤ length steps
  pub exists : IsVertex t v
  pub begins : before ≡ 0 → Contains last v
  pub follows : (k : ℕ) → before ≡ k + 1 → IsLinked t free (step_at steps k).vertex v

-- each step goes back to an earlier one
abbrev pub AreEarlier : List Step → Type 0
AreEarlier steps = (k : ℕ) → k < length steps → (step_at steps k).before ≤ k

-- each of these is a step
abbrev pub AreSteps : Triangulation → (ℕ → Bool) → List ℕ → List Step → Type 0
AreSteps t free last steps = (k : ℕ) → k < length steps
    → IsStep t free last steps (step_at steps k).vertex (step_at steps k).before

-- a path from one of the first vertices to one of the last ones, of vertices that there are
pub record LeadsOver (t : Triangulation) (free : ℕ → Bool) (first last vs : List ℕ) : Type 0 where
  pub begins : BeginsIn first vs
  pub path : IsPath t free last vs
  pub exist : (v : ℕ) → Contains vs v → IsVertex t v
