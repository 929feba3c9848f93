-- What an edit does to faces and outer edges, as lists of indexes.
-- IsFaceOf faces i j k: i j k is one of the faces, in any rotation
-- FacesChange old new gone made: the faces afterwards are the former ones without those gone, and
--   those made, up to rotation
-- OuterChange old new gone made: the same of outer edges, each listed once afterwards
-- IsTurnFree f: f gives a face the same number in each rotation
use Rattle.std.specs.Prelude.{◌≡◌, ◌≢◌, ◌⊎◌, ℕ, List, ℤ, ◌+ℤ◌, Contains, AllPairs}
use Rattle.{plane.specs.Face, plane.specs.face, plane_theorems.specs.Tiling.Local.total}

-- i j k is one of the faces, in this rotation or another
abbrev pub IsFaceOf : List Face → ℕ → ℕ → ℕ → Type 0
IsFaceOf faces i j k = Contains faces (face i j k)
    ⊎ (Contains faces (face j k i) ⊎ Contains faces (face k i j))

-- f reads a face alike from each of its corners
abbrev pub IsTurnFree : (Face → ℤ) → Type 0
IsTurnFree f = (i j k : ℕ) → f (face i j k) ≡ f (face j k i)

-- the faces afterwards are the former ones, without those that are gone, and those that were made,
-- each up to rotation
pub record FacesChange (old new gone made : List Face) : Type 0 where
  pub totals : (f : Face → ℤ) → IsTurnFree f
      → total f new +ℤ total f gone ≡ total f old +ℤ total f made
  pub come : (i j k : ℕ) → IsFaceOf made i j k → IsFaceOf new i j k

-- the outer edges afterwards are the former ones, without those that are gone, and those that were
-- made
pub record OuterChange (old new gone made : List (ℕ × ℕ)) : Type 0 where
  pub kept : (i j : ℕ) → Contains old (i, j) → ¬ Contains gone (i, j) → Contains new (i, j)
  pub come : (i j : ℕ) → Contains made (i, j) → Contains new (i, j)
  pub only : (i j : ℕ) → Contains new (i, j)
      → (Contains old (i, j) × ¬ Contains gone (i, j)) ⊎ Contains made (i, j)
  pub once : AllPairs (λ d e. d ≢ e) new
