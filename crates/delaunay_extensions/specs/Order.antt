-- The vertices of a list in the order of their insertion.
use Rattle.std.specs.Prelude.{◌≡◌, ◌<◌, ◌≤◌, ℕ, List, length, map, All, AllPairs, Contains}
use Rattle.std.specs.Prelude.{Some, slice_get, take}
use Rattle.plane.specs.{InRange, Point}
use Rattle.delaunay_extensions.specs.declared.order.Keyed.{Keyed}

-- these are the places of a list of so many, each of them once
pub record IsOrder (count : ℕ) (order : List ℕ) : Type 0 where
  pub below : All (λ i. i < count) order
  pub all : (i : ℕ) → i < count → Contains order i
  pub once : length order ≡ count

-- an entry's place and vertex
abbrev pub entry_of : {V : Type 0} → Keyed V → ℕ × V
entry_of p = (p.place, p.vertex)

module _ {V : Type 0} (place : V → Point) where
  -- these are the vertices of a list, each with its place there, in some order; but those at one
  -- position come by rising place
  pub record IsListed (vertices : List V) (order : List (ℕ × V)) : Type 0 where
    pub places : IsOrder (length vertices) (map (λ e. e.0) order)
    pub there : All (λ e. slice_get vertices e.0 ≡ Some e.1) order
    pub rise : AllPairs (λ e f. place e.1 ≡ place f.1 → e.0 ≤ f.0) order

  -- the first of a list that is out of range
  pub record IsFirstOutside (vertices : List V) (i : ℕ) : Type 0 where
    pub vertex : V
    pub there : slice_get vertices i ≡ Some vertex
    pub outside : ¬ InRange (place vertex)
    pub first : All (λ v. InRange (place v)) (take i vertices)
