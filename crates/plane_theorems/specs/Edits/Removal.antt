-- The faces round a vertex, and a mesh of all points but one.
use Rattle.std.specs.Prelude.{◌≡◌, ◌≢◌, ◌⊎◌, ◌↔◌, ◌+◌, ◌<◌, [], if◌then◌else◌}
use Rattle.std.specs.Prelude.{ℕ, suc, List, nat_eq, Contains, AllPairs}
use Rattle.plane.specs.{Face, face, IsIndex, on, place, Point, side, TurnsLeft, WithinSegment}
use Rattle.plane_theorems.specs.Edits.Change.{IsFaceOf}
use Rattle.plane_theorems.specs.Tiling.Local.{AreBalanced, IsCorner}

-- the faces at v, one after another to the left: their corners besides v are neighbour 0, 1, .. and
-- after k steps the first again
pub record IsStar (faces : List Face) (v k : ℕ) (neighbour : ℕ → ℕ) : Type 0 where
  pub around : (i : ℕ) → IsFaceOf faces v (neighbour i) (neighbour (suc i))
  pub again : (i : ℕ) → neighbour (i + k) ≡ neighbour i
  pub apart : (i j : ℕ) → i < k → j < k → neighbour i ≡ neighbour j → i ≡ j
  pub only : (a b : ℕ) → IsFaceOf faces v a b
      → (i : ℕ) × (i < k) × (neighbour i ≡ a) × (neighbour (suc i) ≡ b)

-- a vertex besides v
abbrev pub IsOther : List Point → ℕ → ℕ → Type 0
IsOther points v k = IsIndex points k × (k ≢ v)

-- a local mesh of all vertices but v, which stands in no face and no outer edge
pub record LocalMeshWithout (v : ℕ) (points : List Point) (faces : List Face)
    (outer : List (ℕ × ℕ)) : Type 0 where
  pub distinct : (i j : ℕ) → IsOther points v i → IsOther points v j → i ≢ j
      → place points i ≢ place points j
  pub some_face : faces ≢ []
  pub used : (k : ℕ) → IsOther points v k → ((f : Face) × Contains faces f × IsCorner f k)
      ⊎ ((e : ℕ × ℕ) × Contains outer e × ((k ≡ e.0) ⊎ (k ≡ e.1)))
  pub corners : (f : Face) → Contains faces f
      → IsOther points v f.a × IsOther points v f.b × IsOther points v f.c
  pub turning : (f : Face) → Contains faces f
      → TurnsLeft (place points f.a) (place points f.b) (place points f.c)
  pub ends : (e : ℕ × ℕ) → Contains outer e
      → IsOther points v e.0 × IsOther points v e.1 × (e.0 ≢ e.1)
  pub supporting : (e : ℕ × ℕ) → Contains outer e → (k : ℕ) → IsOther points v k
      → ¬ TurnsLeft (place points e.0) (place points e.1) (place points k)
  pub bare : (e : ℕ × ℕ) → Contains outer e → (k : ℕ) → IsOther points v k
      → ¬ WithinSegment (place points e.0) (place points e.1) (place points k)
  pub once : AllPairs (λ d e. d ≢ e) outer
  pub balanced : AreBalanced faces outer

-- i and j have no vertex strictly between them but perhaps v
pub record AreNeighboursBut (v : ℕ) (points : List Point) (i j : ℕ) : Type 0 where
  pub apart : i ≢ j
  pub first : IsOther points v i
  pub second : IsOther points v j
  pub none_between : (k : ℕ) → IsOther points v k
      → ¬ WithinSegment (place points i) (place points j) (place points k)

-- the same on one line
pub record LineMeshWithout (v : ℕ) (points : List Point) (outer : List (ℕ × ℕ)) : Type 0 where
  pub distinct : (i j : ℕ) → IsOther points v i → IsOther points v j → i ≢ j
      → place points i ≢ place points j
  pub straight : (i j k : ℕ) → IsOther points v i → IsOther points v j → IsOther points v k
      → side (place points i) (place points j) (place points k) ≡ on
  pub neighbours : (i j : ℕ) → Contains outer (i, j) ↔ AreNeighboursBut v points i j
  pub once : AllPairs (λ d e. d ≢ e) outer

-- where v has gone and the last vertex has taken its index: the index that k gets
abbrev pub new_index : ℕ → ℕ → ℕ → ℕ
new_index v last k = if nat_eq k last then v else k

-- a face under the indexes that its corners get
abbrev pub renumbered : ℕ → ℕ → Face → Face
renumbered v last f = face (new_index v last f.a) (new_index v last f.b) (new_index v last f.c)

-- a pair under the indexes that its two ends get
abbrev pub renumbered_pair : ℕ → ℕ → ℕ × ℕ → ℕ × ℕ
renumbered_pair v last e = (new_index v last e.0, new_index v last e.1)
