-- Ways through free faces: positions, each in sight of the next, of which none can be left out.
use Rattle.std.specs.Prelude.{◌≡◌, ◌+◌, ◌-◌, ◌<◌, ℕ, Bool, List, length, pos, slice_index_or}
use Rattle.std.specs.Prelude.{map, All}
use Rattle.plane.specs.{Fraction, IsVertex, place, Point, Triangulation, vertex, whole}
use Rattle.plane_theorems.specs.{IsInFree, IsInSight, Ways.Chains.IsChain, Ways.Chains.IsJoined}
use Rattle.plane_theorems.specs.Ways.Links.{AreSharedCorners}

-- the point of an index (at an index past the end, (0, 0))
abbrev pub point_at : List Point → ℕ → Point
point_at points i = slice_index_or points i (record { x = pos 0; y = pos 0 })

-- each of these points is in sight of the next, and none of the one after that
pub record IsTaut (t : Triangulation) (free : ℕ → Bool) (points : List Point) : Type 0 where
  pub legs : (k : ℕ) → k + 1 < length points → IsInSight t free (place points k)
      (place points (k + 1))
  pub taut : (k : ℕ) → k + 2 < length points → ¬ IsInSight t free (place points k)
      (place points (k + 2))

-- a taut way from p over vertices to q
pub record IsWay (t : Triangulation) (free : ℕ → Bool) (p q : Point) (points : List Point) : Type 0
  where
    pub several : 1 < length points
    pub starts : point_at points 0 ≡ p
    pub ends : point_at points (length points - 1) ≡ q
    pub inner : (k : ℕ) → 0 < k → k + 1 < length points
        → (v : ℕ) × IsVertex t v × (point_at points k ≡ point_at t.points v)
    pub taut : IsTaut t free points
    pub joined : IsJoined t free (whole p) (whole q)

-- a chain over vertices that there are
pub record IsPathBetween (t : Triangulation) (free : ℕ → Bool) (p q : Fraction) (vs : List ℕ) :
    Type 0 where
  pub chain : IsChain t free p (map (vertex t) vs) q
  pub exist : All (IsVertex t) vs

-- vertices that there are, each a corner of each closed face that has p
pub record IsSurrounded (t : Triangulation) (p : Fraction) (vs : List ℕ) : Type 0 where
  pub some : 0 < length vs
  pub corners : AreSharedCorners t p vs
  pub exist : All (IsVertex t) vs

-- no closed face has p
abbrev pub IsInNone : Triangulation → Fraction → Type 0
IsInNone t p = (free : ℕ → Bool) → ¬ IsInFree t free p
