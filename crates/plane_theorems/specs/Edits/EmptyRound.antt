-- Where a point was put into a Delaunay triangulation without constraints: which circles are empty
-- while its edges are flipped.
use Rattle.std.specs.Prelude.{◌≢◌, ℕ, ◌<◌, List, length}
use Rattle.plane.specs.{Face, InsideCircle, place, Point, TurnsLeft}
use Rattle.plane_theorems.specs.Edits.Change.{IsFaceOf}

-- no point but v is inside the circle of a face without the corner v, nor is one inside that of a
-- face at v where it lies beyond the side opposite v
pub record IsEmptyRound (points : List Point) (faces : List Face) (v : ℕ) : Type 0 where
  pub beside : (i j k n : ℕ) → IsFaceOf faces i j k → i ≢ v → j ≢ v → k ≢ v → n < length points
      → n ≢ v → ¬ InsideCircle (place points i) (place points j) (place points k) (place points n)
  pub beyond : (j k n : ℕ) → IsFaceOf faces v j k → n < length points → n ≢ v →
      TurnsLeft (place points j) (place points k) (place points n) →
      ¬ InsideCircle (place points v) (place points j) (place points k) (place points n)
