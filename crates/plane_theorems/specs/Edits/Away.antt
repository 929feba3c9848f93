-- Pairs of vertices that have been flipped away: each stands above what a face carries, and so is
-- no edge again.
use Rattle.std.specs.Prelude.{◌≡◌, ◌≢◌, ◌<◌, ◌+ℤ◌, ◌*ℤ◌, ◌≤ℤ◌, ◌<ℤ◌}
use Rattle.std.specs.Prelude.{ℕ, List, length, ℤ, pos, Contains, AllPairs}
use Rattle.{plane.specs.Face, plane.specs.Point, plane_theorems.specs.Edits.Change.IsFaceOf}
use Rattle.plane_theorems.specs.Edits.Legal.{point_of, squared_length}

-- the mean of u and v under the weights k and l is that of the corners of a face under the weights
-- r, s and t, whose squared lengths are less
pub record IsAway (points : List Point) (faces : List Face) (u v : ℕ) : Type 0 where
  pub k : ℤ
  pub l : ℤ
  pub k_positive : pos 0 <ℤ k
  pub l_positive : pos 0 <ℤ l
  pub a : ℕ
  pub b : ℕ
  pub c : ℕ
  pub here : IsFaceOf faces a b c
  pub r : ℤ
  pub s : ℤ
  pub t : ℤ
  pub r_allowed : pos 0 ≤ℤ r
  pub s_allowed : pos 0 ≤ℤ s
  pub t_allowed : pos 0 ≤ℤ t
  pub x : k *ℤ (point_of points u).x +ℤ l *ℤ (point_of points v).x
      ≡ r *ℤ (point_of points a).x +ℤ s *ℤ (point_of points b).x +ℤ t *ℤ (point_of points c).x
  pub y : k *ℤ (point_of points u).y +ℤ l *ℤ (point_of points v).y
      ≡ r *ℤ (point_of points a).y +ℤ s *ℤ (point_of points b).y +ℤ t *ℤ (point_of points c).y
  pub w : k +ℤ l ≡ r +ℤ s +ℤ t
  pub lower : (r *ℤ squared_length (point_of points a) +ℤ s *ℤ squared_length (point_of points b)
      +ℤ t *ℤ squared_length (point_of points c))
      <ℤ (k *ℤ squared_length (point_of points u) +ℤ l *ℤ squared_length (point_of points v))

-- the pairs that one legalising has flipped away so far, each once, the lesser index first
pub record AreAway (points : List Point) (faces : List Face) (away : List (ℕ × ℕ)) : Type 0 where
  pub ordered : (i j : ℕ) → Contains away (i, j) → (i < j) × (j < length points)
  pub above : (i j : ℕ) → Contains away (i, j) → IsAway points faces i j
  pub once : AllPairs (λ d e. d ≢ e) away
