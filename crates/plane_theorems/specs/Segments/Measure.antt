-- A number that falls with each flip towards a segment: over the edges that cross it, the sum of
-- the ranks of their right ends.
use Rattle.std.specs.Prelude.{◌+◌, ◌&&◌, if◌then◌else◌}
use Rattle.std.specs.Prelude.{ℕ, zero, suc, List, length, ℤ, pos, Bool, true, false, int_lt}
use Rattle.std.specs.Prelude.{nat_abs}
use Rattle.plane.specs.{Face, Point, squared_vector, turn_at}
use Rattle.plane_theorems.specs.{Edits.Legal.point_of, Tiling.Local.around, Tiling.Local.total}

-- seen from i, u is left of the way to v, or on it and nearer
abbrev pub comes_before : Point → Point → Point → Bool
comes_before i u v = if int_lt (pos 0) (turn_at i v u) then true else
    (if int_lt (turn_at i v u) (pos 0) then false else int_lt (squared_vector i u)
    (squared_vector i v))

-- whether u is on the right of the way from i to j
abbrev pub is_right : Point → Point → Point → Bool
is_right i j u = int_lt (turn_at i j u) (pos 0)

-- a truth value as a number: 1 where it holds, 0 where it fails
abbrev pub one_if : Bool → ℕ
one_if true = 1
one_if false = 0

-- one more than the number of vertices below n that are right of the way from i to j and come
-- before v
abbrev pub rank_below : List Point → Point → Point → Point → ℕ → ℕ
rank_below points i j v zero = 1
rank_below points i j v (suc k) =
    one_if (is_right i j (point_of points k) && comes_before i (point_of points k) v)
    + rank_below points i j v k

-- whether the edge from v to y crosses the segment from i to j from right to left, by four sides
abbrev pub crosses : Point → Point → Point → Point → Bool
crosses i j v y = is_right i j v && (int_lt (pos 0) (turn_at i j y) &&
    (int_lt (pos 0) (turn_at v y i) && int_lt (turn_at v y j) (pos 0)))

-- the rank of the right end of a crossing edge, from right to left
abbrev pub crossing_rank : List Point → ℕ → ℕ → ℕ → ℕ → ℤ
crossing_rank points i j v y = if crosses (point_of points i) (point_of points j)
    (point_of points v) (point_of points y) then pos (rank_below points (point_of points i)
    (point_of points j) (point_of points v) (length points)) else pos 0

-- over the edges that cross the segment of i and j, the sum of the ranks of their right ends
abbrev pub crossing_sum : List Point → List Face → ℕ → ℕ → ℕ
crossing_sum points faces i j = nat_abs (total (around (crossing_rank points i j)) faces)
