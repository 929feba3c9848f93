-- What C is told of ways.
use Rattle.std.specs.Prelude.{◌≡◌, ◌≢◌, ◌⊎◌, [], ℕ, ℤ, List, length, map}
use Rattle.{plane.specs.Triangulation, plane.specs.whole, plane_theorems.specs.Ways.Chains.IsJoined}
use Rattle.{delaunay_core.specs.Point2, delaunay_ways.specs.Ways.IsWay}
use Rattle.c_calls.specs.{Queries.MayAskLine, Sight.is_marked}
use Rattle.c_calls.specs.{declared.raw.RawPoint.RawPoint, Written.Finding, Written.plain_point}
use Rattle.c_calls.specs.declared.statuses.TheConstants.{OUT_OF_MEMORY, TOO_LARGE, UNEQUAL_LENGTHS}

-- a point, for C
abbrev pub raw_point : Point2 ℤ → RawPoint
raw_point p = record { x = p.x; y = p.y }

-- no points, where no chain of positions, each in sight of the next, joins the two, and else a way
abbrev pub IsRawWay : Triangulation → RawPoint → RawPoint → List ℕ → List RawPoint → Type 0
IsRawWay t from to bytes points =
    ((points ≡ []) × ¬ IsJoined t (is_marked bytes) (whole (plain_point from))
    (whole (plain_point to)))
    ⊎ IsWay t (is_marked bytes) (plain_point from) (plain_point to) (map plain_point points)

-- there is a byte for each face, and the points are in range
abbrev pub MayAskWay : Triangulation → RawPoint → RawPoint → List ℕ → Type 0
MayAskWay t from to bytes = (length bytes ≡ length t.faces) × MayAskLine from to

-- a reason why no way is told
abbrev pub IsNoWay : Triangulation → RawPoint → RawPoint → List ℕ → ℕ → Type 0
IsNoWay t from to bytes status = ((status ≡ UNEQUAL_LENGTHS) × (length bytes ≢ length t.faces))
    ⊎ (((status ≡ TOO_LARGE) × ¬ MayAskLine from to) ⊎ (status ≡ OUT_OF_MEMORY))

-- a way was asked for
abbrev pub FindsWay : Triangulation → RawPoint → RawPoint → List ℕ → ℕ → ℕ → ℕ → List RawPoint
    → List RawPoint → Type 0
FindsWay t from to bytes status was told old new =
    Finding (MayAskWay t from to bytes) (IsRawWay t from to bytes) (IsNoWay t from to bytes) status
    was told old new
