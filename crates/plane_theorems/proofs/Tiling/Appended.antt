-- A list of points with one more at its end.
-- Lemmas: length_appended, kept_point, last_point.
use Rattle.std.proofs.Common.{◌≡◌, ℕ, suc, ◌<◌, List, [], ◌∷◌, ◌++◌, length, sym, arith}
use Rattle.std.specs.Prelude.{pos}
use Rattle.std.proofs.lemmas.List.{length-append}
use Rattle.std.proofs.Math.ListN.{get_or-append}
use Rattle.std.proofs.Math.Seq.{get_or-append_seam}
use Rattle.{plane.specs.Point, plane_theorems.proofs.Tiling.Tiles.point_at}

-- one point at the end makes a list longer by one
pub length_appended : (points : List Point) (q : Point)
    → length (points ++ q ∷ []) ≡ suc (length points)
length_appended points q = omega (arith, length-append points (q ∷ []))

-- the points before stand where they stood
pub kept_point : (points : List Point) (q : Point) (k : ℕ) → k < length points
    → point_at points k ≡ point_at (points ++ q ∷ []) k
kept_point points q k h = sym (get_or-append points (q ∷ []) (record { x = pos 0; y = pos 0 }) k h)

-- and the new one comes last
pub last_point : (points : List Point) (q : Point) → point_at (points ++ q ∷ []) (length points) ≡ q
last_point points q = get_or-append_seam points q [] (record { x = pos 0; y = pos 0 })
