-- Points of the program and positions that are held.
use Rattle.std.specs.Prelude.{◌≢◌, ℤ, List, map, AllPairs, Option, option_map}
use Rattle.plane.specs.{Point}
use Rattle.delaunay_core.specs.{declared.point.Point2.Point2, Place.place_of}

-- the position of a vertex that is swapped in, if one is
abbrev pub place_if : {S : Type 0} → (S → ℤ) → Option (Point2 S) → Option Point
place_if number swapped = option_map (place_of number) swapped

-- points of the program as points of the plane
abbrev pub places : {S : Type 0} → (S → ℤ) → List (Point2 S) → List Point
places number points = map (place_of number) points

-- no two of the positions are one
abbrev pub AreDistinct : List Point → Type 0
AreDistinct points = AllPairs (λ p q. p ≢ q) points
