-- A list of points, some of them sites.
use Rattle.std.specs.Prelude.{◌≡◌, ℕ, ◌<◌, pos, Bool, true, false, List, length, get_or}
use Rattle.{plane.specs.Point, triangulate_run.specs.declared.points.SheetPoint.SheetPoint}
use Rattle.delaunay_core.specs.{place_of}

-- the point of the plane that a listed point is
abbrev pub place : SheetPoint → Point
place s = place_of (λ z. z) s.position

-- past the end of a list
abbrev pub nowhere : SheetPoint
nowhere = record { position = record { x = pos 0; y = pos 0 }; site = false }

-- the point of the plane with index i in the list
abbrev pub point_in : List SheetPoint → ℕ → Point
point_in points i = place (get_or points i nowhere)

-- the point with index i in the list is a site
abbrev pub is_site_in : List SheetPoint → ℕ → Bool
is_site_in points i = (get_or points i nowhere).site

-- p has the index i in the list; and is a site there
abbrev pub HoldsAt : List SheetPoint → ℕ → Point → Type 0
HoldsAt points i p = (i < length points) × (point_in points i ≡ p)

-- the point p has index i in the list and is a site there
abbrev pub IsSiteAt : List SheetPoint → ℕ → Point → Type 0
IsSiteAt points i p = HoldsAt points i p × (is_site_in points i ≡ true)

-- p is a point, or a site, of the list
abbrev pub IsListed : List SheetPoint → Point → Type 0
IsListed points p = (i : ℕ) × HoldsAt points i p

-- the point p is a site of the list
abbrev pub IsListedSite : List SheetPoint → Point → Type 0
IsListedSite points p = (i : ℕ) × IsSiteAt points i p
