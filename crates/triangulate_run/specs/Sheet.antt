-- The sheets: their points, and the tables of their answers.
use Rattle.std.specs.Prelude.{ℕ, zero, suc, ℤ, pos, neg_ℤ, ◌+ℤ◌, true, false, List, [], ◌∷◌, codes}
use Rattle.{plane.specs.Point, triangulate_run.specs.declared.circles.Circle.Circle}
use Rattle.triangulate_run.specs.Points.{IsListed, IsListedSite}
use Rattle.triangulate_run.specs.{declared.points.SheetPoint.SheetPoint, declared.sheet.Sheet.Sheet}
use Rattle.triangulate_run.specs.declared.sheet.Sheet.TheVariants.{B, G, L, R, X}
use Rattle.triangulate_run.specs.declared.table.TheConstants.{GRID_CIRCLES, L_CIRCLES, X_CIRCLES}

-- a point that is a site
abbrev pub site : ℤ → ℤ → SheetPoint
site x y = record { position = record { x = x; y = y }; site = true }

-- a point that is no site
abbrev pub covered : ℤ → ℤ → SheetPoint
covered x y = record { position = record { x = x; y = y }; site = false }

-- three rows of three sites, m apart
abbrev pub grid : ℤ → List SheetPoint
grid m =
    site (neg_ℤ m) (neg_ℤ m) ∷ site (pos 0) (neg_ℤ m) ∷ site m (neg_ℤ m)
    ∷ site (neg_ℤ m) (pos 0) ∷ site (pos 0) (pos 0) ∷ site m (pos 0)
    ∷ site (neg_ℤ m) m ∷ site (pos 0) m ∷ site m m ∷ []

-- n sites of the line y = 0, 1 apart, from x on
abbrev pub row : ℤ → ℕ → List SheetPoint
row x zero = []
row x (suc n) = site x (pos 0) ∷ row (x +ℤ pos 1) n

-- the points of a sheet, in the order of their indexes
unfoldable pub points_of : Sheet → List SheetPoint
points_of G = grid (pos 1)
points_of B = grid (pos 536870912)
points_of R = row (neg_ℤ (pos 50)) 100
points_of L =
    site (neg_ℤ (pos 30)) (pos 20) ∷ site (pos 0) (neg_ℤ (pos 20)) ∷ site (pos 0) (pos 20)
    ∷ site (pos 14) (pos 0) ∷ site (pos 30) (pos 0)
    ∷ covered (neg_ℤ (pos 30)) (pos 0) ∷ covered (pos 40) (pos 0) ∷ []
points_of X =
    site (neg_ℤ (pos 2)) (neg_ℤ (pos 2)) ∷ site (pos 2) (pos 2) ∷ site (pos 1) (neg_ℤ (pos 1))
    ∷ site (neg_ℤ (pos 1)) (pos 1) ∷ site (pos 1) (pos 1)
    ∷ covered (neg_ℤ (pos 1)) (neg_ℤ (pos 1)) ∷ covered (pos 0) (pos 0)
    ∷ covered (neg_ℤ (pos 3)) (pos 3) ∷ covered (pos 3) (neg_ℤ (pos 3)) ∷ []

-- the circles in the table of a sheet
unfoldable pub circles_of : Sheet → List Circle
circles_of G = GRID_CIRCLES
circles_of B = GRID_CIRCLES
circles_of R = []
circles_of L = L_CIRCLES
circles_of X = X_CIRCLES

-- the letter by which a sheet is named
abbrev pub letter_of : Sheet → List ℕ
letter_of G = codes "G"
letter_of B = codes "B"
letter_of R = codes "R"
letter_of L = codes "L"
letter_of X = codes "X"

-- what a sheet covers, and its sites
abbrev pub IsCovered : Sheet → Point → Type 0
IsCovered s p = IsListed (points_of s) p

-- the point p is a site of the sheet
abbrev pub IsSite : Sheet → Point → Type 0
IsSite s p = IsListedSite (points_of s) p
