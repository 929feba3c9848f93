-- The answers of the sheets are true.
-- Lemmas: side_from, inside_from.
use Rattle.std.proofs.Common.{◌≡◌, ℕ, Bool, List, ap, ◌∙◌, IsTrue, ◌↔◌}
use Rattle.plane.specs.{InsideCircle, Point, Side, side, TurnsLeft, whole}
use Rattle.triangulate_run.specs.{B_POINTS, Circle, G_POINTS, HoldsAt, IsSiteAt, L_POINTS, R_POINTS}
use Rattle.triangulate_run.specs.{SheetPoint, Table.is_inside_in, Table.side_in, X_POINTS}
use Rattle.triangulate_run.specs.{declared.sheet.Sheet.Sheet, Sheet.circles_of, Sheet.points_of}
use Rattle.triangulate_run.specs.declared.sheet.Sheet.TheVariants.{B, G, L, R, X}
use Rattle.triangulate_run.specs.declared.table.TheConstants.{GRID_CIRCLES, L_CIRCLES, X_CIRCLES}
use Rattle.triangulate_run.proofs.Level.{level_circles_true, level_sides_true}
use Rattle.triangulate_run.proofs.Rule.{circles_true, CirclesAreTrue, sides_true, SidesAreTrue}
use Rattle.triangulate_run.proofs.Tables.{b_circles, b_sides, g_circles, g_sides, l_circles}
use Rattle.triangulate_run.proofs.Tables.{l_sides, r_level, x_circles, x_sides}

-- the side that the table of a sheet tells of three of its points is their side in the plane
sides_are_true : (s : Sheet) → SidesAreTrue (points_of s) (circles_of s)
unfolding points_of circles_of
sides_are_true G = sides_true G_POINTS GRID_CIRCLES g_sides
sides_are_true B = sides_true B_POINTS GRID_CIRCLES b_sides
sides_are_true R = level_sides_true R_POINTS r_level
sides_are_true L = sides_true L_POINTS L_CIRCLES l_sides
sides_are_true X = sides_true X_POINTS X_CIRCLES x_sides

-- what the table of a sheet tells of circles of its sites holds in the plane
circles_are_true : (s : Sheet) → CirclesAreTrue (points_of s) (circles_of s)
unfolding points_of circles_of
circles_are_true G =
    circles_true G_POINTS GRID_CIRCLES (sides_true G_POINTS GRID_CIRCLES g_sides) g_circles
circles_are_true B =
    circles_true B_POINTS GRID_CIRCLES (sides_true B_POINTS GRID_CIRCLES b_sides) b_circles
circles_are_true R = level_circles_true R_POINTS r_level
circles_are_true L =
    circles_true L_POINTS L_CIRCLES (sides_true L_POINTS L_CIRCLES l_sides) l_circles
circles_are_true X =
    circles_true X_POINTS X_CIRCLES (sides_true X_POINTS X_CIRCLES x_sides) x_circles

-- at points that stand in the list
pub side_from : (s : Sheet) {points : List SheetPoint} {circles : List Circle} (r : Side)
    (a b c : Point) (i j k : ℕ) → (points ≡ points_of s) × (circles ≡ circles_of s)
    → HoldsAt points i a → HoldsAt points j b → HoldsAt points k c → r ≡ side_in circles i j k
    → r ≡ side (whole a) (whole b) (whole c)
side_from s r a b c i j k (listed, table) ha hb hc e = rw (← ha.1, ← hb.1, ← hc.1, listed)
    (e ∙ ap (λ t. side_in t i j k) table
    ∙ sides_are_true s i j k (rw listed at ha.0) (rw listed at hb.0) (rw listed at hc.0))

-- the answer of the table tells whether site q is inside the circle of three sites that turn left
pub inside_from : (s : Sheet) {points : List SheetPoint} {circles : List Circle} (r : Bool)
    (a b c q : Point) (i j k l : ℕ) → (points ≡ points_of s) × (circles ≡ circles_of s)
    → IsSiteAt points i a → IsSiteAt points j b → IsSiteAt points k c → IsSiteAt points l q
    → TurnsLeft (whole a) (whole b) (whole c) → r ≡ is_inside_in circles i j k l
    → IsTrue r ↔ InsideCircle (whole a) (whole b) (whole c) (whole q)
inside_from s r a b c q i j k l (listed, table) ha hb hc hq turns e =
    let ia = rw listed at ha in
    let ib = rw listed at hb in
    let ic = rw listed at hc in
    let iq = rw listed at hq in
    rw (e, table, ← ia.0.1, ← ib.0.1, ← ic.0.1, ← iq.0.1)
    (circles_are_true s i j k l ia.0.0 ib.0.0 ic.0.0 iq.0.0 ia.1 ib.1 ic.1 iq.1
    (rw (ia.0.1, ib.0.1, ic.0.1) turns))
