-- The tables of the sheets pass the tests.
-- Lemmas: g_sides, g_circles, b_sides, b_circles, l_sides, l_circles, x_sides, x_circles, r_level.
use Rattle.std.proofs.Common.{◌≡◌, true, refl}
use Rattle.{plane.specs.side, triangulate_run.proofs.Level.are_level}
use Rattle.triangulate_run.specs.{B_POINTS, G_POINTS, L_POINTS, R_POINTS, X_POINTS}
use Rattle.triangulate_run.specs.declared.table.TheConstants.{GRID_CIRCLES, L_CIRCLES, X_CIRCLES}
use Rattle.triangulate_run.proofs.Rule.{circle_agrees, circles_agree, side_agrees, sides_agree}

-- what the table of sheet G tells of sides passes the test
pub g_sides : sides_agree G_POINTS GRID_CIRCLES ≡ true
unfolding sides_agree side_agrees side
g_sides = refl

-- what the table of sheet G tells of circles passes the test
pub g_circles : circles_agree G_POINTS GRID_CIRCLES ≡ true
unfolding circles_agree circle_agrees
g_circles = refl

-- what the table of sheet B tells of sides passes the test
pub b_sides : sides_agree B_POINTS GRID_CIRCLES ≡ true
unfolding sides_agree side_agrees side
b_sides = refl

-- what the table of sheet B tells of circles passes the test
pub b_circles : circles_agree B_POINTS GRID_CIRCLES ≡ true
unfolding circles_agree circle_agrees
b_circles = refl

-- what the table of sheet L tells of sides passes the test
pub l_sides : sides_agree L_POINTS L_CIRCLES ≡ true
unfolding sides_agree side_agrees side
l_sides = refl

-- what the table of sheet L tells of circles passes the test
pub l_circles : circles_agree L_POINTS L_CIRCLES ≡ true
unfolding circles_agree circle_agrees
l_circles = refl

-- what the table of sheet X tells of sides passes the test
pub x_sides : sides_agree X_POINTS X_CIRCLES ≡ true
unfolding sides_agree side_agrees side
x_sides = refl

-- what the table of sheet X tells of circles passes the test
pub x_circles : circles_agree X_POINTS X_CIRCLES ≡ true
unfolding circles_agree circle_agrees
x_circles = refl

-- all points of sheet R have y = 0
pub r_level : are_level R_POINTS ≡ true
unfolding are_level
r_level = refl
