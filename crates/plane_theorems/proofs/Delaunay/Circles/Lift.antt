-- The circle of three fraction points as a linear form: a vertex is inside where the form is above
-- 0. Its facts are those of homogeneous triples.
-- Notions: pointᵖ; lift, lift-turned, lift-first, lift-second, lift-third, lift-across,
-- inside_is_lift, far_if_none, on_is_lift.
use Prim.Native.Nat.{◌+◌}
use lib.IntN.{ℤ, pos, ◌+ℤ◌, ◌*ℤ◌}
use lib.Signed.{◌<ℤ◌}
use mathlib.Core.Path.{◌≡◌}
use mathlib.Core.Logic.{◌↔◌}
use mathlib.Core.List.{[], ◌∷◌}
use Rattle.plane.specs.{AreEquallyFar, Fraction, InsideCircle, OnCircle, Point, TurnsLeft, whole}
use Rattle.plane.proofs.{centre, num, vec, Vec3ᵖ as Syntax}
use Rattle.plane.proofs.Solver.{Shape, var}
use Rattle.plane_theorems.proofs.Delaunay.Points.Bracket.{bracket}
use Rattle.plane.proofs.Circles as C
pub use Rattle.plane.proofs.{heightᵖ, incircleᵖ as liftᵖ}

-- how far the plane through the lifted corners a b c is above the lifted point d, times the bracket
unfoldable pub lift : Fraction → Fraction → Fraction → Fraction → ℤ
unfolding C.incircle
lift a b c d = C.incircle (vec a) (vec b) (vec c) (vec d)

-- the lift over three corners is the same in their next rotation
pub lift-turned : (a b c d : Fraction) → lift b c a d ≡ lift a b c d
unfolding lift
lift-turned a b c d = C.incircle-turn (vec a) (vec b) (vec c) (vec d)

-- the lift of the first corner is 0
pub lift-first : (a b c : Fraction) → lift a b c a ≡ pos 0
unfolding lift
lift-first a b c = C.incircle-first (vec a) (vec b) (vec c)

-- the lift of the second corner is 0
pub lift-second : (a b c : Fraction) → lift a b c b ≡ pos 0
unfolding lift
lift-second a b c = C.incircle-second (vec a) (vec b) (vec c)

-- the lift of the third corner is 0
pub lift-third : (a b c : Fraction) → lift a b c c ≡ pos 0
unfolding lift
lift-third a b c = C.incircle-third (vec a) (vec b) (vec c)

-- the circles of two triples at the edge a b
pub lift-across : (a b c d p : Fraction)
    → bracket b a d *ℤ lift a b c p ≡ bracket a b c *ℤ lift b a d p +ℤ bracket b a p *ℤ lift a b c d
unfolding lift bracket
lift-across a b c d p = C.incircle-across (vec a) (vec b) (vec c) (vec d) (vec p)

-- ---- vertices
-- for the ring solver
abbrev pub pointᵖ : Shape
pointᵖ = record {
  Value = Point;
  Syntax = Syntax;
  width = 2;
  flat = λ a. a.x ∷ a.y ∷ [];
  fresh = λ i. record { x = var i; y = var (i + 1); w = num 1 };
}

-- a vertex is inside the circle of a left-turning triple exactly if its lift is above 0
pub inside_is_lift : (u p q r : Point) → TurnsLeft (whole u) (whole p) (whole q)
    → InsideCircle (whole u) (whole p) (whole q) (whole r)
    ↔ (pos 0 <ℤ lift (whole u) (whole p) (whole q) (whole r))
unfolding lift
inside_is_lift u p q r turns = C.inside_is_incircle u p q r turns

-- what the circle carries is as far from the centre as the first corner
pub far_if_none : (u p q r : Point) (turns : TurnsLeft (whole u) (whole p) (whole q))
    → lift (whole u) (whole p) (whole q) (whole r) ≡ pos 0
    → AreEquallyFar (centre u p q turns) (whole r) (whole u)
unfolding lift
far_if_none u p q r turns h = C.far_if_carried u p q r turns h

-- the circle of a left-turning triple carries a vertex exactly if its lift is 0
pub on_is_lift : (u p q r : Point) → TurnsLeft (whole u) (whole p) (whole q)
    → OnCircle (whole u) (whole p) (whole q) (whole r)
    ↔ (lift (whole u) (whole p) (whole q) (whole r) ≡ pos 0)
unfolding lift
on_is_lift u p q r turns = C.on_is_incircle u p q r turns
