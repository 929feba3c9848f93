-- The starts of the shapes.
-- Lemmas: circle_begins, rectangle_begins.
use Rattle.std.proofs.Common.{refl}
use Rattle.std.specs.Prelude.{ℤ}
use Rattle.plane.specs.{InClosedCircle, InClosedRectangle, Point}
use Rattle.plane_theorems.specs.{circle, rectangle}
use Rattle.delaunay_shapes.specs.{HasStartAt}

-- a closed circle and a closed rectangle are regions with a start
pub circle_begins : (centre : Point) (radius_2 : ℤ)
    → HasStartAt (InClosedCircle centre radius_2) centre
circle_begins centre radius_2 =
    record { region = circle centre radius_2; same = λ q. ((λ x. x), (λ x. x)); start = refl }

-- a closed rectangle is a region that starts at its lower corner
pub rectangle_begins : (lower upper : Point) → HasStartAt (InClosedRectangle lower upper) lower
rectangle_begins lower upper =
    record { region = rectangle lower upper; same = λ q. ((λ x. x), (λ x. x)); start = refl }
