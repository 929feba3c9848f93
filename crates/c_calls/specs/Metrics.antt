-- The metrics of C's shapes, and what is found by them.
use Rattle.std.specs.Prelude.{◌≡◌, ℕ, ℤ, List}
use Rattle.{delaunay_core.specs.Point2, plane.specs.Fraction}
use Rattle.c_calls.specs.Shapes.{MayAskCircle, MayAskRectangle}
use Rattle.c_calls.specs.{declared.statuses.TheConstants.OUT_OF_MEMORY, View.View, Written.Finding}
use Rattle.c_calls.specs.{declared.raw.RawPoint.RawPoint, declared.raw.RawShape.RawShape}

-- a point of C's, as the library has it
abbrev pub own_point : RawPoint → Point2 ℤ
own_point p = record { x = p.x; y = p.y }

-- a shape may be asked about, and its circle has this centre and this squared radius
pub record IsCircleOf (s : RawShape) (center : Point2 ℤ) (radius_2 : ℤ) : Type 0 where
  pub may : MayAskCircle s
  pub same_center : center ≡ own_point s.first
  pub same_radius : radius_2 ≡ s.radius_2

-- or its rectangle has these corners
pub record IsRectangleOf (s : RawShape) (lower upper : Point2 ℤ) : Type 0 where
  pub may : MayAskRectangle s
  pub same_lower : lower ≡ own_point s.first
  pub same_upper : upper ≡ own_point s.second

-- those in a shape are found, or memory was refused
abbrev pub FindsPart : (View → (Fraction → Type 0) → List ℕ → Type 0) → View → (Fraction → Type 0)
    → ℕ → ℕ → ℕ → List ℕ → List ℕ → Type 0
FindsPart AreIn v Shape status was told old new = Finding (Unit {0}) (AreIn v Shape)
    (λ reason. reason ≡ OUT_OF_MEMORY) status was told old new
