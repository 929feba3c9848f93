-- Points of the plane as homogeneous triples, and the bracket of three: their determinant. Over ℤ,
-- and in the syntax of the ring solver.
-- Vec3: (x, y, w), the point (x / w, y / w) where w is positive
-- lift, vec: a point of the code as a triple; a fraction point as a triple
-- bracket a b c: the determinant: positive where the three turn left, 0 on a line
-- Vec3ᵖ, Pointᵖ, bracketᵖ, liftᵖ: the same over polynomials
-- vec3, points: the shapes of triples and of points of the code, for `ring_over`
use Prim.Native.Nat.{◌+◌}
use lib.IntN.{ℤ, pos, ◌+ℤ◌, ◌-ℤ◌, ◌*ℤ◌}
use mathlib.Core.List.{[], ◌∷◌}
use Rattle.plane.specs.{Fraction, Point}
use Rattle.plane.proofs.Solver.{◌⊕◌, ◌⊖◌, ◌⊗◌, num, Poly, Shape, var}

-- (x, y, w): the point (x / w, y / w) where w is positive
pub record Vec3 : Type 0 where
  pub x : ℤ
  pub y : ℤ
  pub w : ℤ

-- a point of the code
abbrev pub lift : Point → Vec3
lift p = record { x = p.x; y = p.y; w = pos 1 }

-- a fraction point
abbrev pub vec : Fraction → Vec3
vec p = record { x = p.x; y = p.y; w = p.w }

-- above 0 where the three turn left; twice their signed area, times the weights. It opens for
-- identities, and stays shut elsewhere
unfoldable pub bracket : Vec3 → Vec3 → Vec3 → ℤ
bracket a b c = a.x *ℤ (b.y *ℤ c.w -ℤ b.w *ℤ c.y) -ℤ a.y *ℤ (b.x *ℤ c.w -ℤ b.w *ℤ c.x) +ℤ a.w
    *ℤ (b.x *ℤ c.y -ℤ b.y *ℤ c.x)

-- ---- the same in the solver's syntax
-- three polynomials, one for each coordinate
pub record Vec3ᵖ : Type 0 where
  pub x : Poly
  pub y : Poly
  pub w : Poly

-- the bracket
abbrev pub bracketᵖ : Vec3ᵖ → Vec3ᵖ → Vec3ᵖ → Poly
bracketᵖ a b c =
    a.x ⊗ (b.y ⊗ c.w ⊖ b.w ⊗ c.y) ⊖ a.y ⊗ (b.x ⊗ c.w ⊖ b.w ⊗ c.x) ⊕ a.w ⊗ (b.x ⊗ c.y ⊖ b.y ⊗ c.x)

-- identities over triples: ring_over vec3 ks ps f g tt
abbrev pub vec3 : Shape
vec3 = record {
  Value = Vec3;
  Syntax = Vec3ᵖ;
  width = 3;
  flat = λ a. a.x ∷ a.y ∷ a.w ∷ [];
  fresh = λ i. record { x = var i; y = var (i + 1); w = var (i + 2) };
}

-- and over points of the code
pub record Pointᵖ : Type 0 where
  pub x : Poly
  pub y : Poly

-- identities over points of the code: ring_over points ks ps f g tt
abbrev pub points : Shape
points = record {
  Value = Point;
  Syntax = Pointᵖ;
  width = 2;
  flat = λ a. a.x ∷ a.y ∷ [];
  fresh = λ i. record { x = var i; y = var (i + 1) };
}

-- a point of the code
abbrev pub liftᵖ : Pointᵖ → Vec3ᵖ
liftᵖ p = record { x = p.x; y = p.y; w = num 1 }
