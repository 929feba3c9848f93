-- Points of the plane with rational coordinates, and segments, triangles and hulls as sets of
-- weighted means. The code has points with whole coordinates only.
-- Point: a point with two whole coordinates, as the code has it
-- Fraction: the point (x / w, y / w), where w is positive
-- whole: a point of the code as a fraction point, with w = 1
-- IsSame: two fraction points are equal, by cross products
-- IsMean: p is the weighted average of a list of points, under weights of which each is allowed
-- IsNotNegative, IsPositive: which weights are allowed for closed figures, and for their inside
-- OnSegment u v p: p is on the closed segment from u to v
-- WithinSegment u v p: p is on the segment under positive weights: at neither end if u and v differ
-- InTriangle a b c p: p is in the closed triangle
-- InsideTriangle a b c p: p is a mean of a, b and c under positive weights: strictly inside
-- InHull ps p: p is in the convex hull of the list ps
-- OnLine u v p: p is on the line through u and v
use Rattle.std.specs.Prelude.{◌≡◌, ◌⊎◌, List, [], ◌∷◌, length, ℤ, pos, ◌+ℤ◌, ◌*ℤ◌, ◌≤ℤ◌, ◌<ℤ◌, All}

-- a point of the code
pub record Point : Type 0 where
  pub x : ℤ
  pub y : ℤ

-- the point (x / w, y / w)
pub record Fraction : Type 0 where
  pub x : ℤ
  pub y : ℤ
  pub w : ℤ
  pub positive : pos 0 <ℤ w

-- a point of the code, as a fraction point
abbrev pub whole : Point → Fraction
whole p = record { x = p.x; y = p.y; w = pos 1; positive = record { lt = tt } }

-- two fraction points are one: their cross products agree
pub record IsSame (p q : Fraction) : Type 0 where
  pub x : p.x *ℤ q.w ≡ q.x *ℤ p.w
  pub y : p.y *ℤ q.w ≡ q.y *ℤ p.w

-- what a weight may be
abbrev pub IsNotNegative : ℤ → Type 0
IsNotNegative k = pos 0 ≤ℤ k

-- what a weight of a point strictly within a segment, or strictly inside a triangle, may be
abbrev pub IsPositive : ℤ → Type 0
IsPositive k = pos 0 <ℤ k

-- the sum of what f reads of each corner, times the corner's weight
abbrev pub weighted_sum : (Fraction → ℤ) → List ℤ → List Fraction → ℤ
weighted_sum f (k ∷ ks) (c ∷ cs) = k *ℤ f c +ℤ weighted_sum f ks cs
weighted_sum f (k ∷ ks) [] = pos 0
weighted_sum f [] cs = pos 0

-- p is the corners' average under some allowed weights: a positive multiple of (x, y, w) is the
-- weighted sum. The weight k of a corner (x, y, w) is k * w times the point (x / w, y / w), so the
-- weights are those of points wherever w is 1
pub record IsMean (IsAllowed : ℤ → Type 0) (corners : List Fraction) (p : Fraction) : Type 0 where
  pub weights : List ℤ
  pub one_each : length weights ≡ length corners
  pub allowed : All IsAllowed weights
  pub scale : ℤ
  pub positive : pos 0 <ℤ scale
  pub x : scale *ℤ p.x ≡ weighted_sum (λ c. c.x) weights corners
  pub y : scale *ℤ p.y ≡ weighted_sum (λ c. c.y) weights corners
  pub w : scale *ℤ p.w ≡ weighted_sum (λ c. c.w) weights corners

-- p is a point of the closed segment, of the closed triangle, of the hull of a list
abbrev pub OnSegment : Fraction → Fraction → Fraction → Type 0
OnSegment u v p = IsMean IsNotNegative (u ∷ v ∷ []) p

-- p is a point of the closed triangle: a mean of a, b and c under weights that are not negative
abbrev pub InTriangle : Fraction → Fraction → Fraction → Fraction → Type 0
InTriangle a b c p = IsMean IsNotNegative (a ∷ b ∷ c ∷ []) p

-- p is a point of the hull of a list: a mean of its points under weights that are not negative
abbrev pub InHull : List Fraction → Fraction → Type 0
InHull corners p = IsMean IsNotNegative corners p

-- p is strictly within the segment, strictly inside the triangle
abbrev pub WithinSegment : Fraction → Fraction → Fraction → Type 0
WithinSegment u v p = IsMean IsPositive (u ∷ v ∷ []) p

-- p is strictly inside the triangle: a mean of a, b and c under positive weights
abbrev pub InsideTriangle : Fraction → Fraction → Fraction → Fraction → Type 0
InsideTriangle a b c p = IsMean IsPositive (a ∷ b ∷ c ∷ []) p

-- p is on the line of two different points: one of the three is on the segment of the other two
abbrev pub OnLine : Fraction → Fraction → Fraction → Type 0
OnLine u v p = OnSegment u v p ⊎ (OnSegment v p u ⊎ OnSegment p u v)
