-- What is proved of the definitions of segment, triangle, crossing, side and circle: that they are
-- the usual ones.
-- DefinitionsAreUsual: all the laws of this file
-- turn_at q u v: twice the signed area of the triangle q u v
-- squared_vector q p: the squared distance of p and q
-- lifted_determinant u v p q: the determinant of the circle test
-- Parts s t u v: u and v are strictly on different sides of the line from s to t
-- IsAverageOf a b p: p is a weighted average of a and b, under weights not negative and not both 0
use Rattle.std.specs.Prelude.{◌≡◌, ◌⊎◌, ◌↔◌, ℤ, pos, ◌+ℤ◌, ◌-ℤ◌, ◌*ℤ◌, ◌<ℤ◌, ◌≤ℤ◌}
use Rattle.plane.specs.{Circle.InsideCircle, Circle.IsCentre, Circle.OnCircle, Fractions.whole}
use Rattle.plane.specs.Crossing.{Cross}
use Rattle.plane.specs.Fractions.{Fraction, InsideTriangle, InTriangle, IsSame, OnSegment, Point}
use Rattle.plane.specs.Sides.{IsSide, left, on, right, side, TurnsLeft}

-- p is (k a + l b) / (k + l), by cross products
pub record IsAverage (k l : ℤ) (a b p : Fraction) : Type 0 where
  pub x : p.x *ℤ ((k +ℤ l) *ℤ (a.w *ℤ b.w)) ≡ (k *ℤ (a.x *ℤ b.w) +ℤ l *ℤ (b.x *ℤ a.w)) *ℤ p.w
  pub y : p.y *ℤ ((k +ℤ l) *ℤ (a.w *ℤ b.w)) ≡ (k *ℤ (a.y *ℤ b.w) +ℤ l *ℤ (b.y *ℤ a.w)) *ℤ p.w

-- under some weights that are not negative and not both 0
pub record IsAverageOf (a b p : Fraction) : Type 0 where
  pub k : ℤ
  pub l : ℤ
  pub k_allowed : pos 0 ≤ℤ k
  pub l_allowed : pos 0 ≤ℤ l
  pub some : pos 0 <ℤ (k +ℤ l)
  pub average : IsAverage k l a b p

-- the points of a segment are the weighted averages of its ends
abbrev pub SegmentIsAverages : Type 0
SegmentIsAverages = (a b p : Fraction) → OnSegment a b p ↔ IsAverageOf a b p

-- the side function is the side of the plane
abbrev pub SideIsSide : Type 0
SideIsSide = IsSide side

-- strictly inside a left-turning triangle is left of its three sides, and in it is right of none
abbrev pub TriangleIsSides : Type 0
TriangleIsSides = (a b c p : Fraction) → TurnsLeft a b c
    → (InsideTriangle a b c p ↔ (TurnsLeft a b p × TurnsLeft b c p × TurnsLeft c a p))
    × (InTriangle a b c p
    ↔ ((¬ (side a b p ≡ right)) × (¬ (side b c p ≡ right)) × (¬ (side c a p ≡ right))))

-- the line from s to t has u and v on its two sides
abbrev pub Parts : Fraction → Fraction → Fraction → Fraction → Type 0
Parts s t u v = ((side s t u ≡ left) × (side s t v ≡ right))
    ⊎ ((side s t u ≡ right) × (side s t v ≡ left))

-- two segments, each with different ends, cross exactly if each has the other's ends on its two
-- sides
abbrev pub CrossingIsSides : Type 0
CrossingIsSides = (s t u v : Fraction) → ¬ IsSame s t → ¬ IsSame u v → Cross s t u v
    ↔ (Parts s t u v × Parts u v s t)

-- a left-turning triple of points has a centre, and no other
abbrev pub TripleHasOneCentre : Type 0
TripleHasOneCentre = (u v p : Point) → TurnsLeft (whole u) (whole v) (whole p)
    → (c : Fraction) × IsCentre (whole u) (whole v) (whole p) c
    × ((d : Fraction) → IsCentre (whole u) (whole v) (whole p) d → IsSame d c)

-- the squared length of the vector from q to p, and twice the signed area of those from q to u and
-- to v
abbrev pub squared_vector : Point → Point → ℤ
squared_vector q p = (p.x -ℤ q.x) *ℤ (p.x -ℤ q.x) +ℤ (p.y -ℤ q.y) *ℤ (p.y -ℤ q.y)

-- twice the signed area of the vectors from q to u and from q to v
abbrev pub turn_at : Point → Point → Point → ℤ
turn_at q u v = (u.x -ℤ q.x) *ℤ (v.y -ℤ q.y) -ℤ (u.y -ℤ q.y) *ℤ (v.x -ℤ q.x)

-- the third point is on the left of the line from the first to the second exactly if twice the area
-- is positive, on its right exactly if it is negative, and on the line exactly if it is 0
abbrev pub SideIsDeterminant : Type 0
SideIsDeterminant = (u v p : Point)
    → ((side (whole u) (whole v) (whole p) ≡ left) ↔ (pos 0 <ℤ turn_at u v p))
    × ((side (whole u) (whole v) (whole p) ≡ right) ↔ (turn_at u v p <ℤ pos 0))
    × ((side (whole u) (whole v) (whole p) ≡ on) ↔ (turn_at u v p ≡ pos 0))

-- the determinant of three rows: for each of u, v and p its vector from q, x and y, and that vector's
-- squared length
abbrev pub lifted_determinant : Point → Point → Point → Point → ℤ
lifted_determinant u v p q = squared_vector q u *ℤ turn_at q v p +ℤ squared_vector q v *ℤ turn_at q
    p u
    +ℤ squared_vector q p *ℤ turn_at q u v

-- a point is inside the circle exactly if the determinant is positive, and carried exactly if it is
-- 0
abbrev pub CircleIsDeterminant : Type 0
CircleIsDeterminant = (u v p q : Point) → TurnsLeft (whole u) (whole v) (whole p)
    → (InsideCircle (whole u) (whole v) (whole p) (whole q) ↔ (pos 0 <ℤ lifted_determinant u v p q))
    × (OnCircle (whole u) (whole v) (whole p) (whole q) ↔ (lifted_determinant u v p q ≡ pos 0))

-- the definitions are the usual ones
pub record DefinitionsAreUsual : Type 0 where
  -- the points of a segment are the weighted averages of its ends, also where these are
  -- fractions
  pub segment_is_averages : SegmentIsAverages
  -- the side function answers "on" exactly on the line, tells its two sides apart, stays as
  -- the points rotate, changes sides as two are exchanged, and has left where it should
  pub side_is_side : SideIsSide
  -- a point is strictly inside a left-turning triangle exactly if it is left of the three
  -- sides, and in the closed triangle exactly if it is right of none
  pub triangle_is_sides : TriangleIsSides
  -- two segments, each with different ends, cross exactly if each has the other's ends on its
  -- two sides
  pub crossing_is_sides : CrossingIsSides
  -- a left-turning triple of points has a centre, equally far from all three, and no other
  pub triple_has_one_centre : TripleHasOneCentre
  -- the side of a point is the sign of twice the signed area of the triangle that it makes
  -- with the line's two points
  pub side_is_determinant : SideIsDeterminant
  -- a point is inside the circle of a left-turning triple exactly if the lifted determinant is
  -- positive, and on it exactly if the determinant is 0
  pub circle_is_determinant : CircleIsDeterminant
