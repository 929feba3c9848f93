-- Whether a closed edge has a point of a closed circle or rectangle, told by products and sides of
-- whole points.
use Rattle.std.specs.Prelude.{◌≡◌, ◌⊎◌, ℤ, pos, ◌+ℤ◌, ◌-ℤ◌, ◌*ℤ◌, ◌<ℤ◌, ◌≤ℤ◌}
use Rattle.plane.specs.{Fraction, left, OnSegment, Point, right, Side, side, whole}

-- the squared distance of p and q
abbrev pub distance_2 : Point → Point → ℤ
distance_2 p q = (q.x -ℤ p.x) *ℤ (q.x -ℤ p.x) +ℤ (q.y -ℤ p.y) *ℤ (q.y -ℤ p.y)

-- where c falls on the line from p to q, times their squared distance
abbrev pub factor : Point → Point → Point → ℤ
factor p q c = (q.x -ℤ p.x) *ℤ (c.x -ℤ p.x) +ℤ (q.y -ℤ p.y) *ℤ (c.y -ℤ p.y)

-- an end is in the circle, or the centre falls between the ends, and its distance from the line is
-- at most the radius
abbrev pub MeetsCircle : Point → ℤ → Point → Point → Type 0
MeetsCircle centre radius_2 p q =
    (distance_2 centre p ≤ℤ radius_2) ⊎ ((distance_2 centre q ≤ℤ radius_2) ⊎
    ((pos 0 <ℤ distance_2 p q) × (pos 0 ≤ℤ factor p q centre)
    × (factor p q centre ≤ℤ distance_2 p q)
    × ((distance_2 centre p *ℤ distance_2 p q -ℤ factor p q centre *ℤ factor p q centre)
    ≤ℤ (radius_2 *ℤ distance_2 p q))))

-- one end is at least low, one at most high
abbrev pub RangeMeets : ℤ → ℤ → ℤ → ℤ → Type 0
RangeMeets low high a b = ((low ≤ℤ a) ⊎ (low ≤ℤ b)) × ((a ≤ℤ high) ⊎ (b ≤ℤ high))

-- the four corners are strictly on one side of the line from p to q
abbrev pub AreCornersOn : Side → Point → Point → Point → Point → Type 0
AreCornersOn s lower upper p q =
    let is_on = λ (x y : ℤ). side (whole p) (whole q) (whole (record { x = x; y = y })) ≡ s in
    is_on lower.x lower.y × is_on upper.x lower.y × is_on upper.x upper.y × is_on lower.x upper.y

-- the ranges meet, and the line from p to q has not all corners strictly on one side
abbrev pub MeetsRectangle : Point → Point → Point → Point → Type 0
MeetsRectangle lower upper p q =
    RangeMeets lower.x upper.x p.x q.x × RangeMeets lower.y upper.y p.y q.y
    × (¬ AreCornersOn left lower upper p q) × (¬ AreCornersOn right lower upper p q)

-- a point of the closed segment is in the shape
abbrev pub HasPointIn : (Fraction → Type 0) → Point → Point → Type 0
HasPointIn Shape p q = (r : Fraction) × OnSegment (whole p) (whole q) r × Shape r
