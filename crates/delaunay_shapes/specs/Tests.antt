-- What the shapes answer of an edge, as tests on whole numbers.
use Rattle.std.specs.Prelude.{◌⊎◌, [], ◌∷◌, ◌-ℤ◌, ◌*ℤ◌, ◌<ℤ◌, ◌≤ℤ◌, ◌&&◌, ◌||◌}
use Rattle.std.specs.Prelude.{List, ℤ, pos, Bool, true, false, not, int_lt, int_le}
use Rattle.plane.specs.{gap, left, on, Point, right, Side, side, whole}
use Rattle.{delaunay_core.specs.along, plane_theorems.specs.distance_2, plane_theorems.specs.factor}

-- the squared distance from the centre, less the squared radius
abbrev pub circle_distance : Point → ℤ → Point → ℤ
circle_distance c r p = gap (whole c) (whole p) -ℤ r

-- the centre falls between the ends of an edge with a length, and is near enough to its line
abbrev falls_near : Point → ℤ → Point → Point → Bool
falls_near c r p q = int_lt (pos 0) (distance_2 p q) &&
    (int_le (pos 0) (factor p q c) && (int_le (factor p q c) (distance_2 p q)
    && int_le (distance_2 c p *ℤ distance_2 p q -ℤ factor p q c *ℤ factor p q c)
    (r *ℤ distance_2 p q)))

-- the same in the numbers that the code has: where the centre falls, and how far the start is from
-- the rim
abbrev pub FallsOn : Point → ℤ → Point → Point → Type 0
FallsOn c r p q = ((pos 0 ≤ℤ along p q c) × (along p q c ≤ℤ gap (whole p) (whole q)))
    × ((circle_distance c r p *ℤ gap (whole p) (whole q)) ≤ℤ (along p q c *ℤ along p q c))

-- the edge has a length, and the centre falls on it, near enough to its line
abbrev FallsNear : Point → ℤ → Point → Point → Type 0
FallsNear c r p q = (pos 0 <ℤ gap (whole p) (whole q)) × FallsOn c r p q

-- an end is in the circle, or the centre falls near the edge, in the numbers that the code has
abbrev pub IsEdgeNear : Point → ℤ → Point → Point → Type 0
IsEdgeNear c r p q = (circle_distance c r p ≤ℤ pos 0)
    ⊎ ((circle_distance c r q ≤ℤ pos 0) ⊎ FallsNear c r p q)

-- an end is in the circle, or the centre falls near the edge
abbrev pub meets_circle : Point → ℤ → Point → Point → Bool
meets_circle c r p q =
    int_le (distance_2 c p) r || (int_le (distance_2 c q) r || falls_near c r p q)

-- the corners are reversed, in one axis or both
abbrev pub IsReversed : Point → Point → Type 0
IsReversed lower upper = (upper.x <ℤ lower.x) ⊎ (upper.y <ℤ lower.y)

-- the test whether the corners are reversed, in one axis or both
abbrev pub is_reversed : Point → Point → Bool
is_reversed lower upper = int_lt upper.x lower.x || int_lt upper.y lower.y

-- the test whether the ranges from low to high and between a and b meet, where low is at most high
abbrev pub range_meets : ℤ → ℤ → ℤ → ℤ → Bool
range_meets low high a b = (int_le low a || int_le low b) && (int_le a high || int_le b high)

-- the test whether a side is left
abbrev pub is_left : Side → Bool
is_left left = true
is_left right = false
is_left on = false

-- the test whether a side is right
abbrev pub is_right : Side → Bool
is_right left = false
is_right right = true
is_right on = false

-- the four corners are all on a side of the line from p to q that the test accepts
abbrev pub are_corners : (Side → Bool) → Point → Point → Point → Point → Bool
are_corners accepts lower upper p q =
    let is_on = λ (x y : ℤ). accepts (side (whole p) (whole q) (whole (record { x = x; y = y }))) in
    is_on lower.x lower.y &&
    (is_on upper.x lower.y && (is_on upper.x upper.y && is_on lower.x upper.y))

-- the rectangle is not reversed, the ranges meet, and the corners are not all strictly on one side
abbrev pub meets_rectangle : Point → Point → Point → Point → Bool
meets_rectangle lower upper p q = not (is_reversed lower upper) &&
    (range_meets lower.x upper.x p.x q.x && (range_meets lower.y upper.y p.y q.y &&
    (not (are_corners is_left lower upper p q) && not (are_corners is_right lower upper p q))))

-- the corners of a rectangle
abbrev pub corners : Point → Point → List Point
corners lower upper = lower ∷ (record { x = upper.x; y = lower.y }) ∷ upper
    ∷ (record { x = lower.x; y = upper.y }) ∷ []
