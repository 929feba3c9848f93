-- An edge crosses a segment exactly if one of its two ways does so from right to left.
-- Lemmas: one_point, one_vertex, crossing_is_either_way.
use Rattle.std.proofs.Common.{◌≡◌, ◌⊎◌, ℕ, ap, ◌∙◌, arith}
use mathlib.Core.Logic.{inl, inr}
use Rattle.std.specs.Prelude.{ℤ, pos, ◌-ℤ◌, ◌<ℤ◌}
use Rattle.std.proofs.lemmas.Int.{ints}
use Rattle.plane.specs.{IsEdge, IsSame, IsVertex, opposite, Parts, Point, TilesHull, Triangulation}
use Rattle.plane.specs.{turn_at, vertex, whole}
use Rattle.plane.proofs.{Meetings.crossing_is_sides, side_swapped, Steps.times_one, turned_join}
use Rattle.plane_theorems.specs.{IsCrossing, point_of, Segments.PathLaws.CrossingIsEitherWay}
use Rattle.plane_theorems.proofs.Delaunay.Points.Bracket.{bracket}
use Rattle.plane_theorems.proofs.{Delaunay.Tilings.Ground.tiling, Segments.Walking.Steps.edge_apart}
use Rattle.plane_theorems.proofs.Delaunay.Tilings.Where.{vertices_apart}
use Rattle.plane_theorems.proofs.Segments.Crossing.Turns.{left_turn, right_turn, turns-differ}
pub use Rattle.plane.proofs.{turned_join as edge_back}

-- two points of the code at one place are one
pub one_point : (p q : Point) → IsSame (whole p) (whole q) → p ≡ q
one_point p q e = λ i. record { x = times_one p.x q.x e.x i; y = times_one p.y q.y e.y i }

-- in a tiling of the hull, vertices in one place are one
pub one_vertex : (t : Triangulation) → TilesHull t → (i j : ℕ) → IsVertex t i → IsVertex t j
    → IsSame (vertex t i) (vertex t j) → i ≡ j
unfolding tiling
one_vertex t h i j hi hj e =
    vertices_apart (tiling t h) i j hi hj (λ s u. ap (λ (q : Point). bracket s u (whole q))
    (one_point (point_of t.points i) (point_of t.points j) e))

module _ (t : Triangulation) (i j v y : ℕ) where
  abbrev p : ℕ → Point
  p = point_of t.points

  -- equal differences have one sign: not above 0 as c - d and below 0 as a - b
  low : (a b c d : ℤ) → a -ℤ b ≡ c -ℤ d → pos 0 <ℤ c → d <ℤ pos 0 → a <ℤ pos 0 → pos 0 <ℤ b → ⊥
  low a b c d e h k l m = omega (arith, ints)

  -- nor the other way round
  high : (a b c d : ℤ) → a -ℤ b ≡ c -ℤ d → c <ℤ pos 0 → pos 0 <ℤ d → pos 0 <ℤ a → b <ℤ pos 0 → ⊥
  high a b c d e h k l m = omega (arith, ints)

  -- where each has the other's ends on its two sides, one of the edge's two ways crosses
  ways : IsEdge t v y → Parts (vertex t i) (vertex t j) (vertex t v) (vertex t y)
      → Parts (vertex t v) (vertex t y) (vertex t i) (vertex t j)
      → IsCrossing t i j v y ⊎ IsCrossing t i j y v
  ways e (inr a) (inl b) =
      inl (record { edge = e; from_right = a.0; to_left = a.1; start = b.0; end = b.1 })
  ways e (inl a) (inr b) = inr (record {
    edge = turned_join t.edges v y e;
    from_right = a.1;
    to_left = a.0;
    start = side_swapped (vertex t v) (vertex t y) (vertex t i) ∙ ap opposite b.0;
    end = side_swapped (vertex t v) (vertex t y) (vertex t j) ∙ ap opposite b.1;
  })
  ways e (inr a) (inr b) = absurd (low (turn_at (p v) (p y) (p i)) (turn_at (p v) (p y) (p j))
      (turn_at (p i) (p j) (p y)) (turn_at (p i) (p j) (p v)) (turns-differ (p i) (p j) (p v) (p y))
      (left_turn (p i) (p j) (p y) a.1) (right_turn (p i) (p j) (p v) a.0)
      (right_turn (p v) (p y) (p i) b.0) (left_turn (p v) (p y) (p j) b.1))
  ways e (inl a) (inl b) = absurd (high (turn_at (p v) (p y) (p i)) (turn_at (p v) (p y) (p j))
      (turn_at (p i) (p j) (p y)) (turn_at (p i) (p j) (p v)) (turns-differ (p i) (p j) (p v) (p y))
      (right_turn (p i) (p j) (p y) a.1) (left_turn (p i) (p j) (p v) a.0)
      (left_turn (p v) (p y) (p i) b.0) (right_turn (p v) (p y) (p j) b.1))

  -- and where one of them crosses, each has the other's ends on its two sides
  back : IsCrossing t i j v y ⊎ IsCrossing t i j y v
      → Parts (vertex t i) (vertex t j) (vertex t v) (vertex t y)
      × Parts (vertex t v) (vertex t y) (vertex t i) (vertex t j)
  back (inl c) = (inr (c.from_right, c.to_left), inl (c.start, c.end))
  back (inr c) = (
    inl (c.to_left, c.from_right),
    inr (
      side_swapped (vertex t y) (vertex t v) (vertex t i) ∙ ap opposite c.start,
      side_swapped (vertex t y) (vertex t v) (vertex t j) ∙ ap opposite c.end,
    ),
  )

-- an edge crosses a segment exactly if one of its two ways does so from right to left
pub crossing_is_either_way : CrossingIsEitherWay
crossing_is_either_way t i j v y h free e =
    let sides = crossing_is_sides (vertex t i) (vertex t j) (vertex t v) (vertex t y)
    (λ s. free.apart (one_vertex t h i j free.first free.second s)) (edge_apart t h v y e) in (
      (λ c. let both = sides.0 c in ways t i j v y e both.0 both.1),
      (λ c. sides.1 (back t i j v y c)),
    )
