-- The ends of crossing edges in their order as seen from the start, on the right and on the left.
-- Lemmas: right-trans, left-trans, right-irrefl, left-irrefl, ends_are_ordered,
-- last_has_none_after.
use Rattle.std.proofs.Common.{◌≡◌, sym, subst₂, arith}
use mathlib.Core.Logic.{inl, inr}
use Rattle.std.specs.Prelude.{ℤ, pos, ◌<ℤ◌, neg_ℤ}
use Rattle.std.proofs.lemmas.Int.{ints}
use Rattle.plane.specs.{Point, right, side, squared_vector, turn_at, TurnsLeft, whole}
use Rattle.plane.proofs.{at_most_if_not_less, on_if_zero, opposite_of_negative}
use Rattle.plane.proofs.{opposite_of_positive, opposite_of_zero, right_if_negative}
use Rattle.plane.proofs.{zero_is_not_above}
use Rattle.plane.proofs.Signs.{not_below_itself, positive_of_opposite, zero_is_not_below}
use Rattle.plane_theorems.specs.{ComesAfterOnRight, point_of, Segments.Path.ComesAfterOnLeft}
use Rattle.plane_theorems.specs.Segments.PathLaws.{EndsAreOrdered, LastHasNoneAfter}
use Rattle.plane_theorems.proofs.Segments.Crossing.Falling.{IsBefore-trans, Precedes}
use Rattle.plane_theorems.proofs.Segments.Crossing.Turns.{left_turn, mirrored, no_turn, right_turn}
use Rattle.plane_theorems.proofs.Segments.Crossing.Turns.{turn-mirrored, turn-same, turn-swapped}
use Rattle.plane_theorems.proofs.Segments.Crossing.Turns.{turn_left, way-mirrored}

-- ---- by turns
below_back : (a b : ℤ) → a ≡ neg_ℤ b → pos 0 <ℤ a → b <ℤ pos 0
below_back a b e h = omega (arith, ints)

level_back : (a b : ℤ) → a ≡ neg_ℤ b → a ≡ pos 0 → b ≡ pos 0
level_back a b e h = omega (arith, ints)

right_of : (i v u : Point) → Precedes i v u → ComesAfterOnRight i v u
right_of i v u (inl h) =
    inl (right_if_negative i v u
    (below_back (turn_at i u v) (turn_at i v u) (turn-swapped i v u) h))
right_of i v u (inr h) =
    inr (
      on_if_zero i v u (level_back (turn_at i u v) (turn_at i v u) (turn-swapped i v u) h.0),
      h.1,
    )

of_right : (i v u : Point) → ComesAfterOnRight i v u → Precedes i v u
of_right i v u (inl h) =
    inl (opposite_of_negative (turn_at i u v) (turn_at i v u) (turn-swapped i v u)
    (right_turn i v u h))
of_right i v u (inr h) =
    inr (
      opposite_of_zero (turn_at i u v) (turn_at i v u) (turn-swapped i v u) (no_turn i v u h.0),
      h.1,
    )

-- what is left is right in the plane turned over
over : (i y w : Point) → ComesAfterOnLeft i y w
    → ComesAfterOnRight (mirrored i) (mirrored y) (mirrored w)
over i y w (inl h) = inl (right_if_negative (mirrored i) (mirrored y) (mirrored w)
    (opposite_of_positive (turn_at (mirrored i) (mirrored y) (mirrored w)) (turn_at i y w)
    (turn-mirrored i y w)
    (left_turn i y w h)))
over i y w (inr h) = inr (
  on_if_zero (mirrored i) (mirrored y) (mirrored w)
      (opposite_of_zero (turn_at (mirrored i) (mirrored y) (mirrored w)) (turn_at i y w)
      (turn-mirrored i y w)
      (no_turn i y w h.0)),
  subst₂ (λ a b. a <ℤ b) (sym (way-mirrored i y)) (sym (way-mirrored i w)) h.1,
)

over_back : (i y w : Point) → ComesAfterOnRight (mirrored i) (mirrored y) (mirrored w)
    → ComesAfterOnLeft i y w
over_back i y w (inl h) = inl (turn_left i y w
    (positive_of_opposite (turn_at (mirrored i) (mirrored y) (mirrored w)) (turn_at i y w)
    (turn-mirrored i y w)
    (right_turn (mirrored i) (mirrored y) (mirrored w) h)))
over_back i y w (inr h) = inr (
  on_if_zero i y w (level_back (turn_at (mirrored i) (mirrored y) (mirrored w)) (turn_at i y w)
      (turn-mirrored i y w)
      (no_turn (mirrored i) (mirrored y) (mirrored w) h.0)),
  subst₂ (λ a b. a <ℤ b) (way-mirrored i y) (way-mirrored i w) h.1,
)

-- ---- the order
-- the order of vertices on the right passes on
pub right-trans : (i j u v w : Point) → side (whole i) (whole j) (whole u) ≡ right
    → side (whole i) (whole j) (whole v) ≡ right → side (whole i) (whole j) (whole w) ≡ right
    → ComesAfterOnRight i u v → ComesAfterOnRight i v w → ComesAfterOnRight i u w
right-trans i j u v w hu hv hw a b = right_of i u w
    (IsBefore-trans i j u v w (right_turn i j u hu) (right_turn i j v hv) (right_turn i j w hw)
    (of_right i u v a)
    (of_right i v w b))

-- seen from i, the order of the points on the left goes through
pub left-trans : (i j u v w : Point) → TurnsLeft (whole i) (whole j) (whole u)
    → TurnsLeft (whole i) (whole j) (whole v) → TurnsLeft (whole i) (whole j) (whole w)
    → ComesAfterOnLeft i u v → ComesAfterOnLeft i v w → ComesAfterOnLeft i u w
left-trans i j u v w hu hv hw a b = over_back i u w
    (right-trans (mirrored i) (mirrored j) (mirrored u) (mirrored v) (mirrored w)
    (turned u hu) (turned v hv)
    (turned w hw) (over i u v a) (over i v w b))
  where
    turned : (z : Point) → TurnsLeft (whole i) (whole j) (whole z) →
        side (whole (mirrored i)) (whole (mirrored j)) (whole (mirrored z)) ≡ right
    turned z h = right_if_negative (mirrored i) (mirrored j) (mirrored z)
        (opposite_of_positive (turn_at (mirrored i) (mirrored j) (mirrored z)) (turn_at i j z)
        (turn-mirrored i j z)
        (left_turn i j z h))

-- seen from i, no point comes after itself on the right
pub right-irrefl : (i u : Point) → ¬ ComesAfterOnRight i u u
right-irrefl i u (inl h) = zero_is_not_below (turn_at i u u) (turn-same i u) (right_turn i u u h)
right-irrefl i u (inr h) = not_below_itself (squared_vector i u) h.1

-- seen from i, no point comes after itself on the left
pub left-irrefl : (i u : Point) → ¬ ComesAfterOnLeft i u u
left-irrefl i u (inl h) = zero_is_not_above (turn_at i u u) (turn-same i u) (left_turn i u u h)
left-irrefl i u (inr h) = not_below_itself (squared_vector i u) h.1

-- seen from i, the orders on the right and on the left go through, and no point comes after itself
pub ends_are_ordered : EndsAreOrdered
ends_are_ordered i j u v w =
    (right-trans i j u v w, left-trans i j u v w, right-irrefl i u, left-irrefl i u)

-- ---- the last

-- an end of a crossing edge that none comes after is a last one
pub last_has_none_after : LastHasNoneAfter
last_has_none_after t i j v y = (
  (λ n. record {
    around = λ u w c h. n u w c (inl h);
    nearer =
        λ u w c e. at_most_if_not_less (squared_vector (point_of t.points i) (point_of t.points v))
        (squared_vector (point_of t.points i) (point_of t.points u)) (λ h. n u w c (inr (e, h)));
  }),
  (λ n. record {
    around = λ w c h. n w c (inl h);
    nearer = λ w c e. at_most_if_not_less (squared_vector (point_of t.points i)
        (point_of t.points y))
        (squared_vector (point_of t.points i) (point_of t.points w)) (λ h. n w c (inr (e, h)));
  }),
)
