-- A turn of a crossing edge lowers the sum of the ranks of right ends where the edge that is made
-- does not cross, or has a right end that comes before; and the chosen one is turned so.
-- Notions: ComesSooner; turn_lowers, last_x_sooner, last_z_sooner, chosen_flip_lowers.
use Rattle.std.proofs.Common.{◌≡◌, ℕ, ◌<◌, List, [], ◌∷◌, length, sym, ap, ◌∙◌, subst}
use mathlib.Core.Logic.{inl, inr}
use Rattle.std.specs.Prelude.{ℤ, pos, ◌+ℤ◌, ◌≤ℤ◌, ◌<ℤ◌, true, ◌&&◌, int_lt}
use Rattle.plane.specs.{Face, face, IsFace, Point, squared_vector, TilesHull, Triangulation}
use Rattle.plane.specs.{turn_at, whole}
use Rattle.plane.proofs.{both_signs, bracket-affine, bracket-outer, left_not_zero, less_by_test}
use Rattle.plane.proofs.{lift, lower_magnitude, on_if, right_not_zero, sum_of_three_not_negative}
use Rattle.plane.proofs.{test_true, turned_face, zero_or_left}
use Rattle.plane_theorems.specs.{around, crossing_sum, FacesChange, IsCrossing, IsFreeOfVertices}
use Rattle.plane_theorems.specs.{IsLastLeft, IsLastRight, point_of, total}
use Rattle.plane_theorems.specs.Segments.Measure.{crosses, crossing_rank, is_right, rank_below}
use Rattle.plane_theorems.specs.Segments.PathLaws.{ChosenFlipLowers}
use Rattle.plane_theorems.proofs.{Delaunay.Points.Bracket.bracket, Delaunay.Tilings.Ground.tiling}
use Rattle.plane_theorems.proofs.Delaunay.Segments.Joining.{Before, by_left, by_right, Crosses}
use Rattle.plane_theorems.proofs.{Delaunay.Segments.Joining.from_start, Tiling.Totals.total_nonneg}
use Rattle.plane_theorems.proofs.Edits.LocalMesh.Exchange.{around_turn_free}
use Rattle.plane_theorems.proofs.Segments.Crossing.Falling.{and_first, and_second, and_true}
use Rattle.plane_theorems.proofs.Segments.Crossing.Falling.{Precedes, rank_falls, rank_positive}
use Rattle.plane_theorems.proofs.Segments.Crossing.Falling.{ranked, ranked_nonneg, ranked_two}
use Rattle.plane_theorems.proofs.Segments.Crossing.Falling.{strictly_nearer, sum_falls}
use Rattle.plane_theorems.proofs.Segments.Crossing.Turns.{left_turn, right_turn}
use Rattle.plane_theorems.proofs.Delaunay.Segments.FlipExists as F
use Rattle.plane_theorems.proofs.Segments.Crossing.Paths as P

turn_of : (a b c : Point) → bracket (whole a) (whole b) (whole c) ≡ turn_at a b c
unfolding bracket
turn_of a b c = bracket-affine a b c

-- ---- a turn
module _ (t : Triangulation) (i j v x y z : ℕ) (h : TilesHull t) (c : IsCrossing t i j v y)
    (f : IsFace t v x y) (g : IsFace t v y z) where
  abbrev p : ℕ → Point
  p = point_of t.points

  -- where the edge from a to b crosses, a comes before v
  abbrev pub ComesSooner : ℕ → ℕ → Type 0
  ComesSooner a b = turn_at (p i) (p j) (p a) <ℤ pos 0 → pos 0 <ℤ turn_at (p i) (p j) (p b)
      → Precedes (p i) (p a) (p v)

  v_right : turn_at (p i) (p j) (p v) <ℤ pos 0
  v_right = right_turn (p i) (p j) (p v) c.from_right

  -- ---- the sum falls
  module _ (new : List Face) (x_sooner : ComesSooner x z) (z_sooner : ComesSooner z x) (change :
      FacesChange t.faces new (face v x y ∷ face v y z ∷ []) (face v x z ∷ face x y z ∷ [])) where
    abbrev w : ℕ → ℕ → ℤ
    w = crossing_rank t.points i j

    abbrev rank : ℕ → ℕ
    rank k = rank_below t.points (point_of t.points i) (point_of t.points j) (point_of t.points k)
        (length t.points)

    w_nonneg : (a b : ℕ) → pos 0 ≤ℤ w a b
    w_nonneg a b = ranked_nonneg (crosses (p i) (p j) (p a) (p b)) (rank a)

    around_nonneg : (faces : List Face) → pos 0 ≤ℤ total (around (crossing_rank t.points i j)) faces
    around_nonneg faces = total_nonneg (around (crossing_rank t.points i j)) faces
        (λ g _. sum_of_three_not_negative (w g.a g.b) (w g.b g.c) (w g.c g.a) (w_nonneg g.a g.b)
        (w_nonneg g.b g.c) (w_nonneg g.c g.a))

    own : w v y ≡ pos (rank v)
    own = ap (λ b. ranked b (rank v))
        (and_true (is_right (p i) (p j) (p v)) (int_lt (pos 0) (turn_at (p i) (p j) (p y)) &&
        (int_lt (pos 0) (turn_at (p v) (p y) (p i)) && int_lt (turn_at (p v) (p y) (p j)) (pos 0)))
        (test_true (turn_at (p i) (p j) (p v)) (pos 0) v_right)
        (and_true (int_lt (pos 0) (turn_at (p i) (p j) (p y)))
        (int_lt (pos 0) (turn_at (p v) (p y) (p i)) && int_lt (turn_at (p v) (p y) (p j)) (pos 0))
        (test_true (pos 0) (turn_at (p i) (p j) (p y)) (left_turn (p i) (p j) (p y) c.to_left))
        (and_true (int_lt (pos 0) (turn_at (p v) (p y) (p i)))
        (int_lt (turn_at (p v) (p y) (p j)) (pos 0))
        (test_true (pos 0) (turn_at (p v) (p y) (p i)) (left_turn (p v) (p y) (p i) c.start))
        (test_true (turn_at (p v) (p y) (p j)) (pos 0) (right_turn (p v) (p y) (p j) c.end)))))

    new_less : (w x z +ℤ w z x) <ℤ pos (rank v)
    new_less = ranked_two (crosses (p i) (p j) (p x) (p z)) (crosses (p i) (p j) (p z) (p x))
        (rank x) (rank z) (rank v) (rank_positive t.points (p i) (p j) (p v) (length t.points))
        (λ e. rank_falls t.points (p i) (p j) (p v) x (h.corners v x y f).1 (right_of x z e)
        v_right (x_sooner (right_of x z e) (left_of x z e)))
        (λ e. rank_falls t.points (p i) (p j) (p v) z (h.corners v y z g).2 (right_of z x e)
        v_right (z_sooner (right_of z x e) (left_of z x e)))
        (λ e d. both_signs (left_of x z e) (right_of z x d))
      where
        right_of : (a b : ℕ) → crosses (p i) (p j) (p a) (p b) ≡ true
            → turn_at (p i) (p j) (p a) <ℤ pos 0
        right_of a b e = less_by_test (turn_at (p i) (p j) (p a)) (pos 0) (and_first
            (is_right (p i) (p j) (p a)) (int_lt (pos 0) (turn_at (p i) (p j) (p b)) && (int_lt
            (pos 0) (turn_at (p a) (p b) (p i)) && int_lt (turn_at (p a) (p b) (p j)) (pos 0))) e)

        left_of : (a b : ℕ) → crosses (p i) (p j) (p a) (p b) ≡ true
            → pos 0 <ℤ turn_at (p i) (p j) (p b)
        left_of a b e = less_by_test (pos 0) (turn_at (p i) (p j) (p b))
            (and_first (int_lt (pos 0) (turn_at (p i) (p j) (p b)))
            (int_lt (pos 0) (turn_at (p a) (p b) (p i)) && int_lt (turn_at (p a) (p b) (p j))
            (pos 0))
            (and_second (is_right (p i) (p j) (p a))
            (int_lt (pos 0) (turn_at (p i) (p j) (p b)) && (int_lt (pos 0)
            (turn_at (p a) (p b) (p i)) && int_lt (turn_at (p a) (p b) (p j)) (pos 0))) e))

    -- where the edge that is made crosses with a right end that comes before, the sum falls
    pub turn_lowers : crossing_sum t.points new i j < crossing_sum t.points t.faces i j
    turn_lowers = lower_magnitude (total (around (crossing_rank t.points i j)) new)
        (total (around (crossing_rank t.points i j)) t.faces) (around_nonneg new)
        (sum_falls (total (around (crossing_rank t.points i j)) new)
        (total (around (crossing_rank t.points i j)) t.faces) (w v x) (w x y) (w y v) (w v y)
        (w y z) (w z v) (w x z) (w z x) (pos (rank v))
        (change.totals (around (crossing_rank t.points i j))
        (around_turn_free (crossing_rank t.points i j))) (w_nonneg y v) own new_less)

  -- ---- the last one
  module _ (free : IsFreeOfVertices t i j) (last_v : IsLastRight t i j v)
      (last_y : IsLastLeft t i j v y) where
    across : Crosses (tiling t h) i j (P.at_first t h i j free) (P.at_second t h i j free)
        (P.clear t h i j free) v y
    across = P.crosses t h i j free v y c

    x_around : pos 0 <ℤ turn_at (p i) (p v) (p x)
    unfolding tiling
    x_around = subst (λ s. pos 0 <ℤ s) (turn_of (p i) (p v) (p x))
        (F.x_around_v (tiling t h) i j (P.at_first t h i j free) (P.at_second t h i j free)
        (P.clear t h i j free) v x y z across (turned_face t x y v (turned_face t v x y f)) g
        (P.last_right t h i j free v last_v) (P.last_left t h i j free v y last_y))

    not_same : ¬ (p z ≡ p v)
    not_same e = left_not_zero (left_turn (p v) (p y) (p z) (h.turning v y z g))
        (ap (λ q. turn_at (p v) (p y) q) e ∙ sym (bracket-affine (p v) (p y) (p v))
        ∙ bracket-outer (lift (p v)) (lift (p y)))

    z_around : pos 0 ≤ℤ turn_at (p i) (p v) (p z)
    unfolding tiling
    z_around = subst (λ s. pos 0 ≤ℤ s) (turn_of (p i) (p v) (p z))
        (F.z_around_v (tiling t h) i j (P.at_first t h i j free) (P.at_second t h i j free)
        (P.clear t h i j free) v x y z across (turned_face t x y v (turned_face t v x y f)) g
        (P.last_right t h i j free v last_v) (P.last_left t h i j free v y last_y))

    -- where z is on the way to v, it is nearer
    z_near : turn_at (p i) (p j) (p z) <ℤ pos 0 → turn_at (p i) (p v) (p z) ≡ pos 0
        → squared_vector (p i) (p z) ≤ℤ squared_vector (p i) (p v)
    unfolding tiling
    z_near z_right tie =
        go (F.front (tiling t h) i j (P.at_first t h i j free) (P.at_second t h i j free)
        (P.clear t h i j free) v x y z across (turned_face t x y v (turned_face t v x y f)) g
        (P.last_right t h i j free v last_v) (P.last_left t h i j free v y last_y))
      where
        go : Before (tiling t h) i j (P.at_first t h i j free) (P.at_second t h i j free)
            (P.clear t h i j free) v y z → squared_vector (p i) (p z) ≤ℤ squared_vector (p i) (p v)
        go (by_left k) = last_v.nearer z y (P.crossing t h i j free z y k) (on_if (whole (p i))
            (whole (p v)) (whole (p z)) (bracket-affine (p i) (p v) (p z) ∙ tie))
        go (by_right k) = let q = P.crossing t h i j free v z k in
            absurd (both_signs (left_turn (p i) (p j) (p z) q.to_left) z_right)
        go (from_start e) = absurd (right_not_zero z_right
            (ap (λ (q : ℕ). turn_at (p i) (p j) (p q)) e ∙ sym (bracket-affine (p i) (p j) (p i))
            ∙ bracket-outer (lift (p i)) (lift (p j))))

    -- of the last one, both corners come before its right end
    pub last_x_sooner : ComesSooner x z
    last_x_sooner x_right z_left = inl x_around

    pub last_z_sooner : ComesSooner z x
    last_z_sooner z_right x_left = elim (zero_or_left z_around) [
      | inl tie ↦ inr (
        tie,
        strictly_nearer (p i) (p j) (p v) (p z) tie z_right v_right (z_near z_right tie) not_same,
      )
      | inr k ↦ inl k
    ]

-- the flip of the edge from a last right end to a last left end there lowers the sum of ranks
pub chosen_flip_lowers : ChosenFlipLowers
chosen_flip_lowers t new i j v x y z h free c f g last_v last_y change =
    turn_lowers t i j v x y z h c f g new (last_x_sooner t i j v x y z h c f g free last_v last_y)
    (last_z_sooner t i j v x y z h c f g free last_v last_y) change
