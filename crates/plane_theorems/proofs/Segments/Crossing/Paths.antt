-- The path to a constraint, in the words of specs/: where nothing crosses, an edge; else a flip
-- that can be made.
-- Lemmas: at_first, at_second, clear, crossing, crosses, last_right, last_left, uncrossed_is_edge,
-- chosen_flip_is_convex.
use Rattle.std.proofs.Common.{◌≡◌, ℕ, [], ◌∷◌, sym, ap, ◌∙◌}
use mathlib.Core.Logic.{inl, inr}
use Rattle.std.specs.Prelude.{ℤ, pos, ◌+ℤ◌, ◌-ℤ◌, ◌*ℤ◌, ◌≤ℤ◌}
use Rattle.plane.specs.{Fraction, IsPositive, on, Point, right, side, TilesHull, Triangulation}
use Rattle.plane.specs.{TurnsLeft, vertex, whole, WithinSegment}
use Rattle.plane.proofs.{◌⊕◌, ◌⊖◌, ◌⊗◌, bracketᵖ, lt_or_ge_ℤ, mean_of_two, num, on_if, ring_in_from}
use Rattle.plane.proofs.{ring_over, Sides.if_not_right, turned_face}
use Rattle.plane_theorems.specs.{IsCrossing, IsFreeOfVertices, IsLastLeft, IsLastRight, point_of}
use Rattle.plane_theorems.specs.Segments.PathLaws.{ChosenFlipIsConvex, UncrossedIsEdge}
use Rattle.plane_theorems.proofs.Delaunay.Points.Bracket.{above_if_left, bracket, fraction}
use Rattle.plane_theorems.proofs.Delaunay.Points.Bracket.{left_if_above}
use Rattle.plane_theorems.proofs.{Delaunay.Segments.Joining.Crosses, Delaunay.Tilings.Faces.Between}
use Rattle.plane_theorems.proofs.Delaunay.Segments.Uncrossed.{edge_if_uncrossed}
use Rattle.plane_theorems.proofs.Delaunay.Tilings.Ground.{tiling}
use Rattle.plane_theorems.proofs.Segments.Items.SideSigns.{below_if_right}
use Rattle.plane_theorems.proofs.Segments.Walking.Steps.{right_if_below}
use Rattle.plane_theorems.proofs.Delaunay.Segments.FlipExists as F

-- ---- coordinates as brackets
spot : ℤ → ℤ → Fraction
spot x y = record { x = x; y = y; w = pos 1; positive = record { lt = tt } }

read_y : (z : Fraction) → bracket (spot (pos 0) (pos 0)) (spot (pos 1) (pos 0)) z ≡ z.y
unfolding spot bracket
read_y z =
    ring_over fraction [] (z ∷ []) (λ z. bracketᵖ (record { x = num 0; y = num 0; w = num 1 })
    (record { x = num 1; y = num 0; w = num 1 }) z) (λ z. z.y) tt

read_x : (z : Fraction) → bracket (spot (pos 0) (pos 1)) (spot (pos 0) (pos 0)) z ≡ z.x
unfolding spot bracket
read_x z =
    ring_over fraction [] (z ∷ []) (λ z. bracketᵖ (record { x = num 0; y = num 1; w = num 1 })
    (record { x = num 0; y = num 0; w = num 1 }) z) (λ z. z.x) tt

read_w : (z : Fraction)
    → bracket (spot (pos 1) (pos 0)) (spot (pos 0) (pos 1)) z ≡ z.w -ℤ z.x -ℤ z.y
unfolding spot bracket
read_w z =
    ring_over fraction [] (z ∷ []) (λ z. bracketᵖ (record { x = num 1; y = num 0; w = num 1 })
    (record { x = num 0; y = num 1; w = num 1 }) z) (λ z. z.w ⊖ z.x ⊖ z.y) tt

same_sum : (n k l c a b c' a' b' : ℤ) → c ≡ c' → a ≡ a' → b ≡ b' → n *ℤ c ≡ k *ℤ a +ℤ l *ℤ b
    → n *ℤ c' ≡ k *ℤ a' +ℤ l *ℤ b'
same_sum n k l c a b c' a' b' e f g h = ap (λ z. n *ℤ z) (sym e) ∙ h ∙ (λ i. k *ℤ f i +ℤ l *ℤ g i)

-- a positive combination of two vertices is strictly between them
within_of_between : (a b c : Point) → Between (whole a) (whole b) (whole c)
    → WithinSegment (whole a) (whole b) (whole c)
within_of_between a b c h = mean_of_two IsPositive (whole a) (whole b) (whole c) (record {
  k = h.k;
  l = h.l;
  n = h.n;
  k_allowed = h.k_above;
  l_allowed = h.l_above;
  positive = h.n_above;
  x = x;
  y = y;
  w = ones h.n h.k h.l c.x c.y a.x a.y b.x b.y
      (same_sum h.n h.k h.l (bracket (spot (pos 1) (pos 0)) (spot (pos 0) (pos 1)) (whole c))
      (bracket (spot (pos 1) (pos 0)) (spot (pos 0) (pos 1)) (whole a))
      (bracket (spot (pos 1) (pos 0)) (spot (pos 0) (pos 1)) (whole b)) (pos 1 -ℤ c.x -ℤ c.y)
      (pos 1 -ℤ a.x -ℤ a.y) (pos 1 -ℤ b.x -ℤ b.y) (read_w (whole c)) (read_w (whole a))
      (read_w (whole b)) (h.along (spot (pos 1) (pos 0)) (spot (pos 0) (pos 1)))) x y;
})
  where
    x : h.n *ℤ c.x ≡ h.k *ℤ a.x +ℤ h.l *ℤ b.x
    x = same_sum h.n h.k h.l (bracket (spot (pos 0) (pos 1)) (spot (pos 0) (pos 0)) (whole c))
        (bracket (spot (pos 0) (pos 1)) (spot (pos 0) (pos 0)) (whole a))
        (bracket (spot (pos 0) (pos 1)) (spot (pos 0) (pos 0)) (whole b)) c.x a.x b.x
        (read_x (whole c)) (read_x (whole a)) (read_x (whole b))
        (h.along (spot (pos 0) (pos 1)) (spot (pos 0) (pos 0)))

    y : h.n *ℤ c.y ≡ h.k *ℤ a.y +ℤ h.l *ℤ b.y
    y = same_sum h.n h.k h.l (bracket (spot (pos 0) (pos 0)) (spot (pos 1) (pos 0)) (whole c))
        (bracket (spot (pos 0) (pos 0)) (spot (pos 1) (pos 0)) (whole a))
        (bracket (spot (pos 0) (pos 0)) (spot (pos 1) (pos 0)) (whole b)) c.y a.y b.y
        (read_y (whole c)) (read_y (whole a)) (read_y (whole b))
        (h.along (spot (pos 0) (pos 0)) (spot (pos 1) (pos 0)))

    ones : (n k l cx cy ax ay bx by : ℤ) → n *ℤ (pos 1 -ℤ cx -ℤ cy)
        ≡ k *ℤ (pos 1 -ℤ ax -ℤ ay) +ℤ l *ℤ (pos 1 -ℤ bx -ℤ by) → n *ℤ cx ≡ k *ℤ ax +ℤ l *ℤ bx
        → n *ℤ cy ≡ k *ℤ ay +ℤ l *ℤ by → n *ℤ pos 1 ≡ k *ℤ pos 1 +ℤ l *ℤ pos 1
    ones n k l cx cy ax ay bx by e f g = ring_in_from (n ∷ k ∷ l ∷ cx ∷ cy ∷ ax ∷ ay ∷ bx ∷ by ∷ [])
        (λ n k l cx cy ax ay bx by. n ⊗ num 1) (λ n k l cx cy ax ay bx by. k ⊗ num 1 ⊕ l ⊗ num 1)
        (λ n k l cx cy ax ay bx by. (
          num 1,
          n ⊗ (num 1 ⊖ cx ⊖ cy),
          k ⊗ (num 1 ⊖ ax ⊖ ay) ⊕ l ⊗ (num 1 ⊖ bx ⊖ by),
        ) ∷ (num 1, n ⊗ cx, k ⊗ ax ⊕ l ⊗ bx)
        ∷ (num 1, n ⊗ cy, k ⊗ ay ⊕ l ⊗ by) ∷ []) (e, (f, (g, tt))) tt

-- ---- the words of specs/ and those of the theorems on tilings
above_if_not : (a b c : Fraction) → ¬ (side a b c ≡ right) → pos 0 ≤ℤ bracket a b c
unfolding bracket
above_if_not a b c h = if_not_right a b c h

on_if_none : (a b c : Fraction) → bracket a b c ≡ pos 0 → side a b c ≡ on
unfolding bracket
on_if_none a b c h = on_if a b c h

not_above : (a b c : Fraction) → ¬ TurnsLeft a b c → bracket a b c ≤ℤ pos 0
not_above a b c h = elim
    (lt_or_ge_ℤ (pos 0) (bracket a b c)) [ inl k ↦ absurd (h (left_if_above a b c k)) | inr k ↦ k ]

module _ (t : Triangulation) (h : TilesHull t) (i j : ℕ) (free : IsFreeOfVertices t i j) where
  -- the first end is a vertex of the tiling
  pub at_first : (tiling t h).IsVertex i
  unfolding tiling
  at_first = free.first

  -- the second end is a vertex of the tiling
  pub at_second : (tiling t h).IsVertex j
  unfolding tiling
  at_second = free.second

  -- no vertex of the tiling is between the ends
  pub clear : (n : ℕ) → (tiling t h).IsVertex n
      → ¬ Between ((tiling t h).at i) ((tiling t h).at j) ((tiling t h).at n)
  unfolding tiling
  clear n v b = free.none_between n v
      (within_of_between (point_of t.points i) (point_of t.points j) (point_of t.points n) b)

  abbrev Across : ℕ → ℕ → Type 0
  Across v y = Crosses (tiling t h) i j at_first at_second clear v y

  -- what crosses in the tiling is a crossing by sides
  pub crossing : (v y : ℕ) → Across v y → IsCrossing t i j v y
  unfolding tiling
  crossing v y c = record {
    edge = (h.sides v y).1 c.edge;
    from_right = right_if_below (vertex t i) (vertex t j) (vertex t v) c.right;
    to_left = left_if_above (vertex t i) (vertex t j) (vertex t y) c.left;
    start = left_if_above (vertex t v) (vertex t y) (vertex t i) c.start;
    end = right_if_below (vertex t v) (vertex t y) (vertex t j) c.end;
  }

  -- a crossing by sides crosses in the tiling
  pub crosses : (v y : ℕ) → IsCrossing t i j v y → Across v y
  unfolding tiling
  crosses v y c = record {
    edge = (h.sides v y).0 c.edge;
    right = below_if_right (vertex t i) (vertex t j) (vertex t v) c.from_right;
    left = above_if_left (vertex t i) (vertex t j) (vertex t y) c.to_left;
    start = above_if_left (vertex t v) (vertex t y) (vertex t i) c.start;
    end = below_if_right (vertex t v) (vertex t y) (vertex t j) c.end;
  }

  -- the last on the right by sides is so in the tiling
  pub last_right : (v : ℕ) → IsLastRight t i j v
      → F.IsLastRight (tiling t h) i j at_first at_second clear v
  unfolding tiling
  last_right v l = record {
    around = λ u w c. above_if_not (vertex t i) (vertex t v) (vertex t u)
        (l.around u w (crossing u w c));
    nearer = λ u w c e. l.nearer u w (crossing u w c)
        (on_if_none (vertex t i) (vertex t v) (vertex t u) e);
  }

  -- the last on the left by sides is so in the tiling
  pub last_left : (v y : ℕ) → IsLastLeft t i j v y
      → F.IsLastLeft (tiling t h) i j at_first at_second clear v y
  unfolding tiling
  last_left v y l = record {
    around = λ w c. not_above (vertex t i) (vertex t y) (vertex t w) (l.around w (crossing v w c));
    nearer =
        λ w c e. l.nearer w (crossing v w c) (on_if_none (vertex t i) (vertex t y) (vertex t w) e);
  }

-- where no edge crosses the segment of two vertices with none strictly between, they are joined
pub uncrossed_is_edge : UncrossedIsEdge
unfolding tiling
uncrossed_is_edge t i j h free none = (h.sides i j).1 (edge_if_uncrossed (tiling t h) i j
    (at_first t h i j free) (at_second t h i j free) (λ e. free.apart (sym e)) (clear t h i j free)
    (λ v y c. none v y (crossing t h i j free v y c)))

-- the edge from the last right end to the last left end is across a strictly convex quadrilateral
pub chosen_flip_is_convex : ChosenFlipIsConvex
unfolding tiling
chosen_flip_is_convex t i j v x y z h free c f g last_v last_y =
    let e = F.flip_exists (tiling t h) i j (at_first t h i j free) (at_second t h i j free)
    (clear t h i j free) v x y z (crosses t h i j free v y c)
    (turned_face t x y v (turned_face t v x y f)) g (last_right t h i j free v last_v)
    (last_left t h i j free v y last_y) in (
      left_if_above (vertex t v) (vertex t x) (vertex t z) e.0,
      left_if_above (vertex t x) (vertex t y) (vertex t z) e.1,
    )
