-- Without constraints: a vertex to which no neighbour is nearer than it is nearest of all.
-- Lemmas: circles_are_empty, nearest_by_neighbours.
use Rattle.std.proofs.Common.{◌≡◌, ℕ, [], ◌∷◌, arith}
use mathlib.Core.Logic.{◌⊎◌, inl, inr}
use Rattle.std.specs.Prelude.{ℤ, pos, ◌<ℤ◌, ◌≤ℤ◌, ◌+ℤ◌, ◌-ℤ◌, ◌*ℤ◌}
use Rattle.std.proofs.lemmas.Int.{ints}
use Rattle.plane.specs.{Fraction, gap, InsideCircle, IsConstrainedDelaunay, IsEdge, IsFace}
use Rattle.plane.specs.{IsNearer, IsNearest, IsTiling, IsVertex, Joins, Point, TilesHull}
use Rattle.plane.specs.{Triangulation, vertex, whole}
use Rattle.plane.proofs.{◌⊕◌, ◌⊖◌, ◌⊗◌, bracketᵖ, difference_not_negative_from, incircleᵖ as liftᵖ}
use Rattle.plane.proofs.{less_with_ones, lt_or_ge_ℤ, mul-nonneg_ℤ, mul-nonpos_of_nonneg_nonpos_ℤ}
use Rattle.plane.proofs.{mul-pos_ℤ, nonneg_of_mul-nonneg_ℤ, Poly, ring_over, turned_face}
use Rattle.plane.proofs.{Vec3ᵖ as Syntax, weak}
use Rattle.plane_theorems.proofs.Delaunay.Circles.EmptyCircles.{circle_lift, no_face, spot}
use Rattle.plane_theorems.proofs.Delaunay.Circles.Lift.{lift, pointᵖ}
use Rattle.plane_theorems.proofs.Delaunay.Circles.NearestOnLine.{nearest_on_line}
use Rattle.plane_theorems.proofs.Delaunay.Points.Bracket.{above_if_left, bracket}
use Rattle.plane_theorems.proofs.Delaunay.Tilings.Cones.{Cone, cone}
use Rattle.plane_theorems.proofs.Delaunay.Tilings.Faces.{middle, middle-inside}
use Rattle.plane_theorems.proofs.Delaunay.Tilings.Ground.{tiling, triangle_of_inside}

-- ---- squared distances from p
abbrev gapᵖ : Syntax → Syntax → Poly
gapᵖ p q = (q.x ⊗ p.w ⊖ p.x ⊗ q.w) ⊗ (q.x ⊗ p.w ⊖ p.x ⊗ q.w) ⊕ (q.y ⊗ p.w ⊖ p.y ⊗ q.w)
    ⊗ (q.y ⊗ p.w ⊖ p.y ⊗ q.w)

gaps-lift : (p : Fraction) (v b c w : Point)
    → bracket (whole v) (whole b) (whole c) *ℤ (gap p (whole w) -ℤ gap p (whole v))
    ≡ bracket (whole c) (whole v) (whole w) *ℤ (gap p (whole b) -ℤ gap p (whole v))
    +ℤ bracket (whole v) (whole b) (whole w) *ℤ (gap p (whole c) -ℤ gap p (whole v)) -ℤ p.w *ℤ p.w
    *ℤ lift (whole v) (whole b) (whole c) (whole w)
unfolding lift bracket
gaps-lift p v b c w = ring_over pointᵖ (p.x ∷ p.y ∷ p.w ∷ []) (v ∷ b ∷ c ∷ w ∷ [])
    (λ px py pw v b c w. let p : Syntax = record { x = px; y = py; w = pw } in
    bracketᵖ v b c ⊗ (gapᵖ p w ⊖ gapᵖ p v))
    (λ px py pw v b c w. let p : Syntax = record { x = px; y = py; w = pw } in
    bracketᵖ c v w ⊗ (gapᵖ p b ⊖ gapᵖ p v) ⊕ bracketᵖ v b w ⊗ (gapᵖ p c ⊖ gapᵖ p v) ⊖ p.w ⊗ p.w
    ⊗ liftᵖ v b c w)
    tt

not_below : (t s r a b c l d : ℤ) → pos 0 <ℤ t → t *ℤ d ≡ s *ℤ a +ℤ r *ℤ b -ℤ c *ℤ l → pos 0 ≤ℤ s
    → pos 0 ≤ℤ a → pos 0 ≤ℤ r → pos 0 ≤ℤ b → pos 0 ≤ℤ c → l ≤ℤ pos 0 → pos 0 ≤ℤ d
not_below t s r a b c l d ht e hs ha hr hb hc hl = nonneg_of_mul-nonneg_ℤ {k = t} {x = d} ht
    (let p = mul-nonneg_ℤ {a = s} {b = a} hs ha in let q = mul-nonneg_ℤ {a = r} {b = b} hr hb in
    let o = mul-nonpos_of_nonneg_nonpos_ℤ {a = c} {b = l} hc hl in omega (arith, ints))

farther : (p : Fraction) (u v : Point) → ¬ IsNearer p (whole u) (whole v)
    → pos 0 ≤ℤ (gap p (whole u) -ℤ gap p (whole v))
farther p u v n = go (lt_or_ge_ℤ (gap p (whole u)) (gap p (whole v)))
  where
    go : (gap p (whole u) <ℤ gap p (whole v)) ⊎ (gap p (whole v) ≤ℤ gap p (whole u))
        → pos 0 ≤ℤ (gap p (whole u) -ℤ gap p (whole v))
    go (inl h) =
        absurd (n (record { nearer = less_with_ones (gap p (whole u)) (gap p (whole v)) h }))
    go (inr h) = difference_not_negative_from (gap p (whole u)) (gap p (whole v)) h

nearer_below : (p : Fraction) (u v : Point) → IsNearer p (whole u) (whole v)
    → ¬ (pos 0 ≤ℤ (gap p (whole u) -ℤ gap p (whole v)))
nearer_below p u v h k = less (gap p (whole u)) (gap p (whole v)) h.nearer k
  where
    less : (a b : ℤ) → (a *ℤ (pos 1 *ℤ pos 1)) <ℤ (b *ℤ (pos 1 *ℤ pos 1)) → pos 0 ≤ℤ (a -ℤ b) → ⊥
    less a b h k = omega (arith, ints)

none_joined : (m n : ℕ) → ¬ Joins [] m n
none_joined m n (inl c) = absurd (omega (arith, c.1))
none_joined m n (inr c) = absurd (omega (arith, c.1))

-- without constraints each vertex is seen from inside each face, so that no face's circle contains
-- one
pub circles_are_empty : (t : Triangulation) → IsConstrainedDelaunay t [] → (i j k n : ℕ)
    → IsFace t i j k → IsVertex t n
    → ¬ InsideCircle (vertex t i) (vertex t j) (vertex t k) (vertex t n)
circles_are_empty t D i j k n f v = go D.tiling
  where
    go : IsTiling t → ¬ InsideCircle (vertex t i) (vertex t j) (vertex t k) (vertex t n)
    go (inr l) = absurd (no_face t l.no_face i j k f)
    go (inl h) = D.empty i j k n f v (record {
      from = middle (vertex t i) (vertex t j) (vertex t k);
      inside = triangle_of_inside _ _ _ _ (h.turning i j k f) (middle-inside (vertex t i)
          (vertex t j) (vertex t k) (above_if_left _ _ _ (h.turning i j k f)));
      free = λ m n u. absurd (none_joined m n u);
    })

module _ (t : Triangulation) (D : IsConstrainedDelaunay t []) (h : TilesHull t) where
  all_low : (i j k n : ℕ) → IsFace t i j k → IsVertex t n
      → lift (vertex t i) (vertex t j) (vertex t k) (vertex t n) ≤ℤ pos 0
  all_low i j k n f v =
      circle_lift t i j k n (h.turning i j k f) (circles_are_empty t D i j k n f v)

  nearest_in_hull : (p : Fraction) (v : ℕ) → IsVertex t v
      → ((u : ℕ) → IsEdge t v u → ¬ IsNearer p (vertex t u) (vertex t v)) → IsNearest t p v
  unfolding tiling
  nearest_in_hull p v hv neighbours = record {
    is_vertex = hv;
    none_nearer = λ w hw. from_cone w hw
        (cone (tiling t h) v (vertex t w) hv ((tiling t h).vertex_in_hull w hw));
  }
    where
      squares : pos 0 ≤ℤ (p.w *ℤ p.w)
      squares = weak (mul-pos_ℤ {a = p.w} {b = p.w} p.positive p.positive)

      from_cone : (w : ℕ) → IsVertex t w → Cone (tiling t h) v (vertex t w)
          → ¬ IsNearer p (vertex t w) (vertex t v)
      from_cone w hw e near = nearer_below p (spot t w) (spot t v) near
          (not_below _ _ _ _ _ (p.w *ℤ p.w) _ _ (above_if_left _ _ _ (h.turning v e.b e.c
          e.is_face)) (gaps-lift p (spot t v) (spot t e.b) (spot t e.c) (spot t w))
          e.second (farther p (spot t e.b) (spot t v)
          (neighbours e.b ((h.sides v e.b).1 (inl (e.c, e.is_face)))))
          e.first (farther p (spot t e.c) (spot t v) (neighbours e.c ((h.sides v e.c).1
          (inr (e.b, turned_face t e.b e.c v (turned_face t v e.b e.c e.is_face))))))
          squares (all_low v e.b e.c w e.is_face hw))

-- and so in each tiling
pub nearest_by_neighbours : (t : Triangulation) → IsConstrainedDelaunay t []
    → (p : Fraction) (v : ℕ) → IsVertex t v
    → ((u : ℕ) → IsEdge t v u → ¬ IsNearer p (vertex t u) (vertex t v)) → IsNearest t p v
nearest_by_neighbours t D p v hv neighbours = go D.tiling
  where
    go : IsTiling t → IsNearest t p v
    go (inl h) = nearest_in_hull t D h p v hv neighbours
    go (inr l) = nearest_on_line t l p v hv neighbours
