-- The cell of a circle inside which no vertex is: what it has of the vertices that the circle
-- carries.
-- Notions: steps, HasWay, IsTiedAt; lift-moved, inside_agrees, on_agrees, none_joined,
-- face_is_empty, empty_open, triple_in_hull, germ_goes_on, has_way, tied_at, triple_in_cell.
use Rattle.std.proofs.Common.{◌≡◌, ◌<◌, ◌+◌, ℕ, suc, [], ◌∷◌, map, arith, sym, ◌∙◌, subst}
use mathlib.Core.Logic.{◌⊎◌, inl, inr}
use Rattle.std.specs.Prelude.{◌↔◌, ℤ, pos, ◌<ℤ◌, ◌≤ℤ◌, ◌*ℤ◌, ◌+ℤ◌}
use Rattle.std.proofs.lemmas.Int.{ints}
use Rattle.std.proofs.lemmas.List.{get_or-map}
use Rattle.plane.specs.{Fraction, InCorners, InHull, InsideCircle, IsConstrainedDelaunay, IsFace}
use Rattle.plane.specs.{IsNotNegative, IsSeen, IsTiling, IsVertex, Joins, OnCircle, Point}
use Rattle.plane.specs.{TilesHull, Triangulation, TurnsLeft, vertex, whole}
use Rattle.plane.proofs.{◌⊕◌, ◌⊗◌, bracketᵖ, incircleᵖ as liftᵖ, mul-pos_ℤ, pos-ne-zero_ℤ}
use Rattle.plane.proofs.{pos_of_mul-pos_ℤ, ring_over, three_weights, weak, zero-mul_ℤ}
use Rattle.plane.proofs.{zero_of_mul-zero_ℤ}
use Rattle.plane_theorems.specs.{Delaunay.Cells.AreOnCircle, InCell}
use Rattle.plane_theorems.proofs.Delaunay.Circles.EmptyCircles.{circle_lift, face_open}
use Rattle.plane_theorems.proofs.Delaunay.Circles.EmptyCircles.{IsOpenTriple, OneCircle}
use Rattle.plane_theorems.proofs.Delaunay.Circles.EmptyCircles.{overlapping, spot, straight_line}
use Rattle.plane_theorems.proofs.Delaunay.Circles.Lift.{inside_is_lift, lift, on_is_lift}
use Rattle.plane_theorems.proofs.Delaunay.Points.Bracket.{above_if_left, bracket, fraction}
use Rattle.plane_theorems.proofs.Delaunay.Points.Hull.{triangle_in_hull}
use Rattle.plane_theorems.proofs.Delaunay.Points.Nudges.{Closed, closed_of_inside, InOpen, nudge}
use Rattle.plane_theorems.proofs.Delaunay.Points.Nudges.{nudge-above, nudge-least, nudge-on, size}
use Rattle.plane_theorems.proofs.Delaunay.Tilings.Faces.{both_inside, Germ, germ, germ-closed}
use Rattle.plane_theorems.proofs.Delaunay.Tilings.Faces.{middle, middle-inside}
use Rattle.plane_theorems.proofs.Delaunay.Tilings.Ground.{closed_of, in_map, origin, tiling}
use Rattle.plane_theorems.proofs.Delaunay.Tilings.Ground.{triangle_of_closed, triangle_of_inside}

-- ---- three points on a circle have that circle
-- the circles of two triples
pub lift-moved : (a b c d e f p : Fraction) → bracket d e f *ℤ lift a b c p
    ≡ bracket a b c *ℤ lift d e f p +ℤ (bracket e f p *ℤ lift a b c d +ℤ bracket f d p
    *ℤ lift a b c e +ℤ bracket d e p *ℤ lift a b c f)
unfolding lift bracket
lift-moved a b c d e f p = ring_over fraction [] (a ∷ b ∷ c ∷ d ∷ e ∷ f ∷ p ∷ [])
    (λ a b c d e f p. bracketᵖ d e f ⊗ liftᵖ a b c p)
    (λ a b c d e f p. bracketᵖ a b c ⊗ liftᵖ d e f p ⊕ (bracketᵖ e f p ⊗ liftᵖ a b c d
    ⊕ bracketᵖ f d p ⊗ liftᵖ a b c e ⊕ bracketᵖ d e p ⊗ liftᵖ a b c f)) tt

-- two multiples of the same sign
record AreAlike (x y : ℤ) : Type 0 where
  k : ℤ
  l : ℤ
  k_above : pos 0 <ℤ k
  l_above : pos 0 <ℤ l
  multiples : k *ℤ x ≡ l *ℤ y

alike-sym : (x y : ℤ) → AreAlike x y → AreAlike y x
alike-sym x y h = record {
  k = h.l;
  l = h.k;
  k_above = h.l_above;
  l_above = h.k_above;
  multiples = sym h.multiples;
}

above_alike : (x y : ℤ) → AreAlike x y → pos 0 <ℤ x → pos 0 <ℤ y
above_alike x y h p = pos_of_mul-pos_ℤ {k = h.l} {x = y} h.l_above
    (subst (λ z. pos 0 <ℤ z) h.multiples (mul-pos_ℤ {a = h.k} {b = x} h.k_above p))

none_alike : (x y : ℤ) → AreAlike x y → x ≡ pos 0 → y ≡ pos 0
none_alike x y h p = zero_of_mul-zero_ℤ {k = h.l} {x = y} (pos-ne-zero_ℤ h.l_above)
    (sym h.multiples ∙ zero-mul_ℤ h.k p)

module _ (a b c d e f : Point) (first : TurnsLeft (whole a) (whole b) (whole c))
    (second : TurnsLeft (whole d) (whole e) (whole f))
    (on_d : OnCircle (whole a) (whole b) (whole c) (whole d))
    (on_e : OnCircle (whole a) (whole b) (whole c) (whole e))
    (on_f : OnCircle (whole a) (whole b) (whole c) (whole f)) where
  lifts_alike : (p : Point) → AreAlike (lift (whole a) (whole b) (whole c) (whole p))
      (lift (whole d) (whole e) (whole f) (whole p))
  lifts_alike p = record {
    k = bracket (whole d) (whole e) (whole f);
    l = bracket (whole a) (whole b) (whole c);
    k_above = above_if_left _ _ _ second;
    l_above = above_if_left _ _ _ first;
    multiples = alone _ _ _ _ _ _ _ _ (lift-moved (whole a) (whole b) (whole c) (whole d) (whole e)
        (whole f) (whole p)) (at d on_d) (at e on_e) (at f on_f);
  }
    where
      at : (q : Point) → OnCircle (whole a) (whole b) (whole c) (whole q)
          → lift (whole a) (whole b) (whole c) (whole q) ≡ pos 0
      at q on = (on_is_lift a b c q first).0 on

      alone : (x y i j k u v w : ℤ) → x ≡ y +ℤ (i *ℤ u +ℤ j *ℤ v +ℤ k *ℤ w) → u ≡ pos 0
          → v ≡ pos 0 → w ≡ pos 0 → x ≡ y
      alone x y i j k u v w h hu hv hw =
          let q = zero-mul_ℤ i hu in let r = zero-mul_ℤ j hv in let s = zero-mul_ℤ k hw in
          omega (arith, ints)

  -- what is inside the circle of three points on a circle is inside that circle, and the other way
  pub inside_agrees : (p : Point) → InsideCircle (whole a) (whole b) (whole c) (whole p)
      ↔ InsideCircle (whole d) (whole e) (whole f) (whole p)
  inside_agrees p = (
    λ h. (inside_is_lift d e f p second).1
        (above_alike _ _ (lifts_alike p) ((inside_is_lift a b c p first).0 h)),
    λ h. (inside_is_lift a b c p first).1
        (above_alike _ _ (alike-sym _ _ (lifts_alike p)) ((inside_is_lift d e f p second).0 h)),
  )

  -- what the circle of three points on a circle carries, that circle carries, and the other way
  pub on_agrees : (p : Point) → OnCircle (whole a) (whole b) (whole c) (whole p)
      ↔ OnCircle (whole d) (whole e) (whole f) (whole p)
  on_agrees p = (
    λ h. (on_is_lift d e f p second).1
        (none_alike _ _ (lifts_alike p) ((on_is_lift a b c p first).0 h)),
    λ h. (on_is_lift a b c p first).1
        (none_alike _ _ (alike-sym _ _ (lifts_alike p)) ((on_is_lift d e f p second).0 h)),
  )

-- ---- without constraints
pub none_joined : (m n : ℕ) → ¬ Joins [] m n
none_joined m n (inl c) = absurd (omega (arith, c.1))
none_joined m n (inr c) = absurd (omega (arith, c.1))

-- from inside a left-turning triple each vertex is seen
all_seen : (t : Triangulation) (i j k n : ℕ) → TurnsLeft (vertex t i) (vertex t j) (vertex t k)
    → IsSeen t [] (vertex t i) (vertex t j) (vertex t k) (vertex t n)
all_seen t i j k n turns = record {
  from = middle (vertex t i) (vertex t j) (vertex t k);
  inside = triangle_of_inside _ _ _ _ turns (middle-inside _ _ _ (above_if_left _ _ _ turns));
  free = λ l m u. absurd (none_joined l m u);
}

-- no vertex is inside the circle of a face
pub face_is_empty : (t : Triangulation) → IsConstrainedDelaunay t [] → (i j k n : ℕ)
    → IsFace t i j k → TurnsLeft (vertex t i) (vertex t j) (vertex t k) → IsVertex t n
    → ¬ InsideCircle (vertex t i) (vertex t j) (vertex t k) (vertex t n)
face_is_empty t D i j k n f turns v = D.empty i j k n f v (all_seen t i j k n turns)

-- a left-turning triple of vertices inside whose circle there is none
pub empty_open : (t : Triangulation) (i j k : ℕ) → IsVertex t i × IsVertex t j × IsVertex t k
    → TurnsLeft (vertex t i) (vertex t j) (vertex t k)
    → ((n : ℕ) → IsVertex t n
    → ¬ InsideCircle (vertex t i) (vertex t j) (vertex t k) (vertex t n))
    → IsOpenTriple t [] i j k
empty_open t i j k v turns empty = record {
  corners = v;
  turns = turns;
  unentered = λ p _ m n u. absurd (none_joined m n u);
  outside = λ n hn _. circle_lift t i j k n turns (empty n hn);
}

module _ (t : Triangulation) (h : TilesHull t) where
  -- a point of the closed triangle of three vertices is in the hull
  pub triple_in_hull : (i j k : ℕ) → IsVertex t i × IsVertex t j × IsVertex t k
      → TurnsLeft (vertex t i) (vertex t j) (vertex t k) → (p : Fraction)
      → Closed (vertex t i) (vertex t j) (vertex t k) p → InHull (map whole t.points) p
  triple_in_hull i j k v turns p c = triangle_in_hull (map whole t.points) i j k
      (whole (origin t h)) (vertex t i) (vertex t j) (vertex t k) p (in_map t h i v.0)
      (in_map t h j v.1) (in_map t h k v.2)
      (get_or-map whole t.points i (origin t h) (whole (origin t h)) v.0)
      (get_or-map whole t.points j (origin t h) (whole (origin t h)) v.1)
      (get_or-map whole t.points k (origin t h) (whole (origin t h)) v.2)
      (three_weights IsNotNegative (vertex t i) (vertex t j) (vertex t k) p
      (triangle_of_closed _ _ _ p turns c))

  -- larger than the brackets of z at the sides of a face
  abbrev pub steps : Fraction → ℕ → ℕ → ℕ → ℕ
  steps z d e f = suc (size (bracket (vertex t d) (vertex t e) z)
      + size (bracket (vertex t e) (vertex t f) z) + size (bracket (vertex t f) (vertex t d) z))

  -- a way that begins in a face is in it still, a little further on
  pub germ_goes_on : (y z : Fraction) (d e f : ℕ) → Germ (tiling t h) y z d e f
      → Closed (vertex t d) (vertex t e) (vertex t f) (nudge (steps z d e f) y z)
  unfolding tiling
  germ_goes_on y z d e f g = record {
    first = least d e (steps z d e f) g.first.starts (omega arith);
    second = least e f (steps z d e f) g.second.starts (omega arith);
    third = least f d (steps z d e f) g.third.starts (omega arith);
  }
    where
      least : (i j n : ℕ) → (pos 0 <ℤ bracket (vertex t i) (vertex t j) y)
          ⊎ ((bracket (vertex t i) (vertex t j) y ≡ pos 0)
          × (pos 0 ≤ℤ bracket (vertex t i) (vertex t j) z))
          → size (bracket (vertex t i) (vertex t j) z) < n
          → pos 0 ≤ℤ bracket (vertex t i) (vertex t j) (nudge n y z)
      least i j n (inl s) r = weak (nudge-above (vertex t i) (vertex t j) n y z s r)
      least i j n (inr s) r = subst (λ x. pos 0 ≤ℤ x)
          (sym (nudge-on (vertex t i) (vertex t j) n y z s.0)) s.1

  -- a closed face that has a point and, a little further on, the way from it to another
  pub record HasWay (y z : Fraction) : Type 0 where
    pub d : ℕ
    pub e : ℕ
    pub f : ℕ
    pub is_face : IsFace t d e f
    pub closed : Closed (vertex t d) (vertex t e) (vertex t f) y
    pub n : ℕ
    pub goes_on : Closed (vertex t d) (vertex t e) (vertex t f) (nudge n y z)

  -- each way within the hull has such a face at its start
  pub has_way : (y z : Fraction) → InHull (map whole t.points) y → InHull (map whole t.points) z
      → HasWay y z
  unfolding tiling
  has_way y z hy hz = go (germ (tiling t h) y z hy hz)
    where
      go : (d e f : ℕ) × IsFace t d e f × Germ (tiling t h) y z d e f → HasWay y z
      go (d, e, f, g, s) = record {
        d = d;
        e = e;
        f = f;
        is_face = g;
        closed = germ-closed (tiling t h) y z d e f s;
        n = steps z d e f;
        goes_on = germ_goes_on y z d e f s;
      }

  -- a closed face with a point of an empty triple, and with its circle
  pub record IsTiedAt (a b c : ℕ) (p : Fraction) : Type 0 where
    pub d : ℕ
    pub e : ℕ
    pub f : ℕ
    pub is_face : IsFace t d e f
    pub closed : Closed (vertex t d) (vertex t e) (vertex t f) p
    pub one : OneCircle (vertex t a) (vertex t b) (vertex t c) (vertex t d) (vertex t e)
        (vertex t f)

  -- each point of the closed triangle of an empty triple is in a closed face with its circle
  pub tied_at : IsConstrainedDelaunay t [] → (a b c : ℕ) → IsOpenTriple t [] a b c
      → (p : Fraction) → Closed (vertex t a) (vertex t b) (vertex t c) p → IsTiedAt a b c p
  tied_at D a b c o p closed = go (has_way p m (in_hull p closed)
      (in_hull m (closed_of_inside m_inside)))
    where
      m : Fraction
      m = middle (vertex t a) (vertex t b) (vertex t c)

      m_inside : InOpen (vertex t a) (vertex t b) (vertex t c) m
      m_inside = middle-inside _ _ _ (above_if_left _ _ _ o.turns)

      in_hull : (q : Fraction) → Closed (vertex t a) (vertex t b) (vertex t c) q
          → InHull (map whole t.points) q
      in_hull = triple_in_hull a b c o.corners o.turns

      nudged_inside : (n : ℕ) → InOpen (vertex t a) (vertex t b) (vertex t c) (nudge n p m)
      nudged_inside n = record {
        first = nudge-least _ _ n p m closed.first m_inside.first;
        second = nudge-least _ _ n p m closed.second m_inside.second;
        third = nudge-least _ _ n p m closed.third m_inside.third;
      }

      go : HasWay p m → IsTiedAt a b c p
      go w = next (both_inside (vertex t w.d) (vertex t w.e) (vertex t w.f) (vertex t a)
          (vertex t b) (vertex t c) _ (above_if_left _ _ _ (h.turning w.d w.e w.f w.is_face))
          w.goes_on (nudged_inside w.n))
        where
          next : (y : Fraction) × InOpen (vertex t w.d) (vertex t w.e) (vertex t w.f) y
              × InOpen (vertex t a) (vertex t b) (vertex t c) y → IsTiedAt a b c p
          next y = record {
            d = w.d;
            e = w.e;
            f = w.f;
            is_face = w.is_face;
            closed = w.closed;
            one = overlapping t [] a b c w.d w.e w.f y.0 o
                (face_open t [] h D w.d w.e w.f w.is_face) y.2 y.1;
          }

-- ---- the cell of an empty circle
-- without constraints: where no vertex is inside a circle, its cell has the closed triangle of each
-- three vertices that it carries
pub triple_in_cell : (t : Triangulation) → IsConstrainedDelaunay t [] → (a b c : Point)
    → TurnsLeft (whole a) (whole b) (whole c)
    → ((n : ℕ) → IsVertex t n → ¬ InsideCircle (whole a) (whole b) (whole c) (vertex t n))
    → (i j k : ℕ) → IsVertex t i × IsVertex t j × IsVertex t k
    → TurnsLeft (vertex t i) (vertex t j) (vertex t k)
    → AreOnCircle t (whole a) (whole b) (whole c) i j k → (p : Fraction) → InCorners t i j k p
    → InCell t (whole a) (whole b) (whole c) p
triple_in_cell t D a b c turns empty i j k corners left on p within = go D.tiling
  where
    is_open : IsOpenTriple t [] i j k
    is_open = empty_open t i j k corners left (λ n v u. empty n v ((inside_agrees a b c (spot t i)
        (spot t j) (spot t k) turns left on.0 on.1 on.2 (spot t n)).1 u))

    carried : (n : ℕ) → lift (vertex t i) (vertex t j) (vertex t k) (vertex t n) ≡ pos 0
        → OnCircle (whole a) (whole b) (whole c) (vertex t n)
    carried n z = (on_agrees a b c (spot t i) (spot t j) (spot t k) turns left on.0 on.1 on.2
        (spot t n)).1 ((on_is_lift (spot t i) (spot t j) (spot t k) (spot t n) left).1 z)

    go : IsTiling t → InCell t (whole a) (whole b) (whole c) p
    go (inr l) = absurd (straight_line t l i j k corners.0 corners.1 corners.2 left)
    go (inl h) = found (tied_at t h D i j k is_open p (closed_of _ _ _ p left within))
      where
        found : IsTiedAt t h i j k p → InCell t (whole a) (whole b) (whole c) p
        found r = record {
          i = r.d;
          j = r.e;
          k = r.f;
          is_face = r.is_face;
          on_circle = (carried r.d r.one.fourth, carried r.e r.one.fifth, carried r.f r.one.sixth);
          within = triangle_of_closed _ _ _ p (h.turning r.d r.e r.f r.is_face) r.closed;
        }
