-- Where a point is in a local mesh: left of an outer edge, at a vertex, strictly within one side or
-- strictly inside one face, and in one of these ways alone.
-- Notions: IsLeftOfOuter, IsAtVertex, IsOnSide, IsInsideFace; same_within, in_closed_face,
-- somewhere, side_not_inside, vertex_not_side, face_at_side, bracket_at, one_vertex_at,
-- vertex_not_outside, side_not_outside, inside_not_outside, vertex_not_inside, vertex_unique,
-- face_unique, none_beyond.
use Rattle.std.proofs.Common.{◌≡◌, ◌⊎◌, ℕ, ◌<◌, List, [], ◌∷◌, refl, sym, ap, ◌∙◌, subst, arith}
use mathlib.Core.Logic.{inl, inr, ◌≢◌}
use Rattle.std.specs.Prelude.{ℤ, pos, ◌+ℤ◌, ◌*ℤ◌, ◌≤ℤ◌, ◌<ℤ◌, neg_ℤ, Contains}
use Rattle.std.proofs.lemmas.Int.{ints}
use Rattle.std.proofs.lemmas.Bool.{cases_eq}
use lib.IntN.{*ℤ_comm}
use Rattle.plane.specs.{Face, face, Fraction, IsPositive, IsSame, Point, whole, WithinSegment}
use Rattle.plane.proofs.{◌⊖◌, ◌⊗◌, AllDiffer, bracket, bracket-last, bracket-outer, bracket-sum}
use Rattle.plane.proofs.{bracket-swap, bracket-turn, bracket_of_two, bracketᵖ, cramer_w, cramer_x}
use Rattle.plane.proofs.{cramer_y, drop_zero, drop_zero_last, Inside, left_not_below, left_not_zero}
use Rattle.plane.proofs.{lift, lt_or_ge_ℤ, mean_of_two, mul-nonpos_of_nonneg_nonpos_ℤ, mul-pos_ℤ}
use Rattle.plane.proofs.{mul_cancel_ℤ, near, not_left_of_product, num, pos-ne-zero_ℤ}
use Rattle.plane.proofs.{pos_of_mul-pos_ℤ, product_zero_left, ring_in_from, sum_first_two}
use Rattle.plane.proofs.{sum_not_positive, turns_of_one, two_weights, vec, Vec3, weak, zero-mul_ℤ}
use Rattle.plane.proofs.{Steps.sum_second, Steps.three_zero, zero_of_mul-zero_ℤ, zero_or_left}
use Rattle.plane_theorems.specs.{IsTurned}
use Rattle.plane_theorems.proofs.Tiling.Counting.{at, corners_differ, same_index, SignMesh}
use Rattle.plane_theorems.proofs.{Tiling.Covering.next_corner, Tiling.Totals.Contains-none}
use Rattle.plane_theorems.proofs.Tiling.Flows.{HasSide, IsTurnOf, turned}
use Rattle.plane_theorems.proofs.Tiling.Totals.{Contains-cases, Contains-head, Contains-later}
use Rattle.plane_theorems.proofs.Tiling.Covering as C
use Rattle.plane_theorems.proofs.Tiling.Edges as E

-- y is on two sides of a triangle: at their corner
record IsAtCorner (j : Point) (q : Fraction) : Type 0 where
  d : ℤ
  s : ℤ
  d_positive : pos 0 <ℤ d
  s_positive : pos 0 <ℤ s
  x : d *ℤ q.x ≡ s *ℤ j.x
  y : d *ℤ q.y ≡ s *ℤ j.y
  w : d *ℤ q.w ≡ s

-- a number times 1 is itself
unit : (s : ℤ) → s *ℤ pos 1 ≡ s
unit s = omega (arith, ints)

corner_of : (i j k : Point) (y : Fraction) → pos 0 <ℤ bracket (lift i) (lift j) (lift k)
    → bracket (lift i) (lift j) (vec y) ≡ pos 0 → bracket (lift j) (lift k) (vec y) ≡ pos 0
    → IsAtCorner j y
corner_of i j k y turns a b =
    let D = bracket (lift i) (lift j) (lift k) in
    let S = bracket (lift k) (lift i) (vec y) in
    let w = sum_second (D *ℤ y.w) (bracket (lift j) (lift k) (vec y) *ℤ pos 1) (S *ℤ pos 1)
    (bracket (lift i) (lift j) (vec y) *ℤ pos 1) (cramer_w (lift i) (lift j) (lift k) (vec y))
    (product_zero_left (pos 1) b) (product_zero_left (pos 1) a) ∙ unit S in
    record {
      d = D;
      s = S;
      d_positive = turns;
      s_positive = subst (λ z. pos 0 <ℤ z) w (mul-pos_ℤ turns y.positive);
      x = sum_second (D *ℤ y.x) (bracket (lift j) (lift k) (vec y) *ℤ i.x) (S *ℤ j.x)
          (bracket (lift i) (lift j) (vec y) *ℤ k.x) (cramer_x (lift i) (lift j) (lift k) (vec y))
          (product_zero_left i.x b) (product_zero_left k.x a);
      y = sum_second (D *ℤ y.y) (bracket (lift j) (lift k) (vec y) *ℤ i.y) (S *ℤ j.y)
          (bracket (lift i) (lift j) (vec y) *ℤ k.y) (cramer_y (lift i) (lift j) (lift k) (vec y))
          (product_zero_left i.y b) (product_zero_left k.y a);
      w = w;
    }

same_as_corner : (j : Point) (y : Fraction) → IsAtCorner j y → IsSame y (whole j)
same_as_corner j y c = record {
  x = part c.d c.s y.x j.x y.w c.d_positive c.x c.w;
  y = part c.d c.s y.y j.y y.w c.d_positive c.y c.w;
}
  where
    part : (d s a b w : ℤ) → pos 0 <ℤ d → d *ℤ a ≡ s *ℤ b → d *ℤ w ≡ s → a *ℤ pos 1 ≡ b *ℤ w
    part d s a b w h e f = mul_cancel_ℤ (pos-ne-zero_ℤ h)
        (ring_in_from (d ∷ s ∷ a ∷ b ∷ w ∷ []) (λ d s a b w. d ⊗ (a ⊗ num 1)) (λ d s a b w. d ⊗ (b
        ⊗ w)) (λ d s a b w. (num 1, d ⊗ a, s ⊗ b) ∷ (num 0 ⊖ b, d ⊗ w, s) ∷ []) (e, (f, tt)) tt)

-- a point at y, strictly within a segment, is strictly within it too
pub same_within : (u v j : Point) (y : Fraction) → IsSame y (whole j)
    → WithinSegment (whole u) (whole v) y → WithinSegment (whole u) (whole v) (whole j)
same_within u v j y c h =
    let t = two_weights IsPositive (whole u) (whole v) y h in
    mean_of_two IsPositive (whole u) (whole v) (whole j) (record {
      k = t.k;
      l = t.l;
      n = t.n *ℤ y.w;
      k_allowed = t.k_allowed;
      l_allowed = t.l_allowed;
      positive = mul-pos_ℤ t.positive y.positive;
      x = part t.n y.w y.x j.x (t.k *ℤ u.x +ℤ t.l *ℤ v.x) t.x c.x;
      y = part t.n y.w y.y j.y (t.k *ℤ u.y +ℤ t.l *ℤ v.y) t.y c.y;
      w = unit (t.n *ℤ y.w) ∙ t.w;
    })
  where
    part : (n w a b s : ℤ) → n *ℤ a ≡ s → a *ℤ pos 1 ≡ b *ℤ w → (n *ℤ w) *ℤ b ≡ s
    part n w a b s e f =
        ring_in_from (n ∷ w ∷ a ∷ b ∷ s ∷ []) (λ n w a b s. (n ⊗ w) ⊗ b) (λ n w a b s. s)
        (λ n w a b s. (num 1, n ⊗ a, s) ∷ (num 0 ⊖ n, a ⊗ num 1, b ⊗ w) ∷ []) (e, (f, tt)) tt

-- y is on one side of a triangle and left of the other two
within_of : (i j k : Point) (y : Fraction) → pos 0 <ℤ bracket (lift i) (lift j) (lift k)
    → bracket (lift i) (lift j) (vec y) ≡ pos 0 → pos 0 <ℤ bracket (lift j) (lift k) (vec y)
    → pos 0 <ℤ bracket (lift k) (lift i) (vec y) → WithinSegment (whole i) (whole j) y
within_of i j k y turns a b c = mean_of_two IsPositive (whole i) (whole j) y (record {
  k = bracket (lift j) (lift k) (vec y);
  l = bracket (lift k) (lift i) (vec y);
  n = bracket (lift i) (lift j) (lift k);
  k_allowed = b;
  l_allowed = c;
  positive = turns;
  x = sum_first_two (bracket (lift i) (lift j) (lift k) *ℤ y.x) (bracket (lift j) (lift k) (vec y)
      *ℤ i.x) (bracket (lift k) (lift i) (vec y) *ℤ j.x) (bracket (lift i) (lift j) (vec y) *ℤ k.x)
      (cramer_x (lift i) (lift j) (lift k) (vec y)) (product_zero_left k.x a);
  y = sum_first_two (bracket (lift i) (lift j) (lift k) *ℤ y.y) (bracket (lift j) (lift k) (vec y)
      *ℤ i.y) (bracket (lift k) (lift i) (vec y) *ℤ j.y) (bracket (lift i) (lift j) (vec y) *ℤ k.y)
      (cramer_y (lift i) (lift j) (lift k) (vec y)) (product_zero_left k.y a);
  w = sum_first_two (bracket (lift i) (lift j) (lift k) *ℤ y.w) (bracket (lift j) (lift k) (vec y)
      *ℤ pos 1) (bracket (lift k) (lift i) (vec y) *ℤ pos 1) (bracket (lift i) (lift j) (vec y)
      *ℤ pos 1) (cramer_w (lift i) (lift j) (lift k) (vec y)) (product_zero_left (pos 1) a);
})

module _ (n : ℕ) (p : ℕ → Point) (faces : List Face) (outer : List (ℕ × ℕ))
    (m : SignMesh n p faces outer) where
  abbrev IsCornerOf : ℕ → ℕ → ℕ → ℕ → Type 0
  IsCornerOf i j k v = (v ≡ i) ⊎ ((v ≡ j) ⊎ (v ≡ k))

  -- the four ways
  pub record IsLeftOfOuter (y : Fraction) : Type 0 where
    pub e : ℕ × ℕ
    pub here : Contains outer e
    pub left : pos 0 <ℤ bracket (at p e.0) (at p e.1) (vec y)

  -- y is at the vertex v
  pub record IsAtVertex (y : Fraction) : Type 0 where
    pub v : ℕ
    pub index : v < n
    pub same : IsSame y (whole (p v))

  -- y is strictly within the side of u and v
  pub record IsOnSide (y : Fraction) : Type 0 where
    pub u : ℕ
    pub v : ℕ
    pub side : HasSide faces u v
    pub within : WithinSegment (whole (p u)) (whole (p v)) y

  -- y is strictly inside the face of i, j and k
  pub record IsInsideFace (y : Fraction) : Type 0 where
    pub i : ℕ
    pub j : ℕ
    pub k : ℕ
    pub here : IsTurnOf faces i j k
    pub inside : Inside (at p i) (at p j) (at p k) (vec y)

  module _ (y : Fraction) where
    -- y is on the line of i and j
    abbrev Zero : ℕ → ℕ → Type 0
    Zero i j = bracket (at p i) (at p j) (vec y) ≡ pos 0

    -- y is on its left
    abbrev Left : ℕ → ℕ → Type 0
    Left i j = pos 0 <ℤ bracket (at p i) (at p j) (vec y)

    -- a point of a closed face is at a corner, strictly within a side or strictly inside
    pub in_closed_face : (i j k : ℕ) → IsTurnOf faces i j k
        → pos 0 ≤ℤ bracket (at p i) (at p j) (vec y) → pos 0 ≤ℤ bracket (at p j) (at p k) (vec y)
        → pos 0 ≤ℤ bracket (at p k) (at p i) (vec y) → IsAtVertex y ⊎ (IsOnSide y ⊎ IsInsideFace y)
    in_closed_face i j k f a b c = go (zero_or_left a) (zero_or_left b) (zero_or_left c)
      where
        g : IsTurnOf faces j k i
        g = turned faces i j k f

        h : IsTurnOf faces k i j
        h = turned faces j k i g

        corner : (i j k : ℕ) → IsTurnOf faces i j k → Zero i j → Zero j k
            → IsAtVertex y ⊎ (IsOnSide y ⊎ IsInsideFace y)
        corner i j k f a b = inl (record {
          v = j;
          index = (C.turn_corners n p faces outer m i j k f).1;
          same = same_as_corner (p j) y
              (corner_of (p i) (p j) (p k) y (C.turn_left_of n p faces outer m i j k f) a b);
        })

        side : (i j k : ℕ) → IsTurnOf faces i j k → Zero i j → Left j k → Left k i
            → IsAtVertex y ⊎ (IsOnSide y ⊎ IsInsideFace y)
        side i j k f a b c = inr (inl (record {
          u = i;
          v = j;
          side = (k, f);
          within = within_of (p i) (p j) (p k) y (C.turn_left_of n p faces outer m i j k f) a b c;
        }))

        go : Zero i j ⊎ Left i j → Zero j k ⊎ Left j k → Zero k i ⊎ Left k i
            → IsAtVertex y ⊎ (IsOnSide y ⊎ IsInsideFace y)
        go (inl x) (inl y) z = corner i j k f x y
        go (inl x) (inr y) (inl z) = corner k i j h z x
        go (inl x) (inr y) (inr z) = side i j k f x y z
        go (inr x) (inl y) (inl z) = corner j k i g y z
        go (inr x) (inl y) (inr z) = side j k i g y z x
        go (inr x) (inr y) (inl z) = side k i j h z x y
        go (inr x) (inr y) (inr z) = inr (inr (record {
          i = i;
          j = j;
          k = k;
          here = f;
          inside = record { first = x; second = y; third = z };
        }))

    left_of_some : (es : List (ℕ × ℕ))
        → ((e : ℕ × ℕ) × Contains es e × (pos 0 <ℤ bracket (at p e.0) (at p e.1) (vec y)))
        ⊎ ((e : ℕ × ℕ) → Contains es e → bracket (at p e.0) (at p e.1) (vec y) ≤ℤ pos 0)
    left_of_some [] = inr (λ e h. absurd (Contains-none e h))
    left_of_some (e ∷ es) =
        go (lt_or_ge_ℤ (pos 0) (bracket (at p e.0) (at p e.1) (vec y))) (left_of_some es)
      where
        go : (pos 0 <ℤ bracket (at p e.0) (at p e.1) (vec y))
            ⊎ (bracket (at p e.0) (at p e.1) (vec y) ≤ℤ pos 0)
            → ((d : ℕ × ℕ) × Contains es d × (pos 0 <ℤ bracket (at p d.0) (at p d.1) (vec y)))
            ⊎ ((d : ℕ × ℕ) → Contains es d → bracket (at p d.0) (at p d.1) (vec y) ≤ℤ pos 0)
            → ((d : ℕ × ℕ) × Contains (e ∷ es) d × (pos 0 <ℤ bracket (at p d.0) (at p d.1) (vec y)))
            ⊎ ((d : ℕ × ℕ) → Contains (e ∷ es) d → bracket (at p d.0) (at p d.1) (vec y) ≤ℤ pos 0)
        go (inl h) r = inl (e, Contains-head e es, h)
        go (inr h) (inl r) = inl (r.0, Contains-later e es r.0 r.1, r.2)
        go (inr h) (inr r) = inr (λ d k. by d (Contains-cases e es d k))
          where
            by : (d : ℕ × ℕ) → (e ≡ d) ⊎ Contains es d
                → bracket (at p d.0) (at p d.1) (vec y) ≤ℤ pos 0
            by d (inl s) = subst (λ o. bracket (at p o.0) (at p o.1) (vec y) ≤ℤ pos 0) s h
            by d (inr k) = r d k

    -- each point is somewhere
    pub somewhere : IsLeftOfOuter y ⊎ (IsAtVertex y ⊎ (IsOnSide y ⊎ IsInsideFace y))
    somewhere = go (left_of_some outer)
      where
        go : ((e : ℕ × ℕ) × Contains outer e × (pos 0 <ℤ bracket (at p e.0) (at p e.1) (vec y)))
            ⊎ ((e : ℕ × ℕ) → Contains outer e → bracket (at p e.0) (at p e.1) (vec y) ≤ℤ pos 0)
            → IsLeftOfOuter y ⊎ (IsAtVertex y ⊎ (IsOnSide y ⊎ IsInsideFace y))
        go (inl r) = inl (record { e = r.0; here = r.1; left = r.2 })
        go (inr o) = let f = C.in_some_face n p faces outer m (vec y) y.positive o in
            inr (in_closed_face f.0.a f.0.b f.0.c (inl f.1) f.2 f.3 f.4)

    -- ---- a face strictly inside which, or on a side of which, y is, and a side that carries y
    module _ (a b e : ℕ) (own : IsTurnOf faces a b e)
        (w : WithinSegment (whole (p a)) (whole (p b)) y) where
      -- strictly inside a face is no side
      no_side_inside : (i j k : ℕ) → IsTurnOf faces i j k
          → Inside (at p i) (at p j) (at p k) (vec y) → ⊥
      no_side_inside i j k f s =
          let z = near n p (vec y) (at p e) y.positive (record { lt = tt }) in
          let c = C.turn_corners n p faces outer m i j k f in
          let o = C.turn_corners n p faces outer m a b e own in
          let turns = C.turn_left_of n p faces outer m a b e own in
          let in_f : Inside (at p i) (at p j) (at p k) z.0 = record {
            first = (z.1.sides i j c.0 c.1).left s.first;
            second = (z.1.sides j k c.1 c.2).left s.second;
            third = (z.1.sides k i c.2 c.0).left s.third;
          } in
          let in_own : Inside (at p a) (at p b) (at p e) z.0 = record {
            first = subst (λ x. pos 0 <ℤ x)
                (sym ((z.1.sides a b o.0 o.1).on (E.within_on (p a) (p b) y w))) turns;
            second = (z.1.sides b e o.1 o.2).left (E.within_second (p a) (p b) (p e) y w turns);
            third = (z.1.sides e a o.2 o.0).left (E.within_third (p a) (p b) (p e) y w turns);
          } in
          clash (C.shared_corner n p faces outer m a b e i j k own f z.0 z.1.weight in_own in_f)
          (C.shared_corner n p faces outer m b e a i j k (turned faces a b e own) f z.0 z.1.weight
          (record { first = in_own.second; second = in_own.third; third = in_own.first }) in_f)
        where
          level : Zero a b
          level = E.within_on (p a) (p b) y w

          back : Zero b a
          back = bracket-swap (at p b) (at p a) (vec y) ∙ ap neg_ℤ level

          apart : a ≢ b
          apart = (corners_differ p a b e (C.turn_left_of n p faces outer m a b e own)).0

          no : (s t : ℕ) → Left s t → a ≡ s → b ≡ t → ⊥
          no s t h x z =
              left_not_zero h ((λ o. bracket (at p (sym x o)) (at p (sym z o)) (vec y)) ∙ level)

          no' : (s t : ℕ) → Left s t → b ≡ s → a ≡ t → ⊥
          no' s t h x z =
              left_not_zero h ((λ o. bracket (at p (sym x o)) (at p (sym z o)) (vec y)) ∙ back)

          clash : IsCornerOf i j k a → IsCornerOf i j k b → ⊥
          clash (inl x) (inl z) = apart (x ∙ sym z)
          clash (inr (inl x)) (inr (inl z)) = apart (x ∙ sym z)
          clash (inr (inr x)) (inr (inr z)) = apart (x ∙ sym z)
          clash (inl x) (inr (inl z)) = no i j s.first x z
          clash (inr (inl x)) (inr (inr z)) = no j k s.second x z
          clash (inr (inr x)) (inl z) = no k i s.third x z
          clash (inr (inl x)) (inl z) = no' i j s.first z x
          clash (inr (inr x)) (inr (inl z)) = no' j k s.second z x
          clash (inl x) (inr (inr z)) = no' k i s.third z x

    -- a point within a side is inside no face
    pub side_not_inside : IsOnSide y → IsInsideFace y → ⊥
    side_not_inside o f =
        no_side_inside o.u o.v o.side.0 o.side.1 o.within f.i f.j f.k f.here f.inside

    -- a point at a vertex is within no side
    pub vertex_not_side : IsAtVertex y → IsOnSide y → ⊥
    vertex_not_side a o = E.side_bare n p faces outer m o.u o.v a.v (inl o.side) a.index
        (same_within (p o.u) (p o.v) (p a.v) y a.same o.within)

    -- a closed face at a point strictly within a side has both its ends
    pub face_at_side : (o : IsOnSide y) (i j k : ℕ) → IsTurnOf faces i j k
        → pos 0 ≤ℤ bracket (at p i) (at p j) (vec y) → pos 0 ≤ℤ bracket (at p j) (at p k) (vec y)
        → pos 0 ≤ℤ bracket (at p k) (at p i) (vec y) → IsCornerOf i j k o.u × IsCornerOf i j k o.v
    face_at_side o i j k f a b c = go (zero_or_left a) (zero_or_left b) (zero_or_left c)
      where
        g : IsTurnOf faces j k i
        g = turned faces i j k f

        h : IsTurnOf faces k i j
        h = turned faces j k i g

        corner : (i j k : ℕ) → IsTurnOf faces i j k → Zero i j → Zero j k → ⊥
        corner i j k f a b = vertex_not_side (record {
          v = j;
          index = (C.turn_corners n p faces outer m i j k f).1;
          same = same_as_corner (p j) y
              (corner_of (p i) (p j) (p k) y (C.turn_left_of n p faces outer m i j k f) a b);
        }) o

        named : (i j k : ℕ) → ((i ≡ o.u) × (j ≡ o.v)) ⊎ ((i ≡ o.v) × (j ≡ o.u))
            → IsCornerOf i j k o.u × IsCornerOf i j k o.v
        named i j k (inl e) = (inl (sym e.0), inr (inl (sym e.1)))
        named i j k (inr e) = (inr (inl (sym e.1)), inl (sym e.0))

        side : (i j k : ℕ) → IsTurnOf faces i j k → Zero i j → Left j k → Left k i
            → IsCornerOf i j k o.u × IsCornerOf i j k o.v
        side i j k f a b c = named i j k
            (E.sides_meet n p faces outer m y o.u o.v i j (inl o.side) (inl (k, f)) o.within
            (within_of (p i) (p j) (p k) y (C.turn_left_of n p faces outer m i j k f) a b c))

        go : Zero i j ⊎ Left i j → Zero j k ⊎ Left j k → Zero k i ⊎ Left k i
            → IsCornerOf i j k o.u × IsCornerOf i j k o.v
        go (inl x) (inl y) z = absurd (corner i j k f x y)
        go (inl x) (inr y) (inl z) = absurd (corner k i j h z x)
        go (inl x) (inr y) (inr z) = side i j k f x y z
        go (inr x) (inl y) (inl z) = absurd (corner j k i g y z)
        go (inr x) (inl y) (inr z) =
            let s = side j k i g y z x in (next_corner s.0, next_corner s.1)
        go (inr x) (inr y) (inl z) = let s = side k i j h z x y in
            (next_corner (next_corner s.0), next_corner (next_corner s.1))
        go (inr x) (inr y) (inr z) = absurd (side_not_inside o (record {
          i = i;
          j = j;
          k = k;
          here = f;
          inside = record { first = x; second = y; third = z };
        }))

-- ---- in one way alone
-- the side of a point at a vertex is the vertex's, times its weight
pub bracket_at : (a b : Vec3) (v : Point) (y : Fraction) → IsSame y (whole v)
    → bracket a b (vec y) ≡ y.w *ℤ bracket a b (lift v)
unfolding bracket
bracket_at a b v y e =
    ring_in_from (a.x ∷ a.y ∷ a.w ∷ b.x ∷ b.y ∷ b.w ∷ v.x ∷ v.y ∷ y.x ∷ y.y ∷ y.w ∷ [])
    (λ ax ay aw bx by bw vx vy yx yy yw. bracketᵖ (record { x = ax; y = ay; w = aw })
    (record { x = bx; y = by; w = bw }) (record { x = yx; y = yy; w = yw }))
    (λ ax ay aw bx by bw vx vy yx yy yw. yw ⊗ bracketᵖ (record { x = ax; y = ay; w = aw })
    (record { x = bx; y = by; w = bw }) (record { x = vx; y = vy; w = num 1 }))
    (λ ax ay aw bx by bw vx vy yx yy yw. (ay ⊗ bw ⊖ aw ⊗ by, yx ⊗ num 1, vx ⊗ yw)
    ∷ (aw ⊗ bx ⊖ ax ⊗ bw, yy ⊗ num 1, vy ⊗ yw) ∷ []) (e.x, (e.y, tt)) tt

-- two vertices at one point are one
pub one_vertex_at : (n : ℕ) (p : ℕ → Point) → AllDiffer n p → (y : Fraction) (v w : ℕ) → v < n
    → w < n → IsSame y (whole (p v)) → IsSame y (whole (p w)) → v ≡ w
one_vertex_at n p distinct y v w h k a b = same_index n p distinct v w h k (λ i. record {
  x = part (p v).x (p w).x y.x y.w y.positive a.x b.x i;
  y = part (p v).y (p w).y y.y y.w y.positive a.y b.y i;
})
  where
    part : (s t z w : ℤ) → pos 0 <ℤ w → z *ℤ pos 1 ≡ s *ℤ w → z *ℤ pos 1 ≡ t *ℤ w → s ≡ t
    part s t z w h e f = mul_cancel_ℤ (pos-ne-zero_ℤ h) (*ℤ_comm w s ∙ sym e ∙ f ∙ *ℤ_comm t w)

module _ (n : ℕ) (p : ℕ → Point) (faces : List Face) (outer : List (ℕ × ℕ))
    (m : SignMesh n p faces outer) (y : Fraction) where
  -- a point at a vertex is not outside
  pub vertex_not_outside : IsAtVertex n p faces outer m y → IsLeftOfOuter n p faces outer m y → ⊥
  vertex_not_outside a o = left_not_below o.left
      (subst (λ z. z ≤ℤ pos 0) (sym (bracket_at (at p o.e.0) (at p o.e.1) (p a.v) y a.same))
      (mul-nonpos_of_nonneg_nonpos_ℤ (weak y.positive) (m.supporting o.e o.here a.v a.index)))

  -- a point within a side is not outside
  pub side_not_outside : IsOnSide n p faces outer m y → IsLeftOfOuter n p faces outer m y → ⊥
  side_not_outside s o =
      let w = two_weights IsPositive (whole (p s.u)) (whole (p s.v)) y s.within in
      let c = C.turn_corners n p faces outer m s.u s.v s.side.0 s.side.1 in
      left_not_below o.left (not_left_of_product w.positive
      (sum_not_positive (w.n *ℤ bracket (at p o.e.0) (at p o.e.1) (vec y)) (w.k
      *ℤ bracket (at p o.e.0) (at p o.e.1) (at p s.u)) (w.l *ℤ bracket (at p o.e.0) (at p o.e.1)
      (at p s.v)) (E.mean_bracket IsPositive (p o.e.0) (p o.e.1) (p s.u) (p s.v) y w)
      (mul-nonpos_of_nonneg_nonpos_ℤ (weak w.k_allowed) (m.supporting o.e o.here s.u c.0))
      (mul-nonpos_of_nonneg_nonpos_ℤ (weak w.l_allowed) (m.supporting o.e o.here s.v c.1))))

  -- a point inside a face is not outside
  pub inside_not_outside : IsInsideFace n p faces outer m y → IsLeftOfOuter n p faces outer m y → ⊥
  inside_not_outside f o = left_not_below o.left (go f.here)
    where
      go : IsTurnOf faces f.i f.j f.k → bracket (at p o.e.0) (at p o.e.1) (vec y) ≤ℤ pos 0
      go (inl h) =
          C.inside_not_outside n p faces outer m (face f.i f.j f.k) h (vec y) f.inside o.e o.here
      go (inr (inl h)) = C.inside_not_outside n p faces outer m (face f.j f.k f.i) h (vec y)
          (record { first = f.inside.second; second = f.inside.third; third = f.inside.first }) o.e
          o.here
      go (inr (inr h)) = C.inside_not_outside n p faces outer m (face f.k f.i f.j) h (vec y)
          (record { first = f.inside.third; second = f.inside.first; third = f.inside.second }) o.e
          o.here

  -- a point at a vertex is inside no face
  pub vertex_not_inside : IsAtVertex n p faces outer m y → IsInsideFace n p faces outer m y → ⊥
  vertex_not_inside a f = go (C.vertex_in_face n p faces outer m a.v f.i f.j f.k a.index f.here
      (weak first) (weak second) (weak third))
    where
      read : (i j : ℕ) → pos 0 <ℤ bracket (at p i) (at p j) (vec y)
          → pos 0 <ℤ bracket (at p i) (at p j) (at p a.v)
      read i j h = pos_of_mul-pos_ℤ y.positive
          (subst (λ z. pos 0 <ℤ z) (bracket_at (at p i) (at p j) (p a.v) y a.same) h)

      first : pos 0 <ℤ bracket (at p f.i) (at p f.j) (at p a.v)
      first = read f.i f.j f.inside.first

      second : pos 0 <ℤ bracket (at p f.j) (at p f.k) (at p a.v)
      second = read f.j f.k f.inside.second

      third : pos 0 <ℤ bracket (at p f.k) (at p f.i) (at p a.v)
      third = read f.k f.i f.inside.third

      go : (a.v ≡ f.i) ⊎ ((a.v ≡ f.j) ⊎ (a.v ≡ f.k)) → ⊥
      go (inl e) = left_not_zero first
          (ap (λ o. bracket (at p f.i) (at p f.j) (at p o)) e ∙ bracket-outer (at p f.i) (at p f.j))
      go (inr (inl e)) = left_not_zero first
          (ap (λ o. bracket (at p f.i) (at p f.j) (at p o)) e ∙ bracket-last (at p f.i) (at p f.j))
      go (inr (inr e)) = left_not_zero second
          (ap (λ o. bracket (at p f.j) (at p f.k) (at p o)) e ∙ bracket-last (at p f.j) (at p f.k))

  -- and at one place of its kind
  pub vertex_unique : (a b : IsAtVertex n p faces outer m y) → a.v ≡ b.v
  vertex_unique a b = one_vertex_at n p m.distinct y a.v b.v a.index b.index a.same b.same

  -- the entry of which i j k is a turn
  record Turn (i j k : ℕ) : Type 0 where
    f : Face
    here : Contains faces f
    turn : IsTurned f.a f.b f.c i j k
    inside : Inside (at p f.a) (at p f.b) (at p f.c) (vec y)

  turn_of : (f : IsInsideFace n p faces outer m y) → Turn f.i f.j f.k
  turn_of f = go f.here
    where
      go : IsTurnOf faces f.i f.j f.k → Turn f.i f.j f.k
      go (inl h) = record {
        f = face f.i f.j f.k;
        here = h;
        turn = inl (refl, refl, refl);
        inside = f.inside;
      }
      go (inr (inl h)) = record {
        f = face f.j f.k f.i;
        here = h;
        turn = inr (inr (refl, refl, refl));
        inside =
            record { first = f.inside.second; second = f.inside.third; third = f.inside.first };
      }
      go (inr (inr h)) = record {
        f = face f.k f.i f.j;
        here = h;
        turn = inr (inl (refl, refl, refl));
        inside =
            record { first = f.inside.third; second = f.inside.first; third = f.inside.second };
      }

  -- y is inside one face at most, from whichever corner
  pub face_unique : (f g : IsInsideFace n p faces outer m y) → IsTurned f.i f.j f.k g.i g.j g.k
  face_unique f g =
      let a = turn_of f in
      let b = turn_of g in
      turns_of_one a.f.a a.f.b a.f.c f.i f.j f.k g.i g.j g.k a.turn
      (subst (λ o. IsTurned o.a o.b o.c g.i g.j g.k) (sym (C.same_face n p faces outer m a.f b.f
      a.here b.here (vec y) y.positive a.inside b.inside)) b.turn)

  -- not all other vertices are beyond a vertex i
  pub none_beyond : (i : ℕ) → i < n
      → ((k : ℕ) → k < n → k ≢ i → WithinSegment y (whole (p k)) (whole (p i))) → ⊥
  none_beyond i h beyond =
      let f = m.some_face.0 in
      let c = m.corners f m.some_face.1 in
      left_not_zero (m.turning f m.some_face.1) (three_zero
      (bracket (at p f.a) (at p f.b) (at p f.c)) (bracket (at p f.b) (at p f.c) (at p i))
      (bracket (at p f.c) (at p f.a) (at p i)) (bracket (at p f.a) (at p f.b) (at p i))
      (bracket-sum (p f.a) (p f.b) (p f.c) (p i)) (level f.b f.c c.1 c.2) (level f.c f.a c.2 c.0)
      (level f.a f.b c.0 c.1))
    where
      -- y is on the line of i and k
      seen : (k : ℕ) → WithinSegment y (whole (p k)) (whole (p i))
          → bracket (at p i) (at p k) (vec y) ≡ pos 0
      seen k w =
          let t = two_weights IsPositive y (whole (p k)) (whole (p i)) w in
          zero_of_mul-zero_ℤ (pos-ne-zero_ℤ t.k_allowed)
          (sym (drop_zero_last (t.n *ℤ bracket (at p i) (at p k) (at p i))
          (t.k *ℤ bracket (at p i) (at p k) (vec y)) (t.l *ℤ bracket (at p i) (at p k) (at p k))
          (bracket_of_two IsPositive (at p i) (at p k) y (whole (p k)) (whole (p i)) t)
          (zero-mul_ℤ t.l (bracket-last (at p i) (at p k))))
          ∙ zero-mul_ℤ t.n (bracket-outer (at p i) (at p k)))

      -- and so is any third vertex
      apart : (j k : ℕ) → WithinSegment y (whole (p j)) (whole (p i))
          → WithinSegment y (whole (p k)) (whole (p i)) → bracket (at p i) (at p k) (at p j) ≡ pos 0
      apart j k w v =
          let t = two_weights IsPositive y (whole (p j)) (whole (p i)) w in
          zero_of_mul-zero_ℤ (pos-ne-zero_ℤ t.l_allowed)
          (sym (drop_zero (t.n *ℤ bracket (at p i) (at p k) (at p i))
          (t.k *ℤ bracket (at p i) (at p k) (vec y)) (t.l *ℤ bracket (at p i) (at p k) (at p j))
          (bracket_of_two IsPositive (at p i) (at p k) y (whole (p j)) (whole (p i)) t)
          (zero-mul_ℤ t.k (seen k v))) ∙ zero-mul_ℤ t.n (bracket-outer (at p i) (at p k)))

      level : (j k : ℕ) → j < n → k < n → bracket (at p j) (at p k) (at p i) ≡ pos 0
      level j k hj hk = go (cases_eq j i) (cases_eq k i)
        where
          go : (j ≡ i) ⊎ (j ≡ i → ⊥) → (k ≡ i) ⊎ (k ≡ i → ⊥)
              → bracket (at p j) (at p k) (at p i) ≡ pos 0
          go (inl e) r = ap (λ o. bracket (at p o) (at p k) (at p i)) e
              ∙ bracket-outer (at p i) (at p k)
          go (inr e) (inl r) =
              ap (λ o. bracket (at p j) (at p o) (at p i)) r ∙ bracket-last (at p j) (at p i)
          go (inr e) (inr r) = bracket-turn (at p j) (at p k) (at p i)
              ∙ bracket-turn (at p k) (at p i) (at p j) ∙ apart k j (beyond k hk r) (beyond j hj e)
