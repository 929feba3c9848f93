-- Pairs that legalising flips away: above what a face carries they stay, and so they are no edges
-- again.
-- Notions: carried (what a face carries, from Heights); IsLow (below the chord); away_back,
-- no_edge, goes_away, stays_away; in_all_below and twice_all_below (how many pairs there are).
use Rattle.std.proofs.Common.{◌≡◌, ◌⊎◌, ◌<◌, ◌≤◌, ◌+◌, ◌*◌, ◌-◌, [], ◌∷◌, ◌++◌, ◌∙◌, ℕ, zero, suc}
use Rattle.std.proofs.Common.{List, length, refl, ap, subst, arith}
use mathlib.Core.Logic.{inl, inr}
use Rattle.std.specs.Prelude.{ℤ, pos, ◌+ℤ◌, ◌-ℤ◌, ◌*ℤ◌, ◌≤ℤ◌, ◌<ℤ◌, neg_ℤ, Contains}
use Rattle.std.proofs.lemmas.Int.{ints}
use Rattle.std.proofs.lemmas.Bool.{cases_eq}
use Rattle.std.proofs.lemmas.List.{length-append}
use Rattle.std.proofs.lemmas.List.Elements.{Contains-append_left, Contains-append_right}
use lib.IntN.{+ℤ_comm}
use Rattle.plane.specs.{Face, face, Fraction, InsideCircle, IsPositive, Joins, place, Point, whole}
use Rattle.plane.specs.{WithinSegment}
use Rattle.plane.proofs.{◌⊕◌, ◌⊖◌, ◌⊗◌, bracket, bracket-swap, bracket-turn, bracketᵖ, cramer_w}
use Rattle.plane.proofs.{cramer_x, cramer_y, difference_is_positive, difference_not_negative}
use Rattle.plane.proofs.{heightᵖ, incircle, incircleᵖ, less_or_more, lt_or_ge_ℤ, mean_of_two}
use Rattle.plane.proofs.{mul-nonneg_ℤ, mul-pos_ℤ, neg-mul_ℤ, num, Poly, ring_in, ring_over}
use Rattle.plane.proofs.{same_is_not_less, Vec3, vec3, Vec3ᵖ, weak}
use Rattle.plane.proofs.{BracketIdentities.mix, IntegerLaws.one-*ℤ, Signs.less_by_named_difference}
use Rattle.{plane.proofs.Circles.height, plane_theorems.specs.Edits.Away.IsAway}
use Rattle.plane_theorems.specs.{AreAway, FacesChange, IsFaceOf, LocalMesh}
use Rattle.plane_theorems.specs.Edits.LegalLaws.{AwayIsBounded, AwayIsNoEdge, FlipGoesAway}
use Rattle.plane_theorems.proofs.Edits.Legalization.Heights.{carried, carried-turn, carriedᵖ}
use Rattle.plane_theorems.proofs.Edits.Legalization.Heights.{lower_abd_abc, lower_abd_acd}
use Rattle.plane_theorems.proofs.Edits.Legalization.Heights.{lower_bcd_abc, lower_bcd_acd}
use Rattle.plane_theorems.proofs.Edits.Legalization.Legal.{convex_at_first, convex_at_third, halved}
use Rattle.plane_theorems.proofs.Edits.LocalMesh.Changes.{face_kept, of_each, once_cons}
use Rattle.plane_theorems.proofs.Edits.LocalMesh.Changes.{once_length, turn_of_all}
use Rattle.plane_theorems.proofs.Tiling.Counting.{at, corners_differ, SignMesh}
use Rattle.plane_theorems.proofs.Tiling.Flows.{HasSide, turned}
use Rattle.plane_theorems.proofs.Tiling.Tiles.{by_signs, point_at}
use Rattle.plane_theorems.proofs.Tiling.Totals.{Contains-cases, Contains-later}
use Rattle.plane_theorems.proofs.Tiling.Covering as C
use Rattle.plane_theorems.proofs.Tiling.Places as P
use Rattle.plane_theorems.proofs.Edits.Legalization.Flipping as F

carried-mix : (a b c : Vec3) (k : ℤ) (u : Vec3) (l : ℤ) (v : Vec3)
    → carried a b c (mix k u l v) ≡ k *ℤ carried a b c u +ℤ l *ℤ carried a b c v
unfolding carried bracket
carried-mix a b c k u l v = ring_over vec3 (k ∷ l ∷ []) (a ∷ b ∷ c ∷ u ∷ v ∷ [])
    (λ k l a b c u v. carriedᵖ a b c (record {
      x = k ⊗ u.x ⊕ l ⊗ v.x;
      y = k ⊗ u.y ⊕ l ⊗ v.y;
      w = k ⊗ u.w ⊕ l ⊗ v.w;
    })) (λ k l a b c u v. k ⊗ carriedᵖ a b c u ⊕ l ⊗ carriedᵖ a b c v) tt

carried-corner : (a b c : Vec3) → carried a b c a ≡ bracket a b c *ℤ height a
unfolding carried bracket
carried-corner a b c = ring_over vec3 [] (a ∷ b ∷ c ∷ []) (λ a b c. carriedᵖ a b c a)
    (λ a b c. bracketᵖ a b c ⊗ heightᵖ a) tt

carried-weights : (a b c z : Vec3) → bracket b c z *ℤ height a +ℤ bracket c a z *ℤ height b
    +ℤ bracket a b z *ℤ height c ≡ carried a b c z
unfolding carried bracket
carried-weights a b c z =
    ring_over vec3 [] (a ∷ b ∷ c ∷ z ∷ []) (λ a b c z. bracketᵖ b c z ⊗ heightᵖ a ⊕ bracketᵖ c a z
    ⊗ heightᵖ b ⊕ bracketᵖ a b z ⊗ heightᵖ c) (λ a b c z. carriedᵖ a b c z) tt

-- a sum of three corners
abbrev sum_of : ℤ → Vec3 → ℤ → Vec3 → ℤ → Vec3 → Vec3
sum_of r a s b t c = record {
  x = r *ℤ a.x +ℤ s *ℤ b.x +ℤ t *ℤ c.x;
  y = r *ℤ a.y +ℤ s *ℤ b.y +ℤ t *ℤ c.y;
  w = r *ℤ a.w +ℤ s *ℤ b.w +ℤ t *ℤ c.w;
}

abbrev sum_ofᵖ : Poly → Vec3ᵖ → Poly → Vec3ᵖ → Poly → Vec3ᵖ → Vec3ᵖ
sum_ofᵖ r a s b t c = record {
  x = r ⊗ a.x ⊕ s ⊗ b.x ⊕ t ⊗ c.x;
  y = r ⊗ a.y ⊕ s ⊗ b.y ⊕ t ⊗ c.y;
  w = r ⊗ a.w ⊕ s ⊗ b.w ⊕ t ⊗ c.w;
}

carried-sum : (r s t : ℤ) (a b c : Vec3) → carried a b c (sum_of r a s b t c)
    ≡ bracket a b c *ℤ (r *ℤ height a +ℤ s *ℤ height b +ℤ t *ℤ height c)
unfolding carried bracket
carried-sum r s t a b c = ring_over vec3 (r ∷ s ∷ t ∷ []) (a ∷ b ∷ c ∷ [])
    (λ r s t a b c. carriedᵖ a b c (sum_ofᵖ r a s b t c))
    (λ r s t a b c. bracketᵖ a b c ⊗ (r ⊗ heightᵖ a ⊕ s ⊗ heightᵖ b ⊕ t ⊗ heightᵖ c)) tt

first_of_sum : (r s t : ℤ) (a b c : Vec3) → bracket a b (sum_of r a s b t c) ≡ t *ℤ bracket a b c
unfolding bracket
first_of_sum r s t a b c = ring_over vec3 (r ∷ s ∷ t ∷ []) (a ∷ b ∷ c ∷ [])
    (λ r s t a b c. bracketᵖ a b (sum_ofᵖ r a s b t c)) (λ r s t a b c. t ⊗ bracketᵖ a b c) tt

second_of_sum : (r s t : ℤ) (a b c : Vec3) → bracket b c (sum_of r a s b t c) ≡ r *ℤ bracket a b c
unfolding bracket
second_of_sum r s t a b c = ring_over vec3 (r ∷ s ∷ t ∷ []) (a ∷ b ∷ c ∷ [])
    (λ r s t a b c. bracketᵖ b c (sum_ofᵖ r a s b t c)) (λ r s t a b c. r ⊗ bracketᵖ a b c) tt

third_of_sum : (r s t : ℤ) (a b c : Vec3) → bracket c a (sum_of r a s b t c) ≡ s *ℤ bracket a b c
unfolding bracket
third_of_sum r s t a b c = ring_over vec3 (r ∷ s ∷ t ∷ []) (a ∷ b ∷ c ∷ [])
    (λ r s t a b c. bracketᵖ c a (sum_ofᵖ r a s b t c)) (λ r s t a b c. s ⊗ bracketᵖ a b c) tt

-- ---- steps on numbers
times_minus : (d x y : ℤ) → d *ℤ (y -ℤ x) ≡ d *ℤ y -ℤ d *ℤ x
times_minus d x y = ring_in (d ∷ x ∷ y ∷ []) (λ d x y. d ⊗ (y ⊖ x)) (λ d x y. d ⊗ y ⊖ d ⊗ x) tt

scaled_below : (d x y : ℤ) → pos 0 <ℤ d → x <ℤ y → (d *ℤ x) <ℤ (d *ℤ y)
scaled_below d x y h k = less_by_named_difference _ _ _
    (times_minus d x y) (mul-pos_ℤ h (difference_is_positive x y k))

lower_still : (x y d e top : ℤ) → (x *ℤ d) ≤ℤ (y *ℤ e) → y <ℤ (d *ℤ top) → pos 0 <ℤ d → pos 0 <ℤ e
    → x <ℤ (e *ℤ top)
lower_still x y d e top h k hd he = elim (lt_or_ge_ℤ x (e *ℤ top)) [
  | inl o ↦ o
  | inr o ↦ absurd (clash _ _ _ _ _ h (first x y d e top)
      (mul-pos_ℤ he (difference_is_positive y _ k)) (second x d _)
      (mul-nonneg_ℤ (weak hd) (difference_not_negative _ x o)))
]
  where
    first : (x y d e top : ℤ) → e *ℤ (d *ℤ top -ℤ y) ≡ d *ℤ (e *ℤ top) -ℤ y *ℤ e
    first x y d e top = ring_in (y ∷ d ∷ e ∷ top ∷ []) (λ y d e top. e ⊗ (d ⊗ top ⊖ y))
        (λ y d e top. d ⊗ (e ⊗ top) ⊖ y ⊗ e) tt

    second : (x d z : ℤ) → d *ℤ (x -ℤ z) ≡ x *ℤ d -ℤ d *ℤ z
    second x d z = ring_in (x ∷ d ∷ z ∷ []) (λ x d z. d ⊗ (x ⊖ z)) (λ x d z. x ⊗ d ⊖ d ⊗ z) tt

    clash : (xd ye z a b : ℤ) → xd ≤ℤ ye → a ≡ z -ℤ ye → pos 0 <ℤ a → b ≡ xd -ℤ z → pos 0 ≤ℤ b → ⊥
    clash xd ye z a b h e ha f hb = omega (arith, ints)

-- ---- below the chord
-- y is in the closed face i j k, which carries less than top there
record IsLow (p : ℕ → Point) (y : Vec3) (top : ℤ) (i j k : ℕ) : Type 0 where
  first : pos 0 ≤ℤ bracket (at p i) (at p j) y
  second : pos 0 ≤ℤ bracket (at p j) (at p k) y
  third : pos 0 ≤ℤ bracket (at p k) (at p i) y
  lower : carried (at p i) (at p j) (at p k) y <ℤ (bracket (at p i) (at p j) (at p k) *ℤ top)

low_turned : (p : ℕ → Point) (y : Vec3) (top : ℤ) (i j k : ℕ) → IsLow p y top i j k
    → IsLow p y top j k i
low_turned p y top i j k h = record {
  first = h.second;
  second = h.third;
  third = h.first;
  lower = subst (λ z. z <ℤ (bracket (at p j) (at p k) (at p i) *ℤ top))
      (carried-turn _ _ _ y) (rw bracket-turn at h.lower);
}

module _ (points : List Point) (u v : ℕ) where
  abbrev p : ℕ → Point
  p = point_at points

  middle : ℤ → ℤ → Vec3
  middle k l = mix k (at p u) l (at p v)

  chord : ℤ → ℤ → ℤ
  chord k l = k *ℤ height (at p u) +ℤ l *ℤ height (at p v)

  -- what is away from an edge is so in either direction
  pub away_back : (faces : List Face) → IsAway points faces u v → IsAway points faces v u
  away_back faces h = record {
    k = h.l;
    l = h.k;
    k_positive = h.l_positive;
    l_positive = h.k_positive;
    a = h.a;
    b = h.b;
    c = h.c;
    here = h.here;
    r = h.r;
    s = h.s;
    t = h.t;
    r_allowed = h.r_allowed;
    s_allowed = h.s_allowed;
    t_allowed = h.t_allowed;
    x = +ℤ_comm (h.l *ℤ (p v).x) (h.k *ℤ (p u).x) ∙ h.x;
    y = +ℤ_comm (h.l *ℤ (p v).y) (h.k *ℤ (p u).y) ∙ h.y;
    w = +ℤ_comm h.l h.k ∙ h.w;
    lower = rw (+ℤ_comm (h.k *ℤ height (at p u)) (h.l *ℤ height (at p v))) at h.lower;
  }

  low_of_away : (faces : List Face) (h : IsAway points faces u v) → pos 0 <ℤ bracket (at p h.a)
      (at p h.b) (at p h.c) → IsLow (point_at points) (middle h.k h.l) (chord h.k h.l) h.a h.b h.c
  unfolding middle chord
  low_of_away faces h turns =
      let A = at p h.a in
      let B = at p h.b in
      let C = at p h.c in
      let e : (mix h.k (at p u) h.l (at p v) ≡ sum_of h.r A h.s B h.t C) =
      (λ i. record { x = h.x i; y = h.y i; w = weight h.k h.l h.r h.s h.t h.w i }) in
      record {
        first = rw (ap (bracket A B) e ∙ first_of_sum h.r h.s h.t A B C)
            (mul-nonneg_ℤ h.t_allowed (weak turns));
        second = rw (ap (bracket B C) e ∙ second_of_sum h.r h.s h.t A B C)
            (mul-nonneg_ℤ h.r_allowed (weak turns));
        third = rw (ap (bracket C A) e ∙ third_of_sum h.r h.s h.t A B C)
            (mul-nonneg_ℤ h.s_allowed (weak turns));
        lower = rw (ap (carried A B C) e ∙ carried-sum h.r h.s h.t A B C)
            (scaled_below _ _ _ turns h.lower);
      }
    where
      weight : (k l r s t : ℤ) → k +ℤ l ≡ r +ℤ s +ℤ t
          → k *ℤ pos 1 +ℤ l *ℤ pos 1 ≡ r *ℤ pos 1 +ℤ s *ℤ pos 1 +ℤ t *ℤ pos 1
      weight k l r s t e = omega (arith, ints)

  away_of_low : (faces : List Face) (k l : ℤ) → pos 0 <ℤ k → pos 0 <ℤ l → (a b c : ℕ)
      → IsFaceOf faces a b c → pos 0 <ℤ bracket (at p a) (at p b) (at p c)
      → IsLow (point_at points) (middle k l) (chord k l) a b c → IsAway points faces u v
  unfolding middle chord
  away_of_low faces k l hk hl a b c f turns h =
      let A = at p a in
      let B = at p b in
      let C = at p c in
      let D = bracket A B C in
      let y = mix k _ l _ in
      record {
        k = D *ℤ k;
        l = D *ℤ l;
        k_positive = mul-pos_ℤ turns hk;
        l_positive = mul-pos_ℤ turns hl;
        a = a;
        b = b;
        c = c;
        here = f;
        r = bracket B C y;
        s = bracket C A y;
        t = bracket A B y;
        r_allowed = h.second;
        s_allowed = h.third;
        t_allowed = h.first;
        x = spread D k (p u).x l (p v).x ∙ cramer_x A B C y;
        y = spread D k (p u).y l (p v).y ∙ cramer_y A B C y;
        w = ones D k l (bracket B C y) (bracket C A y) (bracket A B y) (cramer_w A B C y);
        lower = rw (spread D k (height (at p u)) l (height (at p v)))
            (rw (carried-weights A B C y) h.lower);
      }
    where
      spread : (d k x l y : ℤ) → (d *ℤ k) *ℤ x +ℤ (d *ℤ l) *ℤ y ≡ d *ℤ (k *ℤ x +ℤ l *ℤ y)
      spread d k x l y = ring_in (d ∷ k ∷ x ∷ l ∷ y ∷ []) (λ d k x l y. (d ⊗ k) ⊗ x ⊕ (d ⊗ l) ⊗ y)
          (λ d k x l y. d ⊗ (k ⊗ x ⊕ l ⊗ y)) tt

      ones : (d k l r s t : ℤ) → d *ℤ (k *ℤ pos 1 +ℤ l *ℤ pos 1)
          ≡ r *ℤ pos 1 +ℤ s *ℤ pos 1 +ℤ t *ℤ pos 1 → d *ℤ k +ℤ d *ℤ l ≡ r +ℤ s +ℤ t
      ones d k l r s t e = apart d k l ∙ e ∙ (omega (arith, ints))
        where
          apart : (d k l : ℤ) → d *ℤ k +ℤ d *ℤ l ≡ d *ℤ (k *ℤ pos 1 +ℤ l *ℤ pos 1)
          apart d k l = ring_in (d ∷ k ∷ l ∷ []) (λ d k l. d ⊗ k ⊕ d ⊗ l)
              (λ d k l. d ⊗ (k ⊗ num 1 ⊕ l ⊗ num 1)) tt

  abbrev between : (k l : ℤ) → pos 0 <ℤ k → pos 0 <ℤ l → Fraction
  between k l hk hl = record {
    x = k *ℤ (p u).x +ℤ l *ℤ (p v).x;
    y = k *ℤ (p u).y +ℤ l *ℤ (p v).y;
    w = k *ℤ pos 1 +ℤ l *ℤ pos 1;
    positive = omega (arith, ints);
  }

  within : (k l : ℤ) (hk : pos 0 <ℤ k) (hl : pos 0 <ℤ l)
      → WithinSegment (whole (p u)) (whole (p v)) (between k l hk hl)
  within k l hk hl = mean_of_two IsPositive _ _ (between k l hk hl) (record {
    k = k;
    l = l;
    n = pos 1;
    k_allowed = hk;
    l_allowed = hl;
    positive = record { lt = tt };
    x = one-*ℤ _;
    y = one-*ℤ _;
    w = one-*ℤ _;
  })

  -- ---- no edge is away
  no_edge : (faces : List Face) (outer : List (ℕ × ℕ)) → LocalMesh points faces outer
      → IsAway points faces u v → ¬ HasSide faces u v
  unfolding middle chord
  no_edge faces outer m h s =
      let signs = by_signs _ _ _ m in
      let A = at p h.a in
      let B = at p h.b in
      let Z = at p h.c in
      let turns = C.turn_left_of _ p _ _ signs h.a h.b h.c h.here in
      let low = low_of_away _ h turns in
      let corners = P.face_at_side _ p _ _ signs
      (between h.k h.l h.k_positive h.l_positive)
      (record { u = u; v = v; side = s; within = within h.k h.l h.k_positive h.l_positive }) h.a
      h.b h.c h.here low.first low.second low.third in
      same_is_not_less (carried A B Z (mix h.k _ h.l _))
      _
      (carried-mix A B Z h.k _ h.l _ ∙ (λ i. h.k
      *ℤ at_corner h.a h.b h.c u corners.0 i +ℤ h.l *ℤ at_corner h.a h.b h.c v corners.1 i)
      ∙ together h.k h.l _ (height (at p u)) (height (at p v))) low.lower
    where
      together : (k l d x y : ℤ) → k *ℤ (d *ℤ x) +ℤ l *ℤ (d *ℤ y) ≡ d *ℤ (k *ℤ x +ℤ l *ℤ y)
      together k l d x y = ring_in (k ∷ l ∷ d ∷ x ∷ y ∷ []) (λ k l d x y. k ⊗ (d ⊗ x) ⊕ l ⊗ (d ⊗ y))
          (λ k l d x y. d ⊗ (k ⊗ x ⊕ l ⊗ y)) tt

      at_corner : (a b c w : ℕ) → (w ≡ a) ⊎ ((w ≡ b) ⊎ (w ≡ c)) → carried (at p a) (at p b) (at p c)
          (at p w) ≡ bracket (at p a) (at p b) (at p c) *ℤ height (at p w)
      at_corner a b c w (inl e) = rw e (carried-corner _ _ _)
      at_corner a b c w (inr (inl e)) = rw (e, carried-turn, bracket-turn) (carried-corner _ _ _)
      at_corner a b c w (inr (inr e)) =
          rw (e, carried-turn, carried-turn, bracket-turn, bracket-turn) (carried-corner _ _ _)

-- a pair that has been flipped away is no edge
pub away_is_no_edge : AwayIsNoEdge
away_is_no_edge points faces outer i j k m h f = no_edge _ i j _ _ m h (k, f)

-- ---- one flip
chord_above : (a b c d : Vec3) → incircle a b c d ≡ (bracket b c d *ℤ height a +ℤ bracket a b d *ℤ
    height c) -ℤ (pos 0 *ℤ height a +ℤ bracket a c d *ℤ height b +ℤ bracket a b c *ℤ height d)
unfolding incircle bracket
chord_above a b c d = ring_over vec3 [] (a ∷ b ∷ c ∷ d ∷ []) incircleᵖ
    (λ a b c d. (bracketᵖ b c d ⊗ heightᵖ a ⊕ bracketᵖ a b d ⊗ heightᵖ c)
    ⊖ (num 0 ⊗ heightᵖ a ⊕ bracketᵖ a c d ⊗ heightᵖ b ⊕ bracketᵖ a b c ⊗ heightᵖ d)) tt

module _ (points : List Point) (faces new : List Face) (outer : List (ℕ × ℕ)) (a b c d : ℕ)
    (m : LocalMesh points faces outer) (first : IsFaceOf faces a b c)
    (second : IsFaceOf faces a c d) (change :
    FacesChange faces new (face a b c ∷ face a c d ∷ []) (face a b d ∷ face b c d ∷ [])) (failing :
    InsideCircle (place points a) (place points c) (place points d) (place points b)) where
  abbrev P' : ℕ → Point
  P' = point_at points

  signs : SignMesh (length points) (point_at points) faces outer
  signs = by_signs _ _ _ m

  -- a b c turns left
  abc : pos 0 <ℤ bracket (at P' a) (at P' b) (at P' c)
  abc = C.turn_left_of _ _ _ _ signs a b c first

  -- a c d turns left
  acd : pos 0 <ℤ bracket (at P' a) (at P' c) (at P' d)
  acd = C.turn_left_of _ _ _ _ signs a c d second

  excess : pos 0 <ℤ incircle (at P' a) (at P' b) (at P' c) (at P' d)
  excess = F.excess _ _ new _ a b c d m first second change failing

  -- a b d turns left, too
  abd : pos 0 <ℤ bracket (at P' a) (at P' b) (at P' d)
  abd = convex_at_first (P' a) (P' b) (P' c) (P' d) abc acd excess

  -- and so does b c d
  bcd : pos 0 <ℤ bracket (at P' b) (at P' c) (at P' d)
  bcd = convex_at_third (P' a) (P' b) (P' c) (P' d) abc acd excess

  first_new : IsFaceOf new a b d
  first_new = change.come a b d (inl (0, omega arith, refl))

  second_new : IsFaceOf new b c d
  second_new = change.come b c d (inl (1, omega arith, refl))

  -- the flipped pair is away
  goes_away : IsAway points new a c
  goes_away = record {
    k = bracket (at P' b) (at P' c) (at P' d);
    l = bracket (at P' a) (at P' b) (at P' d);
    k_positive = bcd;
    l_positive = abd;
    a = a;
    b = b;
    c = d;
    here = first_new;
    r = pos 0;
    s = bracket (at P' a) (at P' c) (at P' d);
    t = bracket (at P' a) (at P' b) (at P' c);
    r_allowed = record { le = tt };
    s_allowed = weak acd;
    t_allowed = weak abc;
    x = omega (arith, ints, swapped (P' b).x, cramer_x (at P' a) (at P' b) (at P' c) (at P' d));
    y = omega (arith, ints, swapped (P' b).y, cramer_y (at P' a) (at P' b) (at P' c) (at P' d));
    w = omega (arith, ints, swap, cramer_w (at P' a) (at P' b) (at P' c) (at P' d));
    lower = less_by_named_difference _ _ (incircle _ _ _ _) (chord_above _ _ _ _) excess;
  }
    where
      swap : bracket (at P' c) (at P' a) (at P' d) ≡ neg_ℤ (bracket (at P' a) (at P' c) (at P' d))
      swap = bracket-swap _ _ _

      swapped : (z : ℤ) → bracket (at P' c) (at P' a) (at P' d) *ℤ z
          ≡ neg_ℤ (bracket (at P' a) (at P' c) (at P' d) *ℤ z)
      swapped z = ap (λ t. t *ℤ z) swap ∙ neg-mul_ℤ (bracket (at P' a) (at P' c) (at P' d)) z

  -- and what was away stays away
  module _ (u v : ℕ) (h : IsAway points faces u v) where
    -- at a point between u and v the face there carries less than their chord
    low : IsLow (point_at points) (middle points u v h.k h.l) (chord points u v h.k h.l) h.a h.b h.c
    low = low_of_away _ u v _ h (C.turn_left_of _ _ _ _ signs h.a h.b h.c h.here)

    abbrev z : Vec3
    z = middle points u v h.k h.l

    abbrev t : ℤ
    t = chord points u v h.k h.l

    abbrev A : Vec3
    A = at P' a

    abbrev B : Vec3
    B = at P' b

    abbrev C' : Vec3
    C' = at P' c

    abbrev D : Vec3
    D = at P' d

    abbrev Leads : ℕ → ℕ → ℕ → Type 0
    Leads i j k = IsLow (point_at points) (middle points u v h.k h.l)
        (chord points u v h.k h.l) i j k → IsAway points new u v

    turned_left : (i j k : ℕ) → pos 0 <ℤ bracket (at P' i) (at P' j) (at P' k)
        → pos 0 <ℤ bracket (at P' j) (at P' k) (at P' i)
    turned_left i j k x = rw bracket-turn at x

    in_first : Leads a b d
    in_first x = away_of_low _ u v new h.k h.l h.k_positive h.l_positive a b d first_new abd x

    in_second : Leads b c d
    in_second x = away_of_low _ u v new h.k h.l h.k_positive h.l_positive b c d second_new bcd x

    from_abc : Leads a b c
    from_abc x = elim (halved B C' D A z bcd (turned_left a b d abd) (turned_left a b c abc)
        (turned_left a c d acd) (record { first = x.second; second = x.third; third = x.first })) [
          | inl i ↦ in_second (record {
            first = i.first;
            second = i.second;
            third = i.third;
            lower = lower_still (carried B C' D z) (carried A B C' z) _
                _ t (lower_bcd_abc A B C' D z (weak excess) i.first) x.lower abc bcd;
          })
          | inr i ↦ in_first (record {
            first = i.third;
            second = i.first;
            third = i.second;
            lower = lower_still (carried A B D z) (carried A B C' z) _
                _ t (lower_abd_abc A B C' D z (weak excess) i.third) x.lower abc abd;
          })
        ]

    from_acd : Leads a c d
    from_acd x = elim (halved D A B C' z (turned_left b d a (turned_left a b d abd))
        (turned_left c d b (turned_left b c d bcd)) (turned_left c d a (turned_left a c d acd)) abc
        (record { first = x.third; second = x.first; third = x.second })) [
          | inl i ↦ in_first (record {
            first = i.second;
            second = i.third;
            third = i.first;
            lower = lower_still (carried A B D z) (carried A C' D z) _
                _ t (lower_abd_acd A B C' D z (weak excess) i.first) x.lower acd abd;
          })
          | inr i ↦ in_second (record {
            first = i.second;
            second = i.third;
            third = i.first;
            lower = lower_still (carried B C' D z) (carried A C' D z) _
                _ t (lower_bcd_acd A B C' D z (weak excess) i.third) x.lower acd bcd;
          })
        ]

    stays_away : IsAway points new u v
    stays_away = elim (face_kept _ new _ _ change h.a h.b h.c h.here) [
      | inl o ↦ away_of_low _ u v new h.k h.l h.k_positive h.l_positive h.a h.b h.c o
          (C.turn_left_of _ _ _ _ signs h.a h.b h.c h.here) low
      | inr o ↦ turn_of_all (face a b c ∷ face a c d ∷ []) Leads (λ i j k f x. f
          (low_turned _ z t k i j (low_turned _ z t j k i x)))
          (of_each (λ (g : Face). Leads g.a g.b g.c) (face a b c ∷ face a c d ∷ [])
          (from_abc, (from_acd, tt))) h.a h.b h.c o low
    ]

-- ---- the pairs
another : (points : List Point) (faces new : List Face) (outer away : List (ℕ × ℕ)) (i j : ℕ)
    → LocalMesh points faces outer → ((u v : ℕ) → IsAway points faces u v → IsAway points new u v)
    → AreAway points faces away → i < j → j < length points → HasSide faces i j
    → IsAway points new i j → AreAway points new ((i, j) ∷ away)
another points faces new outer away i j m stays g h k s n = record {
  ordered = λ u v x. elim (Contains-cases (i, j) away (u, v) x) [
    | inl e ↦ subst (λ (x : ℕ × ℕ). (x.0 < x.1) × (x.1 < length points)) e (h, k)
    | inr y ↦ g.ordered u v y
  ];
  above = λ u v x. elim (Contains-cases (i, j) away (u, v) x) [
    | inl e ↦ subst (λ (x : ℕ × ℕ). IsAway points new x.0 x.1) e n
    | inr y ↦ stays u v (g.above u v y)
  ];
  once = once_cons (i, j) away (λ x. no_edge _ i j _ _ m (g.above i j x) s) g.once;
}

in_more : (e : ℕ × ℕ) (away : List (ℕ × ℕ)) (i j : ℕ) → Joins away i j → Joins (e ∷ away) i j
in_more e away i j (inl h) = inl (Contains-later e away (i, j) h)
in_more e away i j (inr h) = inr (Contains-later e away (j, i) h)

-- the flip of a failing edge adds its pair to those that are away
pub flip_goes_away : FlipGoesAway
flip_goes_away points faces new outer away a b c d m first second change failing g =
    go (less_or_more a c (corners_differ (point_at points) a c d (C.turn_left_of _
    _ _ _ (by_signs _ _ _ m) a c d second)).0)
  where
    index : (a < length points) × (c < length points) × (d < length points)
    index = C.turn_corners _ _ _ _ (by_signs _ _ _ m) a c d second

    stays : (u v : ℕ) → IsAway points faces u v → IsAway points new u v
    stays u v h = stays_away _ _ new _ a b c d m first second change failing u v h

    here : IsAway points new a c
    here = goes_away _ _ new _ a b c d m first second change failing

    go : (a < c) ⊎ (c < a)
        → (more : List (ℕ × ℕ)) × AreAway points new more × (length more ≡ suc (length away))
        × Joins more a c × ((i j : ℕ) → Joins away i j → Joins more i j)
    go (inl h) = (
      (a, c) ∷ away,
      another _ _ new _ away a c m stays g h index.1 (d, second) here,
      refl,
      inl (0, omega arith, refl),
      in_more (a, c) away,
    )
    go (inr h) = (
      (c, a) ∷ away,
      another _ _ new _ away c a m stays g h index.0
          (b, turned _ b c a (turned _ a b c first)) (away_back _ a c new here),
      refl,
      inr (0, omega arith, refl),
      in_more (c, a) away,
    )

-- ---- how many pairs there are
-- the pairs of an index below k and k, and those of two indexes below k, the lesser first
below_with : ℕ → ℕ → List (ℕ × ℕ)
below_with zero k = []
below_with (suc i) k = (i, k) ∷ below_with i k

all_below : ℕ → List (ℕ × ℕ)
all_below zero = []
all_below (suc k) = below_with k k ++ all_below k

length_below_with : (i k : ℕ) → length (below_with i k) ≡ i
unfolding below_with
length_below_with zero k = refl
length_below_with (suc i) k = ap suc (length_below_with i k)

in_below_with : (i k j : ℕ) → j < i → Contains (below_with i k) (j, k)
unfolding below_with
in_below_with zero k j h = absurd (omega arith)
in_below_with (suc i) k j h = elim (cases_eq i j) [
  | inl e ↦ subst (λ (x : ℕ). Contains ((i, k) ∷ below_with i k) (x, k)) e (0, omega arith, refl)
  | inr n ↦ Contains-later (i, k) (below_with i k) (j, k) (in_below_with i k j (omega arith))
]

in_all_below : (n i j : ℕ) → i < j → j < n → Contains (all_below n) (i, j)
unfolding all_below
in_all_below zero i j h k = absurd (omega arith)
in_all_below (suc n) i j h k = elim (cases_eq n j) [
  | inl e ↦ subst (λ (x : ℕ). Contains (below_with n n ++ all_below n) (i, x)) e
      (Contains-append_left (below_with n n) (all_below n) (i, n) (in_below_with n n i (rw e h)))
  | inr m ↦ Contains-append_right (below_with n n) (all_below n) (i, j)
      (in_all_below n i j h (omega arith))
]

twice_all_below : (n : ℕ) → 2 * length (all_below n) + n ≡ n * n
unfolding all_below
twice_all_below zero = refl
twice_all_below (suc n) = let e = length-append (below_with n n) (all_below n) in
    omega (arith, length_below_with n n, twice_all_below n)

half_of_square : (n l : ℕ) → 2 * l + n ≡ n * n → 2 * l ≤ n * (n - 1)
half_of_square zero l e = omega arith
half_of_square (suc n) l e = subst (λ k. 2 * l ≤ suc n * k) {x = n} (omega arith) (omega arith)

-- of n vertices, at most n (n - 1) / 2 pairs have been flipped away
pub away_is_bounded : AwayIsBounded
away_is_bounded points faces away g =
    let some = once_length away (all_below _) g.once
    (λ e h. let o = g.ordered e.0 e.1 h in in_all_below _ e.0 e.1 o.0 o.1) in
    omega (arith, some, half_of_square _ _ (twice_all_below (length points)))
