-- Where the way from a point of a closed triangle leaves it.
-- Notions: Cut, Leaves, Exit; exit_of, below_along.
use Rattle.std.proofs.Common.{◌≡◌, arith, sym, ◌∙◌, subst, [], ◌∷◌, refl}
use mathlib.Core.Logic.{◌⊎◌, inl, inr}
use Rattle.std.specs.Prelude.{ℤ, pos, ◌<ℤ◌, ◌≤ℤ◌, ◌+ℤ◌, ◌-ℤ◌, ◌*ℤ◌}
use Rattle.std.proofs.lemmas.Int.{ints}
use Rattle.plane.specs.{Fraction}
use Rattle.plane.proofs.{◌⊕◌, ◌⊖◌, ◌⊗◌, above, below, left_not_zero, lt_or_ge_ℤ}
use Rattle.plane.proofs.{mul-neg_of_pos_neg_ℤ, mul-nonneg_ℤ, mul-nonpos_of_nonneg_nonpos_ℤ}
use Rattle.plane.proofs.{mul-pos_ℤ, neg_of_mul-neg_ℤ, none, num, product_zero_left, right_not_above}
use Rattle.plane.proofs.{ring_in, ring_in_from, Sign, sign, weak, weak_right, zero_weak_left}
use Rattle.plane_theorems.proofs.Delaunay.Points.Bracket.{bracket, bracket-mixed, mixed}
use Rattle.plane_theorems.proofs.{Delaunay.Points.Nudges.Closed, Delaunay.Tilings.Meets.OnSide}
use Rattle.plane_theorems.proofs.Delaunay.Points.Numbers.{mix_positive, sum_least}

-- ---- along a segment
-- a sum under weights that are not negative and not both 0 is below 0 where both parts are
below_sum : (n k l x a b v p q : ℤ) → pos 0 <ℤ n → pos 0 <ℤ v → pos 0 ≤ℤ k → pos 0 ≤ℤ l
    → n *ℤ v ≡ k *ℤ p +ℤ l *ℤ q → n *ℤ x ≡ k *ℤ a +ℤ l *ℤ b → a <ℤ pos 0 → b <ℤ pos 0
    → x <ℤ pos 0
below_sum n k l x a b v p q hn hv hk hl weight e ha hb = go (sign k) (sign l)
  where
    low : (s i j : ℤ) → s ≡ i +ℤ j → i <ℤ pos 0 → j ≤ℤ pos 0 → s <ℤ pos 0
    low s i j e h k = omega (arith, ints)

    low_too : (s i j : ℤ) → s ≡ i +ℤ j → i ≤ℤ pos 0 → j <ℤ pos 0 → s <ℤ pos 0
    low_too s i j e h k = omega (arith, ints)

    nothing : (s i j : ℤ) → s ≡ i +ℤ j → i ≡ pos 0 → j ≡ pos 0 → s ≡ pos 0
    nothing s i j e h k = omega (arith, ints)

    go : Sign k → Sign l → x <ℤ pos 0
    go (below s) r = absurd (right_not_above s hk)
    go s (below r) = absurd (right_not_above r hl)
    go (above s) r = neg_of_mul-neg_ℤ {k = n} {x = x} hn (low (n *ℤ x) (k *ℤ a) (l *ℤ b) e
        (mul-neg_of_pos_neg_ℤ {a = k} {b = a} s ha)
        (mul-nonpos_of_nonneg_nonpos_ℤ {a = l} {b = b} hl (weak_right hb)))
    go (none s) (above r) = neg_of_mul-neg_ℤ {k = n} {x = x} hn (low_too (n *ℤ x) (k *ℤ a) (l *ℤ b)
        e (mul-nonpos_of_nonneg_nonpos_ℤ {a = k} {b = a} hk (weak_right ha))
        (mul-neg_of_pos_neg_ℤ {a = l} {b = b} r hb))
    go (none s) (none r) = absurd (left_not_zero (mul-pos_ℤ {a = n} {b = v} hn hv)
        (nothing (n *ℤ v) (k *ℤ p) (l *ℤ q) weight (product_zero_left p s) (product_zero_left q r)))

-- right of a line at both ends: so at each point
pub below_along : (p q r u v : Fraction) → OnSide p q r → bracket u v p <ℤ pos 0
    → bracket u v q <ℤ pos 0 → bracket u v r <ℤ pos 0
below_along p q r u v o hp hq = below_sum o.n o.k o.l (bracket u v r) (bracket u v p)
    (bracket u v q) r.w p.w q.w o.n_above r.positive o.k_least o.l_least o.weight (o.along u v) hp
    hq

-- the end of a segment is on it
end_on_side : (p q : Fraction) → OnSide p q q
end_on_side p q = record {
  n = pos 1;
  k = pos 0;
  l = pos 1;
  n_above = record { lt = tt };
  k_least = record { le = tt };
  l_least = record { le = tt };
  along = λ u v. last (bracket u v p) (bracket u v q);
  weight = last p.w q.w;
}
  where
    last : (a b : ℤ) → pos 1 *ℤ b ≡ pos 0 *ℤ a +ℤ pos 1 *ℤ b
    last a b = omega (arith, ints)

-- ---- a way, cut where it crosses a line to its right
module _ (u v y q : Fraction) (start : pos 0 ≤ℤ bracket u v y) where
  -- a point of the way that is not right of the line: z, or on the line where the way crosses it
  record Cut (z : Fraction) : Type 0 where
    at : Fraction
    on : OnSide y q at
    least : pos 0 ≤ℤ bracket u v at
    keeps : (s t : Fraction) → pos 0 ≤ℤ bracket s t y → pos 0 ≤ℤ bracket s t z
        → pos 0 ≤ℤ bracket s t at
    cut : (at ≡ z) ⊎ ((bracket u v at ≡ pos 0) × (bracket u v q <ℤ pos 0))

  module _ (z : Fraction) (on : OnSide y q z) where
    cut_at : bracket u v z <ℤ pos 0 → Cut z
    cut_at right = record {
      at = at;
      on = record {
        n = on.n;
        k = on.n *ℤ k +ℤ l *ℤ on.k;
        l = l *ℤ on.l;
        n_above = on.n_above;
        k_least = least_sum _ _ (mul-nonneg_ℤ {a = on.n} {b = k} (weak on.n_above) (weak k_above))
            (mul-nonneg_ℤ {a = l} {b = on.k} start on.k_least);
        l_least = mul-nonneg_ℤ {a = l} {b = on.l} start on.l_least;
        along = λ s t. moved on.n k l on.k on.l (bracket s t z) (bracket s t y) (bracket s t q)
            (bracket s t at) (on.along s t) (of_at s t);
        weight = moved on.n k l on.k on.l z.w y.w q.w at.w on.weight refl;
      };
      least = zero_weak_left zero;
      keeps = λ s t hy hz. subst (λ i. pos 0 ≤ℤ i) (sym (of_at s t)) (least_sum _ _
          (mul-nonneg_ℤ {a = k} {b = bracket s t y} (weak k_above) hy)
          (mul-nonneg_ℤ {a = l} {b = bracket s t z} start hz));
      cut = inr (zero, end_right);
    }
      where
        k : ℤ
        k = pos 0 -ℤ bracket u v z

        l : ℤ
        l = bracket u v y

        k_above : pos 0 <ℤ k
        k_above = negated (bracket u v z) right
          where
            negated : (a : ℤ) → a <ℤ pos 0 → pos 0 <ℤ (pos 0 -ℤ a)
            negated a h = omega (arith, ints)

        at : Fraction
        at = mixed k y l z (mix_positive k l y.w z.w k_above start y.positive z.positive)

        of_at : (s t : Fraction) → bracket s t at ≡ k *ℤ bracket s t y +ℤ l *ℤ bracket s t z
        of_at s t = bracket-mixed s t k y l z
            (mix_positive k l y.w z.w k_above start y.positive z.positive)

        least_sum : (a b : ℤ) → pos 0 ≤ℤ a → pos 0 ≤ℤ b → pos 0 ≤ℤ (a +ℤ b)
        least_sum a b h i = omega (arith, ints)

        zero : bracket u v at ≡ pos 0
        zero = of_at u v ∙ cancels (bracket u v y) (bracket u v z)
          where
            cancels : (a b : ℤ) → (pos 0 -ℤ b) *ℤ a +ℤ a *ℤ b ≡ pos 0
            cancels a b = ring_in (a ∷ b ∷ []) (λ a b. (num 0 ⊖ b) ⊗ a ⊕ a ⊗ b) (λ a b. num 0) tt

        moved : (n k l i j z y q x : ℤ) → n *ℤ z ≡ i *ℤ y +ℤ j *ℤ q → x ≡ k *ℤ y +ℤ l *ℤ z
            → n *ℤ x ≡ (n *ℤ k +ℤ l *ℤ i) *ℤ y +ℤ (l *ℤ j) *ℤ q
        moved n k l i j z y q x e d =
            ring_in_from (n ∷ k ∷ l ∷ i ∷ j ∷ z ∷ y ∷ q ∷ x ∷ []) (λ n k l i j z y q x. n ⊗ x)
            (λ n k l i j z y q x. (n ⊗ k ⊕ l ⊗ i) ⊗ y ⊕ (l ⊗ j) ⊗ q)
            (λ n k l i j z y q x. (l, n ⊗ z, i ⊗ y ⊕ j ⊗ q) ∷ (n, x, k ⊗ y ⊕ l ⊗ z) ∷ [])
            (e, (d, tt)) tt

        end_right : bracket u v q <ℤ pos 0
        end_right = elim (lt_or_ge_ℤ (bracket u v q) (pos 0)) [
          | inl h ↦ h
          | inr h ↦ absurd (right_not_above right (sum_least on.n on.k on.l (bracket u v z)
              (bracket u v y) (bracket u v q) on.n_above (on.along u v) on.k_least start on.l_least
              h))
        ]

    cut_of : Cut z
    cut_of = elim (lt_or_ge_ℤ (bracket u v z) (pos 0)) [
      | inl h ↦ cut_at h
      | inr h ↦ record {
        at = z;
        on = on;
        least = h;
        keeps = λ s t hy hz. hz;
        cut = inl refl;
      }
    ]

-- ---- the last point of a closed triangle on the way from one of its points to q
module _ (a b c q : Fraction) where
  -- x is on a side, which q is right of
  abbrev pub Leaves : Fraction → Type 0
  Leaves x = ((bracket a b x ≡ pos 0) × (bracket a b q <ℤ pos 0))
      ⊎ (((bracket b c x ≡ pos 0) × (bracket b c q <ℤ pos 0))
      ⊎ ((bracket c a x ≡ pos 0) × (bracket c a q <ℤ pos 0)))

  -- a point of the way that is in the triangle: the end, or where the way leaves it
  pub record Exit (y : Fraction) : Type 0 where
    pub at : Fraction
    pub on : OnSide y q at
    pub closed : Closed a b c at
    pub ends : (at ≡ q) ⊎ Leaves at

  pub exit_of : (y : Fraction) → Closed a b c y → Exit y
  exit_of y h = record {
    at = third.at;
    on = third.on;
    closed = record {
      first = third.keeps a b h.first (second.keeps a b h.first first.least);
      second = third.keeps b c h.second second.least;
      third = third.least;
    };
    ends = by_third third.cut;
  }
    where
      first : Cut a b y q h.first q
      first = cut_of a b y q h.first q (end_on_side y q)

      second : Cut b c y q h.second first.at
      second = cut_of b c y q h.second first.at first.on

      third : Cut c a y q h.third second.at
      third = cut_of c a y q h.third second.at second.on

      by_first : (x : Fraction) → x ≡ first.at
          → (first.at ≡ q) ⊎ ((bracket a b first.at ≡ pos 0) × (bracket a b q <ℤ pos 0))
          → (x ≡ q) ⊎ Leaves x
      by_first x e (inl d) = inl (e ∙ d)
      by_first x e (inr s) = inr (inl (subst (λ z. bracket a b z ≡ pos 0) (sym e) s.0, s.1))

      by_second : (x : Fraction) → x ≡ second.at
          → (second.at ≡ first.at) ⊎ ((bracket b c second.at ≡ pos 0) × (bracket b c q <ℤ pos 0))
          → (x ≡ q) ⊎ Leaves x
      by_second x e (inl d) = by_first x (e ∙ d) first.cut
      by_second x e (inr s) = inr (inr (inl (subst (λ z. bracket b c z ≡ pos 0) (sym e) s.0, s.1)))

      by_third : (third.at ≡ second.at)
          ⊎ ((bracket c a third.at ≡ pos 0) × (bracket c a q <ℤ pos 0))
          → (third.at ≡ q) ⊎ Leaves third.at
      by_third (inl e) = by_second third.at e second.cut
      by_third (inr s) = inr (inr (inr s))
