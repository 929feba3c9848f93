-- Through a side of a face: the face beyond it, the side at which a way leaves a face, and the next
-- point of a walk.
-- Notions: Exit; halfway, between-halfway, exit, not_second, face_across.
use Prim.Native.Nat.{ℕ}
use lib.IntN.{ℤ, pos, ◌+ℤ◌, ◌-ℤ◌, ◌*ℤ◌, neg_ℤ}
use lib.Signed.{◌<ℤ◌, ◌≤ℤ◌}
use mathlib.Core.Path.{◌≡◌, subst₂}
use mathlib.Core.Logic.{◌⊎◌, inl, inr}
use mathlib.Core.List.{[], ◌∷◌}
use native.Mathlib.Omega.{arith}
use borrow.Author.Differences.{ints}
use Rattle.plane.specs.{Fraction}
use Rattle.plane.proofs.{◌⊕◌, ◌⊖◌, ◌⊗◌, above, below, left_not_zero, lt_or_ge_ℤ, mul-neg_ℤ}
use Rattle.plane.proofs.{mul-nonneg_ℤ, mul-pos_ℤ, neg-mul_ℤ, none, not_positive_or_positive}
use Rattle.plane.proofs.{not_right_strict, num, product_zero_left, right_not_above, ring_in}
use Rattle.plane.proofs.{ring_in_from, sign, times_one, weak, weak_right, ⊝}
use Rattle.plane_theorems.proofs.Delaunay.Points.Bracket.{bracket, cramer, cramer-w}
use Rattle.plane_theorems.proofs.Delaunay.Points.Nudges.{bracket-nudge, Closed, nudge}
use Rattle.plane_theorems.proofs.Delaunay.Tilings.Across.{IsClear, sides_same}
use Rattle.plane_theorems.proofs.Delaunay.Tilings.Faces.{Between, between-closed, between-on}
use Rattle.plane_theorems.proofs.Delaunay.Tilings.Faces.{corner_2, Germ, germ, germ-closed}
use Rattle.plane_theorems.proofs.Delaunay.Tilings.Faces.{germ-turned, none_within, side_not_inside}
use Rattle.plane_theorems.proofs.Delaunay.Tilings.Faces.{StartsFrom, Tiling}

-- ---- numbers
corner_sum : (d x p u r v q w n k a l b : ℤ) → d *ℤ x ≡ p *ℤ u +ℤ r *ℤ v +ℤ q *ℤ w
    → n *ℤ x ≡ k *ℤ a +ℤ l *ℤ b → p ≡ pos 0 → q ≡ pos 0 → n *ℤ r *ℤ v ≡ d *ℤ k *ℤ a +ℤ d *ℤ l *ℤ b
corner_sum d x p u r v q w n k a l b e₁ e₂ e₃ e₄ =
    ring_in_from (d ∷ x ∷ p ∷ u ∷ r ∷ v ∷ q ∷ w ∷ n ∷ k ∷ a ∷ l ∷ b ∷ [])
    (λ d x p u r v q w n k a l b. n ⊗ r ⊗ v) (λ d x p u r v q w n k a l b. d ⊗ k ⊗ a ⊕ d ⊗ l ⊗ b)
    (λ d x p u r v q w n k a l b. (⊝ n, d ⊗ x, p ⊗ u ⊕ r ⊗ v ⊕ q ⊗ w) ∷ (d, n ⊗ x, k ⊗ a ⊕ l ⊗ b)
    ∷ (⊝ (n ⊗ u), p, num 0) ∷ (⊝ (n ⊗ w), q, num 0) ∷ [])
    (e₁, (e₂, (e₃, (e₄, tt)))) tt

above_weight : (d x p u r v q w : ℤ) → d *ℤ x ≡ p *ℤ u +ℤ r *ℤ v +ℤ q *ℤ w → p ≡ pos 0 → q ≡ pos 0
    → v ≡ pos 1 → pos 0 <ℤ d → pos 0 <ℤ x → pos 0 <ℤ r
above_weight d x p u r v q w e i j o h k =
    let a = product_zero_left u i in let b = product_zero_left w j in let c = times_one r v o in
    let f = mul-pos_ℤ {a = d} {b = x} h k in omega (arith, ints)

one_each : (t x y : ℤ) → t ≡ pos 1 *ℤ x +ℤ y → pos 1 *ℤ t ≡ pos 1 *ℤ x +ℤ pos 1 *ℤ y
one_each t x y e = omega (arith, ints)

-- halfway between two points
pub halfway : Fraction → Fraction → Fraction
halfway a b = nudge 1 a b

-- the point in the middle is strictly between the two, for each linear form
pub between-halfway : (a b : Fraction) → Between a b (halfway a b)
unfolding halfway
between-halfway a b = record {
  n = pos 1;
  k = pos 1;
  l = pos 1;
  n_above = record { lt = tt };
  k_above = record { lt = tt };
  l_above = record { lt = tt };
  along = λ u v. one_each _ (bracket u v a) (bracket u v b) (bracket-nudge u v 1 a b);
}

-- ---- the first of three sides that a way from values s to values t passes below 0
-- the way stays inside, or passes one of the three sides first
pub data Exit (s₁ t₁ s₂ t₂ s₃ t₃ : ℤ) : Type 0 where
  stays : pos 0 ≤ℤ t₁ → pos 0 ≤ℤ t₂ → pos 0 ≤ℤ t₃ → Exit s₁ t₁ s₂ t₂ s₃ t₃
  by_first : t₁ <ℤ pos 0 → pos 0 ≤ℤ (s₁ *ℤ t₂ -ℤ t₁ *ℤ s₂) → pos 0 ≤ℤ (s₁ *ℤ t₃ -ℤ t₁ *ℤ s₃)
      → Exit s₁ t₁ s₂ t₂ s₃ t₃
  by_second : t₂ <ℤ pos 0 → pos 0 ≤ℤ (s₂ *ℤ t₃ -ℤ t₂ *ℤ s₃) → pos 0 ≤ℤ (s₂ *ℤ t₁ -ℤ t₂ *ℤ s₁)
      → Exit s₁ t₁ s₂ t₂ s₃ t₃
  by_third : t₃ <ℤ pos 0 → pos 0 ≤ℤ (s₃ *ℤ t₁ -ℤ t₃ *ℤ s₁) → pos 0 ≤ℤ (s₃ *ℤ t₂ -ℤ t₃ *ℤ s₂)
      → Exit s₁ t₁ s₂ t₂ s₃ t₃

ahead : (s t s' t' : ℤ) → pos 0 ≤ℤ s → t <ℤ pos 0 → pos 0 ≤ℤ s' → pos 0 ≤ℤ t'
    → pos 0 ≤ℤ (s *ℤ t' -ℤ t *ℤ s')
ahead s t s' t' hs ht hs' ht' = let p = mul-nonneg_ℤ {a = s} {b = t'} hs ht' in
    let q = mul-nonneg_ℤ {a = neg_ℤ t} {b = s'} (omega (arith, ints)) hs' in
    omega (arith, ints, neg-mul_ℤ t s')

other_way : (s t s' t' : ℤ) → s' *ℤ t -ℤ t' *ℤ s ≡ neg_ℤ (s *ℤ t' -ℤ t *ℤ s')
other_way s t s' t' = ring_in (s ∷ t ∷ s' ∷ t' ∷ []) (λ s t s' t'. s' ⊗ t ⊖ t' ⊗ s)
    (λ s t s' t'. ⊝ (s ⊗ t' ⊖ t ⊗ s')) tt

turned_way : (s t s' t' : ℤ) → (s *ℤ t' -ℤ t *ℤ s') ≤ℤ pos 0 → pos 0 ≤ℤ (s' *ℤ t -ℤ t' *ℤ s)
turned_way s t s' t' h = let e = other_way s t s' t' in omega (arith, ints)

round_way : (s₁ t₁ s₂ t₂ s₃ t₃ : ℤ) → t₃ *ℤ (s₁ *ℤ t₂ -ℤ t₁ *ℤ s₂) +ℤ t₁ *ℤ (s₂ *ℤ t₃ -ℤ t₂ *ℤ s₃)
    +ℤ t₂ *ℤ (s₃ *ℤ t₁ -ℤ t₃ *ℤ s₁) ≡ pos 0
round_way s₁ t₁ s₂ t₂ s₃ t₃ =
    ring_in (s₁ ∷ t₁ ∷ s₂ ∷ t₂ ∷ s₃ ∷ t₃ ∷ []) (λ s₁ t₁ s₂ t₂ s₃ t₃. t₃ ⊗ (s₁ ⊗ t₂ ⊖ t₁ ⊗ s₂) ⊕ t₁
    ⊗ (s₂ ⊗ t₃ ⊖ t₂ ⊗ s₃) ⊕ t₂ ⊗ (s₃ ⊗ t₁ ⊖ t₃ ⊗ s₁)) (λ s₁ t₁ s₂ t₂ s₃ t₃. num 0) tt

-- three numbers below 0 times three of one sign do not sum to 0
no_round_left : (t₁ t₂ t₃ d₁ d₂ d₃ : ℤ) → t₁ <ℤ pos 0 → t₂ <ℤ pos 0 → t₃ <ℤ pos 0
    → t₃ *ℤ d₁ +ℤ t₁ *ℤ d₂ +ℤ t₂ *ℤ d₃ ≡ pos 0 → pos 0 ≤ℤ d₁ → pos 0 <ℤ d₂ → pos 0 <ℤ d₃ → ⊥
no_round_left t₁ t₂ t₃ d₁ d₂ d₃ h₁ h₂ h₃ e k₁ k₂ k₃ =
    let p = mul-nonneg_ℤ {a = neg_ℤ t₃} {b = d₁} (omega (arith, ints)) k₁ in
    let q = mul-pos_ℤ {a = neg_ℤ t₁} {b = d₂} (omega (arith, ints)) k₂ in
    let r = mul-pos_ℤ {a = neg_ℤ t₂} {b = d₃} (omega (arith, ints)) k₃ in
    omega (arith, ints, neg-mul_ℤ t₃ d₁, neg-mul_ℤ t₁ d₂, neg-mul_ℤ t₂ d₃)

no_round_right : (t₁ t₂ t₃ d₁ d₂ d₃ : ℤ) → t₁ <ℤ pos 0 → t₂ <ℤ pos 0 → t₃ <ℤ pos 0
    → t₃ *ℤ d₁ +ℤ t₁ *ℤ d₂ +ℤ t₂ *ℤ d₃ ≡ pos 0 → d₁ <ℤ pos 0 → d₂ <ℤ pos 0 → d₃ <ℤ pos 0 → ⊥
no_round_right t₁ t₂ t₃ d₁ d₂ d₃ h₁ h₂ h₃ e k₁ k₂ k₃ =
    let p = mul-pos_ℤ {a = neg_ℤ t₃} {b = neg_ℤ d₁} (omega (arith, ints)) (omega (arith, ints)) in
    let q = mul-pos_ℤ {a = neg_ℤ t₁} {b = neg_ℤ d₂} (omega (arith, ints)) (omega (arith, ints)) in
    let r = mul-pos_ℤ {a = neg_ℤ t₂} {b = neg_ℤ d₃} (omega (arith, ints)) (omega (arith, ints)) in
    omega (
      arith,
      ints,
      neg-mul_ℤ t₃ (neg_ℤ d₁),
      neg-mul_ℤ t₁ (neg_ℤ d₂),
      neg-mul_ℤ t₂ (neg_ℤ d₃),
      mul-neg_ℤ t₃ d₁,
      mul-neg_ℤ t₁ d₂,
      mul-neg_ℤ t₂ d₃,
    )

-- where no s is below 0, no t is, or there is a first side that the way passes
pub exit : (s₁ t₁ s₂ t₂ s₃ t₃ : ℤ) → pos 0 ≤ℤ s₁ → pos 0 ≤ℤ s₂ → pos 0 ≤ℤ s₃
    → Exit s₁ t₁ s₂ t₂ s₃ t₃
exit s₁ t₁ s₂ t₂ s₃ t₃ h₁ h₂ h₃ =
    go (lt_or_ge_ℤ t₁ (pos 0)) (lt_or_ge_ℤ t₂ (pos 0)) (lt_or_ge_ℤ t₃ (pos 0))
  where
    three : t₁ <ℤ pos 0 → t₂ <ℤ pos 0 → t₃ <ℤ pos 0
        → ((s₁ *ℤ t₂ -ℤ t₁ *ℤ s₂) <ℤ pos 0) ⊎ (pos 0 ≤ℤ (s₁ *ℤ t₂ -ℤ t₁ *ℤ s₂))
        → ((s₂ *ℤ t₃ -ℤ t₂ *ℤ s₃) ≤ℤ pos 0) ⊎ (pos 0 <ℤ (s₂ *ℤ t₃ -ℤ t₂ *ℤ s₃))
        → ((s₃ *ℤ t₁ -ℤ t₃ *ℤ s₁) ≤ℤ pos 0) ⊎ (pos 0 <ℤ (s₃ *ℤ t₁ -ℤ t₃ *ℤ s₁))
        → ((s₂ *ℤ t₃ -ℤ t₂ *ℤ s₃) <ℤ pos 0) ⊎ (pos 0 ≤ℤ (s₂ *ℤ t₃ -ℤ t₂ *ℤ s₃))
        → ((s₃ *ℤ t₁ -ℤ t₃ *ℤ s₁) <ℤ pos 0) ⊎ (pos 0 ≤ℤ (s₃ *ℤ t₁ -ℤ t₃ *ℤ s₁))
        → Exit s₁ t₁ s₂ t₂ s₃ t₃
    three k₁ k₂ k₃ (inr a) b (inl c) d e = by_first k₁ a (turned_way s₃ t₃ s₁ t₁ c)
    three k₁ k₂ k₃ (inr a) (inl b) (inr c) d e = by_third k₃ (weak c) (turned_way s₂ t₂ s₃ t₃ b)
    three k₁ k₂ k₃ (inr a) (inr b) (inr c) d e =
        absurd (no_round_left t₁ t₂ t₃ _ _ _ k₁ k₂ k₃ (round_way s₁ t₁ s₂ t₂ s₃ t₃) a b c)
    three k₁ k₂ k₃ (inl a) b c (inr d) e = by_second k₂ d (turned_way s₁ t₁ s₂ t₂ (weak_right a))
    three k₁ k₂ k₃ (inl a) b c (inl d) (inr e) =
        by_third k₃ e (turned_way s₂ t₂ s₃ t₃ (weak_right d))
    three k₁ k₂ k₃ (inl a) b c (inl d) (inl e) =
        absurd (no_round_right t₁ t₂ t₃ _ _ _ k₁ k₂ k₃ (round_way s₁ t₁ s₂ t₂ s₃ t₃) a d e)

    go : (t₁ <ℤ pos 0) ⊎ (pos 0 ≤ℤ t₁) → (t₂ <ℤ pos 0) ⊎ (pos 0 ≤ℤ t₂)
        → (t₃ <ℤ pos 0) ⊎ (pos 0 ≤ℤ t₃) → Exit s₁ t₁ s₂ t₂ s₃ t₃
    go (inr a) (inr b) (inr c) = stays a b c
    go (inl a) (inr b) (inr c) =
        by_first a (ahead s₁ t₁ s₂ t₂ h₁ a h₂ b) (ahead s₁ t₁ s₃ t₃ h₁ a h₃ c)
    go (inr a) (inl b) (inr c) =
        by_second b (ahead s₂ t₂ s₃ t₃ h₂ b h₃ c) (ahead s₂ t₂ s₁ t₁ h₂ b h₁ a)
    go (inr a) (inr b) (inl c) =
        by_third c (ahead s₃ t₃ s₁ t₁ h₃ c h₁ a) (ahead s₃ t₃ s₂ t₂ h₃ c h₂ b)
    go (inl a) (inl b) (inr c) = two (lt_or_ge_ℤ (s₁ *ℤ t₂ -ℤ t₁ *ℤ s₂) (pos 0))
      where
        two : ((s₁ *ℤ t₂ -ℤ t₁ *ℤ s₂) <ℤ pos 0) ⊎ (pos 0 ≤ℤ (s₁ *ℤ t₂ -ℤ t₁ *ℤ s₂))
            → Exit s₁ t₁ s₂ t₂ s₃ t₃
        two (inr d) = by_first a d (ahead s₁ t₁ s₃ t₃ h₁ a h₃ c)
        two (inl d) =
            by_second b (ahead s₂ t₂ s₃ t₃ h₂ b h₃ c) (turned_way s₁ t₁ s₂ t₂ (weak_right d))
    go (inr a) (inl b) (inl c) = two (lt_or_ge_ℤ (s₂ *ℤ t₃ -ℤ t₂ *ℤ s₃) (pos 0))
      where
        two : ((s₂ *ℤ t₃ -ℤ t₂ *ℤ s₃) <ℤ pos 0) ⊎ (pos 0 ≤ℤ (s₂ *ℤ t₃ -ℤ t₂ *ℤ s₃))
            → Exit s₁ t₁ s₂ t₂ s₃ t₃
        two (inr d) = by_second b d (ahead s₂ t₂ s₁ t₁ h₂ b h₁ a)
        two (inl d) =
            by_third c (ahead s₃ t₃ s₁ t₁ h₃ c h₁ a) (turned_way s₂ t₂ s₃ t₃ (weak_right d))
    go (inl a) (inr b) (inl c) = two (lt_or_ge_ℤ (s₃ *ℤ t₁ -ℤ t₃ *ℤ s₁) (pos 0))
      where
        two : ((s₃ *ℤ t₁ -ℤ t₃ *ℤ s₁) <ℤ pos 0) ⊎ (pos 0 ≤ℤ (s₃ *ℤ t₁ -ℤ t₃ *ℤ s₁))
            → Exit s₁ t₁ s₂ t₂ s₃ t₃
        two (inr d) = by_third c d (ahead s₃ t₃ s₂ t₂ h₃ c h₂ b)
        two (inl d) =
            by_first a (ahead s₁ t₁ s₂ t₂ h₁ a h₂ b) (turned_way s₃ t₃ s₁ t₁ (weak_right d))
    go (inl a) (inl b) (inl c) = three a b c (lt_or_ge_ℤ (s₁ *ℤ t₂ -ℤ t₁ *ℤ s₂) (pos 0))
        (not_positive_or_positive (s₂ *ℤ t₃ -ℤ t₂ *ℤ s₃))
        (not_positive_or_positive (s₃ *ℤ t₁ -ℤ t₃ *ℤ s₁))
        (lt_or_ge_ℤ (s₂ *ℤ t₃ -ℤ t₂ *ℤ s₃) (pos 0)) (lt_or_ge_ℤ (s₃ *ℤ t₁ -ℤ t₃ *ℤ s₁) (pos 0))

module _ (T : Tiling) where
  open T use {at, IsVertex, IsFace, InHull}

  -- a point strictly within a side is no corner of another face: here not the second
  pub not_second : (a b u v w : ℕ) (x : Fraction) → IsClear T a b → IsFace u v w
      → Between (at a) (at b) x → bracket (at u) (at v) x ≡ pos 0
      → ¬ (bracket (at v) (at w) x ≡ pos 0)
  not_second a b u v w x clear g m p q =
      let t = T.turns u v w g in
      let r = above_weight (bracket (at u) (at v) (at w)) x.w (bracket (at v) (at w) x) (at u).w
      (bracket (at w) (at u) x) (at v).w (bracket (at u) (at v) x) (at w).w
      (cramer-w (at u) (at v) (at w) x) q p (T.whole v) t x.positive in
      clear v (corner_2 T u v w g) (record {
        n = m.n *ℤ bracket (at w) (at u) x;
        k = bracket (at u) (at v) (at w) *ℤ m.k;
        l = bracket (at u) (at v) (at w) *ℤ m.l;
        n_above = mul-pos_ℤ m.n_above r;
        k_above = mul-pos_ℤ t m.k_above;
        l_above = mul-pos_ℤ t m.l_above;
        along = λ s z. corner_sum (bracket (at u) (at v) (at w)) (bracket s z x) (bracket (at v)
            (at w) x) (bracket s z (at u)) (bracket (at w) (at u) x) (bracket s z (at v))
            (bracket (at u) (at v) x) (bracket s z (at w)) m.n m.k (bracket s z (at a)) m.l
            (bracket s z (at b)) (cramer (at u) (at v) (at w) x s z) (m.along s z) q p;
      })

  across_at : (a b c d : ℕ) (x : Fraction) → IsFace a b c → bracket (at a) (at b) (at d) <ℤ pos 0
      → Between (at a) (at b) x → (i j k : ℕ) × IsFace i j k × Germ T x (at d) i j k
      → (e : ℕ) × IsFace b a e
  across_at a b c d x f right m g = go g.0 g.1 g.2 g.3 g.4 (sign (bracket (at g.0) (at g.1) x))
      (sign (bracket (at g.1) (at g.2) x)) (sign (bracket (at g.2) (at g.0) x))
    where
      clear : IsClear T a b
      clear n = none_within T a b c n f

      same_way : (u v w : ℕ) → StartsFrom T x (at d) u v → bracket (at u) (at v) x ≡ pos 0
          → u ≡ a → v ≡ b → ⊥
      same_way u v w s z e₁ e₂ = from s.starts
        where
          from : (pos 0 <ℤ bracket (at u) (at v) x)
              ⊎ ((bracket (at u) (at v) x ≡ pos 0) × (pos 0 ≤ℤ bracket (at u) (at v) (at d))) → ⊥
          from (inl h) = left_not_zero h z
          from (inr h) = right_not_above right
              (subst₂ (λ i j. pos 0 ≤ℤ bracket (at i) (at j) (at d)) e₁ e₂ h.1)

      found : (u v w : ℕ) → IsFace u v w → Germ T x (at d) u v w → bracket (at u) (at v) x ≡ pos 0
          → (e : ℕ) × IsFace b a e
      found u v w h s z = pick (sides_same T a b c u v w x f h m z
          (not_right_strict closed.second (not_second a b u v w x clear h m z))
          (not_right_strict closed.third
          (λ y. not_second a b w u v x clear (T.turned v w u (T.turned u v w h)) m y z)))
        where
          closed : Closed (at u) (at v) (at w) x
          closed = germ-closed T x (at d) u v w s

          pick : ((u ≡ a) × (v ≡ b)) ⊎ ((u ≡ b) × (v ≡ a)) → (e : ℕ) × IsFace b a e
          pick (inl e) = absurd (same_way u v w s.first z e.0 e.1)
          pick (inr e) = (w, subst₂ (λ i j. IsFace i j w) e.0 e.1 h)

      go : (u v w : ℕ) → IsFace u v w → Germ T x (at d) u v w
          → Rattle.plane.proofs.IntegerOrder.Sign (bracket (at u) (at v) x)
          → Rattle.plane.proofs.IntegerOrder.Sign (bracket (at v) (at w) x)
          → Rattle.plane.proofs.IntegerOrder.Sign (bracket (at w) (at u) x) → (e : ℕ) × IsFace b a e
      go u v w h s (none z) q r = found u v w h s z
      go u v w h s p (none z) r = found v w u (T.turned u v w h) (germ-turned T x (at d) u v w s) z
      go u v w h s p q (none z) = found w u v (T.turned v w u (T.turned u v w h))
          (germ-turned T x (at d) v w u (germ-turned T x (at d) u v w s)) z
      go u v w h s (below p) q r = absurd (right_not_above p (germ-closed T x (at d) u v w s).first)
      go u v w h s p (below q) r =
          absurd (right_not_above q (germ-closed T x (at d) u v w s).second)
      go u v w h s p q (below r) = absurd (right_not_above r (germ-closed T x (at d) u v w s).third)
      go u v w h s (above p) (above q) (above r) = absurd (side_not_inside T a b c u v w f h x
          (between-closed (at a) (at b) (at c) x m (T.turns a b c f)) (between-on (at a) (at b) x m)
          (record { first = p; second = q; third = r }))

  -- a vertex on the right of a side: the side has a face on its right
  pub face_across : (a b c d : ℕ) → IsFace a b c → IsVertex d
      → bracket (at a) (at b) (at d) <ℤ pos 0 → (e : ℕ) × IsFace b a e
  unfolding halfway
  face_across a b c d f vd right =
      across_at a b c d (halfway (at a) (at b)) f right (between-halfway (at a) (at b))
      (germ T (halfway (at a) (at b)) (at d) (T.nudge_in_hull 1 (at a) (at b) (T.vertex_in_hull a
      (T.corner a b c f)) (T.vertex_in_hull b (corner_2 T a b c f))) (T.vertex_in_hull d vd))
