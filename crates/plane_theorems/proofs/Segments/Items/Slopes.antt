-- Along a segment a bracket rises or falls evenly: the order of its points by the sides of another
-- line.
-- Lemmas: slope, slope_above, even, evenly, later_is_higher, higher_is_later, left_along,
-- left_from, left_before, slope_between, left_until.
use Rattle.std.proofs.Common.{◌≡◌, [], ◌∷◌, arith, sym, ◌∙◌, subst}
use mathlib.Core.Logic.{◌⊎◌, inl, inr}
use lib.IntN.{neg_ℤ}
use Rattle.std.specs.Prelude.{ℤ, pos, ◌<ℤ◌, ◌≤ℤ◌, ◌+ℤ◌, ◌-ℤ◌, ◌*ℤ◌}
use Rattle.std.proofs.lemmas.Int.{ints}
use Rattle.plane.specs.{Fraction, IsNearer, IsNotNegative, IsSame, OnSegment}
use Rattle.plane.proofs.{◌⊕◌, ◌⊖◌, ◌⊗◌, difference_is_positive, IsWhole, less_by_difference}
use Rattle.plane.proofs.{mul-nonneg_ℤ, mul-nonpos_of_nonneg_nonpos_ℤ, mul-pos_ℤ, neg-mul_ℤ, num}
use Rattle.plane.proofs.{on_segment_is, pos_of_mul-pos_ℤ, product_zero_left, reach, reach-end}
use Rattle.plane.proofs.{ring_in, ring_in_from, trichotomy_ℤ, two_weights, weak, weak_right}
use Rattle.plane.proofs.{Segments.weights_w, weights_x, weights_y, zero_weak}
use Rattle.plane_theorems.proofs.Delaunay.Circles.EmptyCircles.{weights_along}
use Rattle.plane_theorems.proofs.Delaunay.Points.AlongSegment.{nearer_if, reach_less}
use Rattle.plane_theorems.proofs.Delaunay.Points.Bracket.{bracket}

-- how much the side of the line u v rises from p to q
unfoldable pub slope : Fraction → Fraction → Fraction → Fraction → ℤ
slope u v p q = bracket u v q *ℤ p.w -ℤ bracket u v p *ℤ q.w

-- from a point on the right of a line to one that is not, the slope is above 0
pub slope_above : (u v p q : Fraction) → bracket u v p <ℤ pos 0 → pos 0 ≤ℤ bracket u v q
    → pos 0 <ℤ slope u v p q
unfolding slope
slope_above u v p q low high =
    rise (bracket u v q) (bracket u v p) p.w q.w high low p.positive q.positive
  where
    rise : (f g pw qw : ℤ) → pos 0 ≤ℤ f → g <ℤ pos 0 → pos 0 <ℤ pw → pos 0 <ℤ qw
        → pos 0 <ℤ (f *ℤ pw -ℤ g *ℤ qw)
    rise f g pw qw hf hg hp hq = let m = mul-nonneg_ℤ {a = f} {b = pw} hf (weak hp) in
        let n = mul-pos_ℤ {a = neg_ℤ g} {b = qw} (omega (arith, ints)) hq in
        let c = neg-mul_ℤ g qw in omega (arith, ints)

-- between two means of p and q, a linear form rises by the way between them times its whole rise
pub even : (l pw qw xw zw rx rz fp fq fx fz : ℤ) → (l *ℤ pw) *ℤ fx ≡ (l *ℤ xw -ℤ rx *ℤ qw) *ℤ fp
    +ℤ (rx *ℤ pw) *ℤ fq → (l *ℤ pw) *ℤ fz ≡ (l *ℤ zw -ℤ rz *ℤ qw) *ℤ fp +ℤ (rz *ℤ pw) *ℤ fq
    → (l *ℤ pw) *ℤ (fz *ℤ xw -ℤ fx *ℤ zw) ≡ (rz *ℤ xw -ℤ rx *ℤ zw) *ℤ (fq *ℤ pw -ℤ fp *ℤ qw)
even l pw qw xw zw rx rz fp fq fx fz e d =
    ring_in_from (l ∷ pw ∷ qw ∷ xw ∷ zw ∷ rx ∷ rz ∷ fp ∷ fq ∷ fx ∷ fz ∷ [])
    (λ l pw qw xw zw rx rz fp fq fx fz. (l ⊗ pw) ⊗ (fz ⊗ xw ⊖ fx ⊗ zw))
    (λ l pw qw xw zw rx rz fp fq fx fz. (rz ⊗ xw ⊖ rx ⊗ zw) ⊗ (fq ⊗ pw ⊖ fp ⊗ qw))
    (λ l pw qw xw zw rx rz fp fq fx fz. (
      num 0 ⊖ zw,
      (l ⊗ pw) ⊗ fx,
      (l ⊗ xw ⊖ rx ⊗ qw) ⊗ fp ⊕ (rx ⊗ pw) ⊗ fq,
    )
    ∷ (xw, (l ⊗ pw) ⊗ fz, (l ⊗ zw ⊖ rz ⊗ qw) ⊗ fp ⊕ (rz ⊗ pw) ⊗ fq) ∷ []) (e, (d, tt)) tt

module _ (p q : Fraction) (apart : ¬ IsSame p q) where
  along : (u v z : Fraction) → OnSegment p q z
      → (reach p q q *ℤ p.w) *ℤ bracket u v z ≡ (reach p q q *ℤ z.w -ℤ reach p q z *ℤ q.w)
      *ℤ bracket u v p +ℤ (reach p q z *ℤ p.w) *ℤ bracket u v q
  along u v z h = let on = ((on_segment_is p q z apart).0 h).0 in
      weights_along IsWhole p q z (record {
        k = reach p q q *ℤ z.w -ℤ reach p q z *ℤ q.w;
        l = reach p q z *ℤ p.w;
        n = reach p q q *ℤ p.w;
        k_allowed = record {};
        l_allowed = record {};
        positive = mul-pos_ℤ (reach-end p q apart) p.positive;
        x = weights_x p q z on;
        y = weights_y p q z on;
        w = weights_w (reach p q q) (reach p q z) p.w q.w z.w;
      }) u v

  -- along the segment the side of a line changes evenly with the way
  pub evenly : (u v x z : Fraction) → OnSegment p q x → OnSegment p q z
      → (reach p q q *ℤ p.w) *ℤ (bracket u v z *ℤ x.w -ℤ bracket u v x *ℤ z.w)
      ≡ (reach p q z *ℤ x.w -ℤ reach p q x *ℤ z.w) *ℤ slope u v p q
  unfolding slope
  evenly u v x z hx hz =
      even (reach p q q) p.w q.w x.w z.w (reach p q x) (reach p q z) (bracket u v p) (bracket u v q)
      (bracket u v x) (bracket u v z) (along u v x hx) (along u v z hz)

  length_above : pos 0 <ℤ (reach p q q *ℤ p.w)
  length_above = mul-pos_ℤ (reach-end p q apart) p.positive

  -- where it rises, a later point is higher
  pub later_is_higher : (u v x z : Fraction) → OnSegment p q x → OnSegment p q z → IsNearer p x z
      → pos 0 <ℤ slope u v p q → pos 0 ≤ℤ bracket u v x → pos 0 <ℤ bracket u v z
  later_is_higher u v x z hx hz near rising high =
      pos_of_mul-pos_ℤ {k = x.w} {x = bracket u v z} x.positive
      (high_sum (bracket u v z *ℤ x.w) (bracket u v x *ℤ z.w) (x.w *ℤ bracket u v z)
      (lib.IntN.*ℤ_comm x.w (bracket u v z))
      (pos_of_mul-pos_ℤ {k = reach p q q *ℤ p.w} length_above
      (subst (λ n. pos 0 <ℤ n) (sym (evenly u v x z hx hz))
      (mul-pos_ℤ (difference_is_positive _ _ (reach_less p q apart x z hx hz near)) rising)))
      (mul-nonneg_ℤ {a = bracket u v x} {b = z.w} high (weak z.positive)))
    where
      high_sum : (a b c : ℤ) → c ≡ a → pos 0 <ℤ (a -ℤ b) → pos 0 ≤ℤ b → pos 0 <ℤ c
      high_sum a b c e h k = omega (arith, ints)

  -- and a higher point is later
  pub higher_is_later : (u v x z : Fraction) → OnSegment p q x → OnSegment p q z
      → pos 0 <ℤ slope u v p q → bracket u v x ≤ℤ pos 0 → pos 0 <ℤ bracket u v z → IsNearer p x z
  higher_is_later u v x z hx hz rising low high = nearer_if p q apart x z hx hz
      (less_by_difference _ _ (pos_of_mul-pos_ℤ {k = slope u v p q} rising
      (subst (λ n. pos 0 <ℤ n) (evenly u v x z hx hz ∙ lib.IntN.*ℤ_comm _ (slope u v p q))
      (mul-pos_ℤ length_above (rises (bracket u v z *ℤ x.w) (bracket u v x) z.w
      (mul-pos_ℤ high x.positive) low z.positive)))))
    where
      rises : (a b w : ℤ) → pos 0 <ℤ a → b ≤ℤ pos 0 → pos 0 <ℤ w → pos 0 <ℤ (a -ℤ b *ℤ w)
      rises a b w h k i = let s = mul-nonpos_of_nonneg_nonpos_ℤ {a = w} {b = b} (weak i) k in
          let c = lib.IntN.*ℤ_comm b w in omega (arith, ints)

  -- left at both ends: left all along
  pub left_along : (u v z : Fraction) → OnSegment p q z → pos 0 <ℤ bracket u v p
      → pos 0 <ℤ bracket u v q → pos 0 <ℤ bracket u v z
  left_along u v z h hp hq =
      let w = two_weights IsNotNegative p q z h in go w.n w.k w.l (bracket u v z)
      (weights_along IsNotNegative p q z w u v) w.positive w.k_allowed w.l_allowed (one_above w.n
      w.k w.l z.w p.w q.w w.w w.positive z.positive p.positive q.positive w.k_allowed w.l_allowed)
    where
      one_above : (n k l z p q : ℤ) → n *ℤ z ≡ k *ℤ p +ℤ l *ℤ q → pos 0 <ℤ n → pos 0 <ℤ z
          → pos 0 <ℤ p → pos 0 <ℤ q → pos 0 ≤ℤ k → pos 0 ≤ℤ l → pos 0 <ℤ (k +ℤ l)
      one_above n k l z p q e hn hz hp hq hk hl = pick (trichotomy_ℤ (k +ℤ l))
        where
          none : k +ℤ l ≡ pos 0 → ⊥
          none s = let m = mul-pos_ℤ {a = n} {b = z} hn hz in
              let a = product_zero_left {a = k} p (omega (arith, ints)) in
              let b = product_zero_left {a = l} q (omega (arith, ints)) in omega (arith, ints)

          pick : ((k +ℤ l) <ℤ pos 0) ⊎ ((k +ℤ l ≡ pos 0) ⊎ (pos 0 <ℤ (k +ℤ l))) → pos 0 <ℤ (k +ℤ l)
          pick (inl h) = absurd (omega (arith, ints))
          pick (inr (inl h)) = absurd (none h)
          pick (inr (inr h)) = h

      go : (n k l x : ℤ) → n *ℤ x ≡ k *ℤ bracket u v p +ℤ l *ℤ bracket u v q → pos 0 <ℤ n
          → pos 0 ≤ℤ k → pos 0 ≤ℤ l → pos 0 <ℤ (k +ℤ l) → pos 0 <ℤ x
      go n k l x e hn hk hl hs = pos_of_mul-pos_ℤ {k = n} {x = x} hn
          (let a = mul-nonneg_ℤ {a = k} {b = bracket u v p -ℤ pos 1} hk (omega (arith, ints)) in
          let b = mul-nonneg_ℤ {a = l} {b = bracket u v q -ℤ pos 1} hl (omega (arith, ints)) in
          let c = less_one k (bracket u v p) in let d = less_one l (bracket u v q) in
          omega (arith, ints))
        where
          less_one : (k f : ℤ) → k *ℤ (f -ℤ pos 1) ≡ k *ℤ f -ℤ k
          less_one k f = ring_in (k ∷ f ∷ []) (λ k f. k ⊗ (f ⊖ num 1)) (λ k f. k ⊗ f ⊖ k) tt

  -- left at a point and at the end: left at each point between
  pub left_from : (u v x z : Fraction) → OnSegment p q x → OnSegment p q z → IsNearer p x z
      → pos 0 <ℤ bracket u v x → pos 0 <ℤ bracket u v q → pos 0 <ℤ bracket u v z
  unfolding slope
  left_from u v x z hx hz near h hq = go (trichotomy_ℤ (slope u v p q))
    where
      falling : (bracket u v q *ℤ p.w -ℤ bracket u v p *ℤ q.w) ≤ℤ pos 0 → pos 0 <ℤ bracket u v p
      falling k = pos_of_mul-pos_ℤ {k = q.w} {x = bracket u v p} q.positive
          (let m = mul-pos_ℤ {a = bracket u v q} {b = p.w} hq p.positive in
          let c = lib.IntN.*ℤ_comm (bracket u v p) q.w in omega (arith, ints))

      go : (slope u v p q <ℤ pos 0) ⊎ ((slope u v p q ≡ pos 0) ⊎ (pos 0 <ℤ slope u v p q))
          → pos 0 <ℤ bracket u v z
      go (inl s) = left_along u v z hz (falling (weak_right s)) hq
      go (inr (inl s)) = left_along u v z hz (falling (zero_weak s)) hq
      go (inr (inr s)) = later_is_higher u v x z hx hz near s (weak h)

  -- left at a point, and not at the end: left at the start
  pub left_before : (u v z : Fraction) → OnSegment p q z → pos 0 <ℤ bracket u v z
      → bracket u v q ≤ℤ pos 0 → pos 0 <ℤ bracket u v p
  left_before u v z h high low = let w = two_weights IsNotNegative p q z h in
      go w.n w.k w.l (weights_along IsNotNegative p q z w u v) w.positive w.k_allowed w.l_allowed
    where
      go : (n k l : ℤ) → n *ℤ bracket u v z ≡ k *ℤ bracket u v p +ℤ l *ℤ bracket u v q → pos 0 <ℤ n
          → pos 0 ≤ℤ k → pos 0 ≤ℤ l → pos 0 <ℤ bracket u v p
      go n k l e hn hk hl = pick (trichotomy_ℤ (bracket u v p))
        where
          none : bracket u v p ≤ℤ pos 0 → ⊥
          none s = let m = mul-pos_ℤ {a = n} {b = bracket u v z} hn high in
              let a = mul-nonpos_of_nonneg_nonpos_ℤ {a = k} {b = bracket u v p} hk s in
              let b = mul-nonpos_of_nonneg_nonpos_ℤ {a = l} {b = bracket u v q} hl low in
              omega (arith, ints)

          pick : (bracket u v p <ℤ pos 0) ⊎ ((bracket u v p ≡ pos 0) ⊎ (pos 0 <ℤ bracket u v p))
              → pos 0 <ℤ bracket u v p
          pick (inl s) = absurd (none (weak_right s))
          pick (inr (inl s)) = absurd (none (zero_weak s))
          pick (inr (inr s)) = s

  -- not left at a point and left at a later one: it rises
  pub slope_between : (u v x z : Fraction) → OnSegment p q x → OnSegment p q z → IsNearer p x z
      → bracket u v x ≤ℤ pos 0 → pos 0 <ℤ bracket u v z → pos 0 <ℤ slope u v p q
  slope_between u v x z hx hz near low high =
      pos_of_mul-pos_ℤ {k = reach p q z *ℤ x.w -ℤ reach p q x *ℤ z.w}
      (difference_is_positive _ _ (reach_less p q apart x z hx hz near))
      (subst (λ n. pos 0 <ℤ n) (evenly u v x z hx hz) (mul-pos_ℤ length_above (rises
      (bracket u v z *ℤ x.w) (bracket u v x) z.w (mul-pos_ℤ high x.positive) low z.positive)))
    where
      rises : (a b w : ℤ) → pos 0 <ℤ a → b ≤ℤ pos 0 → pos 0 <ℤ w → pos 0 <ℤ (a -ℤ b *ℤ w)
      rises a b w h k i = let s = mul-nonpos_of_nonneg_nonpos_ℤ {a = w} {b = b} (weak i) k in
          let c = lib.IntN.*ℤ_comm b w in omega (arith, ints)

  -- left at the start and at a point: left at each point before
  pub left_until : (u v z x : Fraction) → OnSegment p q z → OnSegment p q x → IsNearer p z x
      → pos 0 <ℤ bracket u v p → pos 0 <ℤ bracket u v x → pos 0 <ℤ bracket u v z
  unfolding slope
  left_until u v z x hz hx near hp high = go (trichotomy_ℤ (bracket u v q))
    where
      -- where q is not left it falls from z to x
      falls : bracket u v q ≤ℤ pos 0 → pos 0 <ℤ bracket u v z
      falls low = pick (trichotomy_ℤ (bracket u v z))
        where
          none : ¬ (bracket u v z ≤ℤ pos 0)
          none h = both (slope_between u v z x hz hx near h high) low
            where
              both : pos 0 <ℤ slope u v p q → bracket u v q ≤ℤ pos 0 → ⊥
              both s l = under (bracket u v q) (bracket u v p) p.w q.w l hp p.positive q.positive s
                where
                  under : (f g pw qw : ℤ) → f ≤ℤ pos 0 → pos 0 <ℤ g → pos 0 <ℤ pw → pos 0 <ℤ qw
                      → pos 0 <ℤ (f *ℤ pw -ℤ g *ℤ qw) → ⊥
                  under f g pw qw hf hg hpw hqw h =
                      let m = mul-nonpos_of_nonneg_nonpos_ℤ {a = pw} {b = f} (weak hpw) hf in
                      let c = lib.IntN.*ℤ_comm f pw in let n = mul-pos_ℤ {a = g} {b = qw} hg hqw in
                      omega (arith, ints)

          pick : (bracket u v z <ℤ pos 0) ⊎ ((bracket u v z ≡ pos 0) ⊎ (pos 0 <ℤ bracket u v z))
              → pos 0 <ℤ bracket u v z
          pick (inl h) = absurd (none (weak_right h))
          pick (inr (inl h)) = absurd (none (zero_weak h))
          pick (inr (inr h)) = h

      go : (bracket u v q <ℤ pos 0) ⊎ ((bracket u v q ≡ pos 0) ⊎ (pos 0 <ℤ bracket u v q))
          → pos 0 <ℤ bracket u v z
      go (inl h) = falls (weak_right h)
      go (inr (inl h)) = falls (zero_weak h)
      go (inr (inr h)) = left_along u v z hz hp h
