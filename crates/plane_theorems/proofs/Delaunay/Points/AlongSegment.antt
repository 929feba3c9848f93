-- Points of a segment in their order along it: the one nearer to the start comes first, and points
-- as near are one.
-- Notions: OrderAlong; nearer_if, order_along, not_both_nearer, reach_less, after_first, on_line,
-- on_line_last, before, not_before, not_past, not_from_end, first_on, none_sooner, same_on_line,
-- within_on_line.
use Rattle.std.proofs.Common.{◌≡◌, [], ◌∷◌, arith, ap, sym, ◌∙◌, subst, subst₂, refl}
use mathlib.Core.Logic.{◌⊎◌, inl, inr}
use lib.IntN.{neg_ℤ}
use Rattle.std.specs.Prelude.{ℤ, pos, ◌<ℤ◌, ◌≤ℤ◌, ◌+ℤ◌, ◌-ℤ◌, ◌*ℤ◌}
use Rattle.std.proofs.lemmas.Int.{ints}
use Rattle.plane.specs.{Fraction, gap, IsNearer, IsNotNegative, IsPositive, IsSame, OnSegment}
use Rattle.plane.specs.{OverlapAlong, WithinSegment}
use Rattle.plane.proofs.{◌⊕◌, ◌⊖◌, ◌⊗◌, at_most_and_more, balanced, bracket, bracket_of_two}
use Rattle.plane.proofs.{bracketᵖ, difference_is_positive, difference_not_negative, less_both_ways}
use Rattle.plane.proofs.{less_by_difference, less_by_negative_difference, lt_of_mul-lt-mul_ℤ}
use Rattle.plane.proofs.{mean_of_two, more_by_difference, mul-nonneg_ℤ}
use Rattle.plane.proofs.{mul-nonpos_of_nonneg_nonpos_ℤ, mul-pos_ℤ, mul_cancel_ℤ}
use Rattle.plane.proofs.{negated_not_negative, no_difference, nonneg_of_mul-nonneg_ℤ, num}
use Rattle.plane.proofs.{on_segment-same, on_segment_is, one_times_sum, only_point, pos-ne-zero_ℤ}
use Rattle.plane.proofs.{pos_of_mul-pos_ℤ, positive_above, product_zero_left, reach, reach-end}
use Rattle.plane.proofs.{reach-start, reach_of_two, ring_in, ring_in_from, ring_over_from, same-sym}
use Rattle.plane.proofs.{same-trans, same_not_nearer, start_on_segment, sum_not_negative_of}
use Rattle.plane.proofs.{sum_of_zeros, trichotomy_ℤ, two_weights, TwoWeights, vec, vec3, weak}
use Rattle.plane.proofs.{weak_right, weights_x, weights_y, zero-mul_ℤ, zero_below_positive}
use Rattle.plane.proofs.{zero_of_mul-zero_ℤ, zero_weak, zero_weak_left}
use Rattle.plane.proofs.{IntegerOrder.le_of_mul-le-mul_ℤ, Signs.at_most_by_difference_to}
use Rattle.plane.proofs.Segments.{reachᵖ, riseᵖ, runᵖ}
use Rattle.plane_theorems.proofs.Delaunay.Points.Bracket.{mixed}
use Rattle.plane_theorems.proofs.Delaunay.Points.Numbers.{mix_positive}

-- the squared distance from the start, by how far the point is on the way
gap-reach : (p q x : Fraction) → bracket (vec p) (vec q) (vec x) ≡ pos 0
    → reach p q q *ℤ gap p x ≡ reach p q x *ℤ reach p q x
unfolding reach bracket
gap-reach p q x e = ring_over_from vec3 [] (vec p ∷ vec q ∷ vec x ∷ [])
    (λ p q x. reachᵖ p q q ⊗ (runᵖ p x ⊗ runᵖ p x ⊕ riseᵖ p x ⊗ riseᵖ p x))
    (λ p q x. reachᵖ p q x ⊗ reachᵖ p q x)
    (λ p q x. (p.w ⊗ p.w ⊗ bracketᵖ p q x, bracketᵖ p q x, num 0) ∷ []) (e, tt) tt

squared : (l g r w : ℤ) → l *ℤ g ≡ r *ℤ r → l *ℤ (g *ℤ (w *ℤ w)) ≡ (r *ℤ w) *ℤ (r *ℤ w)
squared l g r w e = spread l g w ∙ ap (λ t. t *ℤ (w *ℤ w)) e ∙ gathered r w
  where
    spread : (l g w : ℤ) → l *ℤ (g *ℤ (w *ℤ w)) ≡ l *ℤ g *ℤ (w *ℤ w)
    spread l g w =
        ring_in (l ∷ g ∷ w ∷ []) (λ l g w. l ⊗ (g ⊗ (w ⊗ w))) (λ l g w. l ⊗ g ⊗ (w ⊗ w)) tt

    gathered : (r w : ℤ) → r *ℤ r *ℤ (w *ℤ w) ≡ (r *ℤ w) *ℤ (r *ℤ w)
    gathered r w = ring_in (r ∷ w ∷ []) (λ r w. r ⊗ r ⊗ (w ⊗ w)) (λ r w. (r ⊗ w) ⊗ (r ⊗ w)) tt

squares_less : (a b : ℤ) → pos 0 ≤ℤ a → a <ℤ b → (a *ℤ a) <ℤ (b *ℤ b)
squares_less a b h i = let p =
    mul-pos_ℤ {a = b -ℤ a} {b = b +ℤ a} (omega (arith, ints)) (omega (arith, ints)) in
    let e = factors a b in omega (arith, ints)
  where
    factors : (a b : ℤ) → (b -ℤ a) *ℤ (b +ℤ a) ≡ b *ℤ b -ℤ a *ℤ a
    factors a b = ring_in (a ∷ b ∷ []) (λ a b. (b ⊖ a) ⊗ (b ⊕ a)) (λ a b. b ⊗ b ⊖ a ⊗ a) tt

-- as far on the way: one point
same_x : (u v x y : Fraction) → bracket (vec u) (vec v) (vec x) ≡ pos 0
    → bracket (vec u) (vec v) (vec y) ≡ pos 0 → reach u v x *ℤ y.w ≡ reach u v y *ℤ x.w
    → (reach u v v *ℤ u.w) *ℤ (x.x *ℤ y.w) ≡ (reach u v v *ℤ u.w) *ℤ (y.x *ℤ x.w)
unfolding reach bracket
same_x u v x y ex ey e = ring_over_from vec3 [] (vec u ∷ vec v ∷ vec x ∷ vec y ∷ [])
    (λ u v x y. (reachᵖ u v v ⊗ u.w) ⊗ (x.x ⊗ y.w)) (λ u v x y. (reachᵖ u v v ⊗ u.w) ⊗ (y.x ⊗ x.w))
    (λ u v x y. (num 0 ⊖ riseᵖ u v ⊗ u.w ⊗ y.w, bracketᵖ u v x, num 0) ∷ (
      riseᵖ u v ⊗ u.w ⊗ x.w,
      bracketᵖ u v y,
      num 0,
    ) ∷ (u.w ⊗ v.x ⊖ v.w ⊗ u.x, reachᵖ u v x ⊗ y.w, reachᵖ u v y ⊗ x.w)
    ∷ []) (ex, (ey, (e, tt))) tt

same_y : (u v x y : Fraction) → bracket (vec u) (vec v) (vec x) ≡ pos 0
    → bracket (vec u) (vec v) (vec y) ≡ pos 0 → reach u v x *ℤ y.w ≡ reach u v y *ℤ x.w
    → (reach u v v *ℤ u.w) *ℤ (x.y *ℤ y.w) ≡ (reach u v v *ℤ u.w) *ℤ (y.y *ℤ x.w)
unfolding reach bracket
same_y u v x y ex ey e = ring_over_from vec3 [] (vec u ∷ vec v ∷ vec x ∷ vec y ∷ [])
    (λ u v x y. (reachᵖ u v v ⊗ u.w) ⊗ (x.y ⊗ y.w)) (λ u v x y. (reachᵖ u v v ⊗ u.w) ⊗ (y.y ⊗ x.w))
    (λ u v x y. (runᵖ u v ⊗ u.w ⊗ y.w, bracketᵖ u v x, num 0) ∷ (
      num 0 ⊖ runᵖ u v ⊗ u.w ⊗ x.w,
      bracketᵖ u v y,
      num 0,
    ) ∷ (u.w ⊗ v.y ⊖ v.w ⊗ u.y, reachᵖ u v x ⊗ y.w, reachᵖ u v y ⊗ x.w)
    ∷ []) (ex, (ey, (e, tt))) tt

-- which of two points comes first from p
pub data OrderAlong (p x y : Fraction) : Type 0 where
  sooner : IsNearer p x y → OrderAlong p x y
  as_soon : IsSame x y → OrderAlong p x y
  later : IsNearer p y x → OrderAlong p x y

module _ (p q : Fraction) (apart : ¬ IsSame p q) where
  -- what is less far along the segment is nearer to its start
  pub nearer_if : (x y : Fraction) → OnSegment p q x → OnSegment p q y
      → (reach p q x *ℤ y.w) <ℤ (reach p q y *ℤ x.w) → IsNearer p x y
  nearer_if x y hx hy h =
      let sx = (on_segment_is p q x apart).0 hx in
      let sy = (on_segment_is p q y apart).0 hy in
      record {
        nearer = lt_of_mul-lt-mul_ℤ {k = reach p q q} (reach-end p q apart) (subst₂ (λ a b. a <ℤ b)
            (sym (squared (reach p q q) (gap p x) (reach p q x) y.w (gap-reach p q x sx.0)))
            (sym (squared (reach p q q) (gap p y) (reach p q y) x.w (gap-reach p q y sy.0)))
            (squares_less (reach p q x *ℤ y.w) (reach p q y *ℤ x.w)
            (mul-nonneg_ℤ {a = reach p q x} {b = y.w} sx.1 (weak y.positive)) h));
      }

  same_if : (x y : Fraction) → OnSegment p q x → OnSegment p q y
      → reach p q x *ℤ y.w ≡ reach p q y *ℤ x.w → IsSame x y
  same_if x y hx hy e =
      let sx = (on_segment_is p q x apart).0 hx in
      let sy = (on_segment_is p q y apart).0 hy in
      let n =
      pos-ne-zero_ℤ (mul-pos_ℤ {a = reach p q q} {b = p.w} (reach-end p q apart) p.positive) in
      record {
        x = mul_cancel_ℤ n (same_x p q x y sx.0 sy.0 e);
        y = mul_cancel_ℤ n (same_y p q x y sx.0 sy.0 e);
      }

  -- two points of a segment: one comes first, or they are one
  pub order_along : (x y : Fraction) → OnSegment p q x → OnSegment p q y → OrderAlong p x y
  order_along x y hx hy = go (trichotomy_ℤ (reach p q x *ℤ y.w -ℤ reach p q y *ℤ x.w))
    where
      go : ((reach p q x *ℤ y.w -ℤ reach p q y *ℤ x.w) <ℤ pos 0)
          ⊎ ((reach p q x *ℤ y.w -ℤ reach p q y *ℤ x.w ≡ pos 0)
          ⊎ (pos 0 <ℤ (reach p q x *ℤ y.w -ℤ reach p q y *ℤ x.w))) → OrderAlong p x y
      go (inl h) = sooner (nearer_if x y hx hy (less_by_negative_difference _ _ h))
      go (inr (inl e)) = as_soon (same_if x y hx hy (no_difference _ _ e))
      go (inr (inr h)) = later (nearer_if y x hy hx (more_by_difference _ _ h))

  -- no two points are each nearer than the other
  pub not_both_nearer : (x y : Fraction) → IsNearer p x y → ¬ IsNearer p y x
  not_both_nearer x y h k = less_both_ways _ _ h.nearer k.nearer

  -- what is nearer is less far on the way
  pub reach_less : (x y : Fraction) → OnSegment p q x → OnSegment p q y → IsNearer p x y
      → (reach p q x *ℤ y.w) <ℤ (reach p q y *ℤ x.w)
  reach_less x y hx hy near = go (trichotomy_ℤ (reach p q x *ℤ y.w -ℤ reach p q y *ℤ x.w))
    where
      go : ((reach p q x *ℤ y.w -ℤ reach p q y *ℤ x.w) <ℤ pos 0)
          ⊎ ((reach p q x *ℤ y.w -ℤ reach p q y *ℤ x.w ≡ pos 0)
          ⊎ (pos 0 <ℤ (reach p q x *ℤ y.w -ℤ reach p q y *ℤ x.w)))
          → (reach p q x *ℤ y.w) <ℤ (reach p q y *ℤ x.w)
      go (inl h) = less_by_negative_difference _ _ h
      go (inr (inl e)) =
          absurd (same_not_nearer p x y (same_if x y hx hy (no_difference _ _ e)) near)
      go (inr (inr h)) =
          absurd (not_both_nearer x y near (nearer_if y x hy hx (more_by_difference _ _ h)))

-- ---- numbers of two points near and far, n₁ near = a₁ u + b₁ v and n₂ far = a₂ u + b₂ v
-- nearer to u: less of v
turned_weights : (n₁ a₁ b₁ n₂ a₂ b₂ r₁ r₂ w₁ w₂ l uw vw : ℤ) → n₁ *ℤ r₁ ≡ a₁ *ℤ pos 0 +ℤ b₁ *ℤ l
    → n₂ *ℤ r₂ ≡ a₂ *ℤ pos 0 +ℤ b₂ *ℤ l → n₁ *ℤ w₁ ≡ a₁ *ℤ uw +ℤ b₁ *ℤ vw → n₂ *ℤ w₂
    ≡ a₂ *ℤ uw +ℤ b₂ *ℤ vw → l *ℤ uw *ℤ (a₁ *ℤ b₂ -ℤ a₂ *ℤ b₁) ≡ n₁ *ℤ n₂ *ℤ (r₂ *ℤ w₁ -ℤ r₁ *ℤ w₂)
turned_weights n₁ a₁ b₁ n₂ a₂ b₂ r₁ r₂ w₁ w₂ l uw vw e₁ e₂ e₃ e₄ =
    ring_in_from (n₁ ∷ a₁ ∷ b₁ ∷ n₂ ∷ a₂ ∷ b₂ ∷ r₁ ∷ r₂ ∷ w₁ ∷ w₂ ∷ l ∷ uw ∷ vw ∷ [])
    (λ n₁ a₁ b₁ n₂ a₂ b₂ r₁ r₂ w₁ w₂ l uw vw. l ⊗ uw ⊗ (a₁ ⊗ b₂ ⊖ a₂ ⊗ b₁))
    (λ n₁ a₁ b₁ n₂ a₂ b₂ r₁ r₂ w₁ w₂ l uw vw. n₁ ⊗ n₂ ⊗ (r₂ ⊗ w₁ ⊖ r₁ ⊗ w₂))
    (λ n₁ a₁ b₁ n₂ a₂ b₂ r₁ r₂ w₁ w₂ l uw vw.
    (n₂ ⊗ w₂, n₁ ⊗ r₁, a₁ ⊗ num 0 ⊕ b₁ ⊗ l) ∷ (num 0 ⊖ n₁ ⊗ w₁, n₂ ⊗ r₂, a₂ ⊗ num 0 ⊕ b₂ ⊗ l)
    ∷ (num 0 ⊖ b₂ ⊗ l, n₁ ⊗ w₁, a₁ ⊗ uw ⊕ b₁ ⊗ vw) ∷ (b₁ ⊗ l, n₂ ⊗ w₂, a₂ ⊗ uw ⊕ b₂ ⊗ vw) ∷ [])
    (e₁, (e₂, (e₃, (e₄, tt)))) tt

-- a form that is 0 at both is 0 at u
form_none : (n₁ a₁ b₁ n₂ a₂ b₂ f₁ f₂ fu fv : ℤ) → n₁ *ℤ f₁ ≡ a₁ *ℤ fu +ℤ b₁ *ℤ fv → n₂ *ℤ f₂
    ≡ a₂ *ℤ fu +ℤ b₂ *ℤ fv → f₁ ≡ pos 0 → f₂ ≡ pos 0 → (a₁ *ℤ b₂ -ℤ a₂ *ℤ b₁) *ℤ fu ≡ pos 0
form_none n₁ a₁ b₁ n₂ a₂ b₂ f₁ f₂ fu fv e₁ e₂ z₁ z₂ =
    ring_in_from (n₁ ∷ a₁ ∷ b₁ ∷ n₂ ∷ a₂ ∷ b₂ ∷ f₁ ∷ f₂ ∷ fu ∷ fv ∷ [])
    (λ n₁ a₁ b₁ n₂ a₂ b₂ f₁ f₂ fu fv. (a₁ ⊗ b₂ ⊖ a₂ ⊗ b₁) ⊗ fu)
    (λ n₁ a₁ b₁ n₂ a₂ b₂ f₁ f₂ fu fv. num 0)
    (λ n₁ a₁ b₁ n₂ a₂ b₂ f₁ f₂ fu fv. (num 0 ⊖ b₂, n₁ ⊗ f₁, a₁ ⊗ fu ⊕ b₁ ⊗ fv) ∷ (
      b₁,
      n₂ ⊗ f₂,
      a₂ ⊗ fu ⊕ b₂ ⊗ fv,
    ) ∷ (b₂ ⊗ n₁, f₁, num 0) ∷ (num 0 ⊖ b₁ ⊗ n₂, f₂, num 0) ∷ [])
    (e₁, (e₂, (z₁, (z₂, tt)))) tt

-- and at v
form_none_last : (n₁ a₁ b₁ n₂ a₂ b₂ f₁ f₂ fu fv : ℤ) → n₁ *ℤ f₁ ≡ a₁ *ℤ fu +ℤ b₁ *ℤ fv → n₂ *ℤ f₂
    ≡ a₂ *ℤ fu +ℤ b₂ *ℤ fv → f₁ ≡ pos 0 → f₂ ≡ pos 0 → (a₁ *ℤ b₂ -ℤ a₂ *ℤ b₁) *ℤ fv ≡ pos 0
form_none_last n₁ a₁ b₁ n₂ a₂ b₂ f₁ f₂ fu fv e₁ e₂ z₁ z₂ =
    ring_in_from (n₁ ∷ a₁ ∷ b₁ ∷ n₂ ∷ a₂ ∷ b₂ ∷ f₁ ∷ f₂ ∷ fu ∷ fv ∷ [])
    (λ n₁ a₁ b₁ n₂ a₂ b₂ f₁ f₂ fu fv. (a₁ ⊗ b₂ ⊖ a₂ ⊗ b₁) ⊗ fv)
    (λ n₁ a₁ b₁ n₂ a₂ b₂ f₁ f₂ fu fv. num 0)
    (λ n₁ a₁ b₁ n₂ a₂ b₂ f₁ f₂ fu fv. (a₂, n₁ ⊗ f₁, a₁ ⊗ fu ⊕ b₁ ⊗ fv) ∷ (
      num 0 ⊖ a₁,
      n₂ ⊗ f₂,
      a₂ ⊗ fu ⊕ b₂ ⊗ fv,
    ) ∷ (num 0 ⊖ a₂ ⊗ n₁, f₁, num 0) ∷ (a₁ ⊗ n₂, f₂, num 0) ∷ [])
    (e₁, (e₂, (z₁, (z₂, tt)))) tt

-- and the order of two forms
form_order : (n₁ a₁ b₁ n₂ a₂ b₂ f₁ f₂ fu fv w₁ w₂ uw vw : ℤ) → n₁ *ℤ f₁ ≡ a₁ *ℤ fu +ℤ b₁ *ℤ fv → n₂
    *ℤ f₂ ≡ a₂ *ℤ fu +ℤ b₂ *ℤ fv → n₁ *ℤ w₁ ≡ a₁ *ℤ uw +ℤ b₁ *ℤ vw → n₂ *ℤ w₂ ≡ a₂ *ℤ uw +ℤ b₂ *ℤ vw
    → (a₁ *ℤ b₂ -ℤ a₂ *ℤ b₁) *ℤ (fv *ℤ uw -ℤ fu *ℤ vw) ≡ n₁ *ℤ n₂ *ℤ (f₂ *ℤ w₁ -ℤ f₁ *ℤ w₂)
form_order n₁ a₁ b₁ n₂ a₂ b₂ f₁ f₂ fu fv w₁ w₂ uw vw e₁ e₂ e₃ e₄ =
    ring_in_from (n₁ ∷ a₁ ∷ b₁ ∷ n₂ ∷ a₂ ∷ b₂ ∷ f₁ ∷ f₂ ∷ fu ∷ fv ∷ w₁ ∷ w₂ ∷ uw ∷ vw ∷ [])
    (λ n₁ a₁ b₁ n₂ a₂ b₂ f₁ f₂ fu fv w₁ w₂ uw vw. (a₁ ⊗ b₂ ⊖ a₂ ⊗ b₁) ⊗ (fv ⊗ uw ⊖ fu ⊗ vw))
    (λ n₁ a₁ b₁ n₂ a₂ b₂ f₁ f₂ fu fv w₁ w₂ uw vw. n₁ ⊗ n₂ ⊗ (f₂ ⊗ w₁ ⊖ f₁ ⊗ w₂))
    (λ n₁ a₁ b₁ n₂ a₂ b₂ f₁ f₂ fu fv w₁ w₂ uw vw.
    (n₂ ⊗ w₂, n₁ ⊗ f₁, a₁ ⊗ fu ⊕ b₁ ⊗ fv) ∷ (num 0 ⊖ n₁ ⊗ w₁, n₂ ⊗ f₂, a₂ ⊗ fu ⊕ b₂ ⊗ fv)
    ∷ (num 0 ⊖ a₂ ⊗ fu ⊖ b₂ ⊗ fv, n₁ ⊗ w₁, a₁ ⊗ uw ⊕ b₁ ⊗ vw)
    ∷ (a₁ ⊗ fu ⊕ b₁ ⊗ fv, n₂ ⊗ w₂, a₂ ⊗ uw ⊕ b₂ ⊗ vw) ∷ [])
    (e₁, (e₂, (e₃, (e₄, tt)))) tt

-- a mean of two fractions is past the first by its second weight times their difference
pub after_first : (n a b f fu fv w uw vw : ℤ) → n *ℤ f ≡ a *ℤ fu +ℤ b *ℤ fv
    → n *ℤ w ≡ a *ℤ uw +ℤ b *ℤ vw → n *ℤ (f *ℤ uw -ℤ fu *ℤ w) ≡ b *ℤ (fv *ℤ uw -ℤ fu *ℤ vw)
after_first n a b f fu fv w uw vw e d =
    ring_in_from (n ∷ a ∷ b ∷ f ∷ fu ∷ fv ∷ w ∷ uw ∷ vw ∷ []) (λ n a b f fu fv w uw vw. n
    ⊗ (f ⊗ uw ⊖ fu ⊗ w)) (λ n a b f fu fv w uw vw. b ⊗ (fv ⊗ uw ⊖ fu ⊗ vw))
    (λ n a b f fu fv w uw vw. (uw, n ⊗ f, a ⊗ fu ⊕ b ⊗ fv) ∷ (num 0 ⊖ fu, n ⊗ w, a ⊗ uw ⊕ b ⊗ vw)
    ∷ []) (e, (d, tt)) tt

before_last : (n a b f fu fv w uw vw : ℤ) → n *ℤ f ≡ a *ℤ fu +ℤ b *ℤ fv
    → n *ℤ w ≡ a *ℤ uw +ℤ b *ℤ vw → n *ℤ (fv *ℤ w -ℤ f *ℤ vw) ≡ a *ℤ (fv *ℤ uw -ℤ fu *ℤ vw)
before_last n a b f fu fv w uw vw e d =
    ring_in_from (n ∷ a ∷ b ∷ f ∷ fu ∷ fv ∷ w ∷ uw ∷ vw ∷ []) (λ n a b f fu fv w uw vw. n
    ⊗ (fv ⊗ w ⊖ f ⊗ vw)) (λ n a b f fu fv w uw vw. a ⊗ (fv ⊗ uw ⊖ fu ⊗ vw))
    (λ n a b f fu fv w uw vw. (num 0 ⊖ vw, n ⊗ f, a ⊗ fu ⊕ b ⊗ fv) ∷ (fv, n ⊗ w, a ⊗ uw ⊕ b ⊗ vw)
    ∷ []) (e, (d, tt)) tt

-- one point is as far on the way as itself
reach-same : (p q x y : Fraction) → IsSame x y → reach p q x *ℤ y.w ≡ reach p q y *ℤ x.w
unfolding reach
reach-same p q x y e = ring_over_from vec3 [] (vec p ∷ vec q ∷ vec x ∷ vec y ∷ [])
    (λ p q x y. reachᵖ p q x ⊗ y.w) (λ p q x y. reachᵖ p q y ⊗ x.w)
    (λ p q x y. (runᵖ p q ⊗ p.w, x.x ⊗ y.w, y.x ⊗ x.w) ∷ (riseᵖ p q ⊗ p.w, x.y ⊗ y.w, y.y ⊗ x.w)
    ∷ []) (e.x, (e.y, tt)) tt

-- from near over far to v, where x is
less_past : (rn rf rv rx wn wf wv wx : ℤ) → (rn *ℤ wf) <ℤ (rf *ℤ wn) → (rf *ℤ wv) ≤ℤ (rv *ℤ wf)
    → rx *ℤ wv ≡ rv *ℤ wx → pos 0 <ℤ wn → pos 0 <ℤ wf → pos 0 <ℤ wv → pos 0 <ℤ wx
    → (rn *ℤ wx) <ℤ (rx *ℤ wn)
less_past rn rf rv rx wn wf wv wx h i e hn hf hv hx =
    lt_of_mul-lt-mul_ℤ {k = wf *ℤ wv} (mul-pos_ℤ {a = wf} {b = wv} hf hv)
    (let p = mul-pos_ℤ {a = wv *ℤ wx} {b = rf *ℤ wn -ℤ rn *ℤ wf} (mul-pos_ℤ {a = wv} {b = wx} hv hx)
    (difference_is_positive _ _ h) in
    let s = mul-nonneg_ℤ {a = wn *ℤ wx} {b = rv *ℤ wf -ℤ rf *ℤ wv}
    (weak (mul-pos_ℤ {a = wn} {b = wx} hn hx)) (difference_not_negative _ _ i) in
    less_by_difference _ _ (subst (λ z. pos 0 <ℤ z) (sums rn rf rv rx wn wf wv wx e) (both p s)))
  where
    both : {a b : ℤ} → pos 0 <ℤ a → pos 0 ≤ℤ b → pos 0 <ℤ (a +ℤ b)
    both h k = omega (arith, ints)

    sums : (rn rf rv rx wn wf wv wx : ℤ) → rx *ℤ wv ≡ rv *ℤ wx → wv *ℤ wx *ℤ (rf *ℤ wn -ℤ rn *ℤ wf)
        +ℤ wn *ℤ wx *ℤ (rv *ℤ wf -ℤ rf *ℤ wv) ≡ wf *ℤ wv *ℤ (rx *ℤ wn) -ℤ wf *ℤ wv *ℤ (rn *ℤ wx)
    sums rn rf rv rx wn wf wv wx e = ring_in_from (rn ∷ rf ∷ rv ∷ rx ∷ wn ∷ wf ∷ wv ∷ wx ∷ [])
        (λ rn rf rv rx wn wf wv wx. wv ⊗ wx ⊗ (rf ⊗ wn ⊖ rn ⊗ wf) ⊕ wn ⊗ wx ⊗ (rv ⊗ wf ⊖ rf ⊗ wv))
        (λ rn rf rv rx wn wf wv wx. wf ⊗ wv ⊗ (rx ⊗ wn) ⊖ wf ⊗ wv ⊗ (rn ⊗ wx))
        (λ rn rf rv rx wn wf wv wx. (num 0 ⊖ wf ⊗ wn, rx ⊗ wv, rv ⊗ wx) ∷ []) (e, tt) tt

above_last : (n f a fu b fv : ℤ) → n *ℤ f ≡ a *ℤ fu +ℤ b *ℤ fv → pos 0 <ℤ n → pos 0 <ℤ f
    → pos 0 ≤ℤ a → fu ≤ℤ pos 0 → pos 0 ≤ℤ b → pos 0 <ℤ fv
above_last n f a fu b fv e hn hf ha hu hb = go (trichotomy_ℤ fv)
  where
    low : fv ≤ℤ pos 0 → ⊥
    low h = let p = mul-pos_ℤ {a = n} {b = f} hn hf in
        let q = mul-nonpos_of_nonneg_nonpos_ℤ {a = a} {b = fu} ha hu in
        let r = mul-nonpos_of_nonneg_nonpos_ℤ {a = b} {b = fv} hb h in omega (arith, ints)

    go : (fv <ℤ pos 0) ⊎ ((fv ≡ pos 0) ⊎ (pos 0 <ℤ fv)) → pos 0 <ℤ fv
    go (inl h) = absurd (low (weak_right h))
    go (inr (inl h)) = absurd (low (zero_weak h))
    go (inr (inr h)) = h

-- from near, that u is before, to u
still_before : (ru rn uw nw qw l : ℤ) → (ru *ℤ nw) ≤ℤ (rn *ℤ uw) → (rn *ℤ qw) ≤ℤ (l *ℤ nw)
    → pos 0 <ℤ nw → pos 0 <ℤ uw → pos 0 <ℤ qw → (ru *ℤ qw) ≤ℤ (l *ℤ uw)
still_before ru rn uw nw qw l h i hn hu hq = le_of_mul-le-mul_ℤ {k = nw} hn
    (let p = mul-nonneg_ℤ {a = qw} {b = rn *ℤ uw -ℤ ru *ℤ nw} (weak hq)
    (difference_not_negative _ _ h) in let r = mul-nonneg_ℤ {a = uw} {b = l *ℤ nw -ℤ rn *ℤ qw}
    (weak hu) (difference_not_negative _ _ i) in let e = sums ru rn uw nw qw l in
    at_most_by_difference_to _ _ (subst (λ z. pos 0 ≤ℤ z) e (sum_not_negative_of p r)))
  where
    sums : (ru rn uw nw qw l : ℤ) → qw *ℤ (rn *ℤ uw -ℤ ru *ℤ nw) +ℤ uw *ℤ (l *ℤ nw -ℤ rn *ℤ qw)
        ≡ nw *ℤ (l *ℤ uw) -ℤ nw *ℤ (ru *ℤ qw)
    sums ru rn uw nw qw l =
        ring_in (ru ∷ rn ∷ uw ∷ nw ∷ qw ∷ l ∷ []) (λ ru rn uw nw qw l. qw ⊗ (rn ⊗ uw ⊖ ru ⊗ nw) ⊕ uw
        ⊗ (l ⊗ nw ⊖ rn ⊗ qw)) (λ ru rn uw nw qw l. nw ⊗ (l ⊗ uw) ⊖ nw ⊗ (ru ⊗ qw)) tt

-- ---- where an overlap begins: at the start of the segment, or at the start of the other
module _ (p q u v : Fraction) (o : OverlapAlong p q u v) where
  far_apart : ¬ IsSame p q
  far_apart e = same_not_nearer p o.near o.far (same-trans o.near p o.far (only_point p q o.near e
      o.near_first) (same-sym o.far p (only_point p q o.far e o.far_first))) o.from_s

  ends_apart : ¬ IsSame u v
  ends_apart e = same_not_nearer u o.near o.far (same-trans o.near u o.far (only_point u v o.near e
      o.near_second) (same-sym o.far u (only_point u v o.far e o.far_second))) o.from_u

  -- near, by its weights on the other segment
  t₁ : TwoWeights IsNotNegative u v o.near
  t₁ = two_weights IsNotNegative u v o.near o.near_second

  -- far, by its weights there
  t₂ : TwoWeights IsNotNegative u v o.far
  t₂ = two_weights IsNotNegative u v o.far o.far_second

  -- near has more of u, and far more of v
  turn : pos 0 <ℤ (t₁.k *ℤ t₂.l -ℤ t₂.k *ℤ t₁.l)
  turn = pos_of_mul-pos_ℤ {k = reach u v v *ℤ u.w} (mul-pos_ℤ (reach-end u v ends_apart) u.positive)
      (subst (λ z. pos 0 <ℤ z)
      (sym (turned_weights t₁.n t₁.k t₁.l t₂.n t₂.k t₂.l (reach u v o.near) (reach u v o.far)
      o.near.w o.far.w (reach u v v) u.w v.w (from_start t₁) (from_start t₂) t₁.w t₂.w))
      (mul-pos_ℤ (mul-pos_ℤ t₁.positive t₂.positive) (difference_is_positive _ _
      (reach_less u v ends_apart o.near o.far o.near_second o.far_second o.from_u))))
    where
      from_start : {x : Fraction} (t : TwoWeights IsNotNegative u v x)
          → t.n *ℤ reach u v x ≡ t.k *ℤ pos 0 +ℤ t.l *ℤ reach u v v
      from_start {x} t = reach_of_two IsNotNegative u v u v x t
          ∙ (λ i. t.k *ℤ reach-start u v i +ℤ t.l *ℤ reach u v v)

  member : (x : Fraction) → OnSegment p q x → (bracket (vec p) (vec q) (vec x) ≡ pos 0)
      × (pos 0 ≤ℤ reach p q x) × ((reach p q x *ℤ q.w) ≤ℤ (reach p q q *ℤ x.w))
  member x h = (on_segment_is p q x far_apart).0 h

  -- u and v are on the line of p and q
  pub on_line : bracket (vec p) (vec q) (vec u) ≡ pos 0
  on_line = zero_of_mul-zero_ℤ (pos-ne-zero_ℤ turn) (form_none t₁.n t₁.k t₁.l t₂.n t₂.k t₂.l
      (bracket (vec p) (vec q) (vec o.near)) (bracket (vec p) (vec q) (vec o.far))
      (bracket (vec p) (vec q) (vec u)) (bracket (vec p) (vec q) (vec v))
      (bracket_of_two IsNotNegative (vec p) (vec q) u v o.near t₁) (bracket_of_two IsNotNegative
      (vec p) (vec q) u v o.far t₂) (member o.near o.near_first).0 (member o.far o.far_first).0)

  -- the last point is on the line too
  pub on_line_last : bracket (vec p) (vec q) (vec v) ≡ pos 0
  on_line_last = zero_of_mul-zero_ℤ (pos-ne-zero_ℤ turn) (form_none_last t₁.n t₁.k t₁.l t₂.n t₂.k
      t₂.l (bracket (vec p) (vec q) (vec o.near)) (bracket (vec p) (vec q) (vec o.far))
      (bracket (vec p) (vec q) (vec u)) (bracket (vec p) (vec q) (vec v))
      (bracket_of_two IsNotNegative (vec p) (vec q) u v o.near t₁) (bracket_of_two IsNotNegative
      (vec p) (vec q) u v o.far t₂) (member o.near o.near_first).0 (member o.far o.far_first).0)

  -- and before v
  pub before : pos 0 <ℤ (reach p q v *ℤ u.w -ℤ reach p q u *ℤ v.w)
  before = pos_of_mul-pos_ℤ {k = t₁.k *ℤ t₂.l -ℤ t₂.k *ℤ t₁.l} turn
      (subst (λ z. pos 0 <ℤ z) (sym (form_order t₁.n t₁.k t₁.l t₂.n t₂.k t₂.l (reach p q o.near)
      (reach p q o.far) (reach p q u) (reach p q v) o.near.w o.far.w u.w v.w (reach_of_two
      IsNotNegative p q u v o.near t₁) (reach_of_two IsNotNegative p q u v o.far t₂) t₁.w t₂.w))
      (mul-pos_ℤ (mul-pos_ℤ t₁.positive t₂.positive) (difference_is_positive _ _
      (reach_less p q far_apart o.near o.far o.near_first o.far_first o.from_s))))

  -- no point of the segment from u to v is before u
  pub not_before : (r : Fraction) → OnSegment u v r → (reach p q u *ℤ r.w) ≤ℤ (reach p q r *ℤ u.w)
  not_before r h = let t = two_weights IsNotNegative u v r h in
      at_most_by_difference_to _ _ (nonneg_of_mul-nonneg_ℤ {k = t.n} t.positive
      (subst (λ z. pos 0 ≤ℤ z) (sym (after_first t.n t.k t.l (reach p q r) (reach p q u)
      (reach p q v) r.w u.w v.w (reach_of_two IsNotNegative p q u v r t) t.w))
      (mul-nonneg_ℤ t.l_allowed (weak before))))

  -- and none is past v
  pub not_past : (r : Fraction) → OnSegment u v r → (reach p q r *ℤ v.w) ≤ℤ (reach p q v *ℤ r.w)
  not_past r h = let t = two_weights IsNotNegative u v r h in
      at_most_by_difference_to _ _ (nonneg_of_mul-nonneg_ℤ {k = t.n} t.positive
      (subst (λ z. pos 0 ≤ℤ z) (sym (before_last t.n t.k t.l (reach p q r) (reach p q u)
      (reach p q v) r.w u.w v.w (reach_of_two IsNotNegative p q u v r t) t.w))
      (mul-nonneg_ℤ t.k_allowed (weak before))))

  -- so an overlap does not begin at v
  pub not_from_end : (x : Fraction) → OnSegment p q x
      → ((r : Fraction) → OnSegment p q r → OnSegment u v r → ¬ IsNearer p r x) → ¬ IsSame x v
  not_from_end x hx first e =
      first o.near o.near_first o.near_second (nearer_if p q far_apart o.near x o.near_first hx
      (less_past (reach p q o.near) (reach p q o.far) (reach p q v) (reach p q x) o.near.w o.far.w
      v.w x.w (reach_less p q far_apart o.near o.far o.near_first o.far_first o.from_s)
      (not_past o.far o.far_second)
      (reach-same p q x v e) o.near.positive o.far.positive v.positive x.positive))

  -- where p is not on the other segment, u is on this one, and comes first
  module _ (off : ¬ OnSegment u v p) where
    past_start : pos 0 <ℤ reach p q u
    past_start = go (trichotomy_ℤ (reach p q u))
      where
        behind : reach p q u ≤ℤ pos 0 → ⊥
        behind h = off (on_segment-same u v z p (same_if p q far_apart z p z_on
            (start_on_segment p q) keys) (mean_of_two IsNotNegative u v z t))
          where
            far_reach : pos 0 <ℤ reach p q o.far
            far_reach = positive_above _ _ _ _ (reach_less p q far_apart o.near o.far o.near_first
                o.far_first o.from_s) ((on_segment_is p q o.near far_apart).0 o.near_first).1
                o.near.positive o.far.positive

            high : pos 0 <ℤ reach p q v
            high = above_last t₂.n (reach p q o.far) t₂.k (reach p q u) t₂.l (reach p q v)
                (reach_of_two IsNotNegative p q u v o.far t₂) t₂.positive far_reach t₂.k_allowed
                h t₂.l_allowed

            positive : pos 0 <ℤ (reach p q v *ℤ u.w +ℤ neg_ℤ (reach p q u) *ℤ v.w)
            positive = mix_positive (reach p q v) (neg_ℤ (reach p q u)) u.w v.w high
                (negated_not_negative h) u.positive v.positive

            z : Fraction
            z = mixed (reach p q v) u (neg_ℤ (reach p q u)) v positive

            one_time : (x : ℤ) → pos 1 *ℤ x ≡ pos 0 → x ≡ pos 0
            one_time x e = omega (arith, ints)

            t : TwoWeights IsNotNegative u v z
            t = record {
              k = reach p q v;
              l = neg_ℤ (reach p q u);
              n = pos 1;
              k_allowed = weak high;
              l_allowed = negated_not_negative h;
              positive = record { lt = tt };
              x = one_times_sum (reach p q v *ℤ u.x) (neg_ℤ (reach p q u) *ℤ v.x);
              y = one_times_sum (reach p q v *ℤ u.y) (neg_ℤ (reach p q u) *ℤ v.y);
              w = one_times_sum (reach p q v *ℤ u.w) (neg_ℤ (reach p q u) *ℤ v.w);
            }

            no_reach : reach p q z ≡ pos 0
            no_reach = one_time (reach p q z) (reach_of_two IsNotNegative p q u v z t
                ∙ lib.IntN.+ℤ_comm (reach p q v *ℤ reach p q u) (neg_ℤ (reach p q u) *ℤ reach p q v)
                ∙ balanced (reach p q v) (reach p q u))

            no_turn : bracket (vec p) (vec q) (vec z) ≡ pos 0
            no_turn = one_time (bracket (vec p) (vec q) (vec z))
                (bracket_of_two IsNotNegative (vec p) (vec q) u v z t ∙ sum_of_zeros _ _
                (zero-mul_ℤ (reach p q v) on_line) (zero-mul_ℤ (neg_ℤ (reach p q u)) on_line_last))

            z_on : OnSegment p q z
            z_on = (on_segment_is p q z far_apart).1 (
              no_turn,
              zero_weak_left no_reach,
              zero_below_positive (reach p q z *ℤ q.w) (reach p q q *ℤ z.w)
                  (product_zero_left q.w no_reach) (mul-pos_ℤ (reach-end p q far_apart) z.positive),
            )

            keys : reach p q z *ℤ p.w ≡ reach p q p *ℤ z.w
            keys = product_zero_left p.w no_reach ∙ sym (product_zero_left z.w (reach-start p q))

        go : (reach p q u <ℤ pos 0) ⊎ ((reach p q u ≡ pos 0) ⊎ (pos 0 <ℤ reach p q u))
            → pos 0 <ℤ reach p q u
        go (inl h) = absurd (behind (weak_right h))
        go (inr (inl h)) = absurd (behind (zero_weak h))
        go (inr (inr h)) = h

    -- the first common point is on the segment
    pub first_on : OnSegment p q u
    first_on = (on_segment_is p q u far_apart).1 (
      on_line,
      weak past_start,
      still_before (reach p q u) (reach p q o.near) u.w o.near.w q.w (reach p q q)
          (not_before o.near o.near_second) ((on_segment_is p q o.near far_apart).0 o.near_first).2
          o.near.positive u.positive q.positive,
    )

    -- no common point is nearer to the start
    pub none_sooner : (r : Fraction) → OnSegment p q r → OnSegment u v r → ¬ IsNearer p r u
    none_sooner r h i near =
        at_most_and_more _ _ (not_before r i) (reach_less p q far_apart r u h first_on near)

-- ---- three points of a line in order: the one in the middle is within the segment of the others
middle_part : (s uc vc rx ry rz xc yc zc xw yw zw l vw uw : ℤ) → s ≡ l *ℤ uw
    → s *ℤ xc ≡ (l *ℤ xw -ℤ rx *ℤ vw) *ℤ uc +ℤ (rx *ℤ uw) *ℤ vc
    → s *ℤ yc ≡ (l *ℤ yw -ℤ ry *ℤ vw) *ℤ uc +ℤ (ry *ℤ uw) *ℤ vc → s *ℤ zc
    ≡ (l *ℤ zw -ℤ rz *ℤ vw) *ℤ uc +ℤ (rz *ℤ uw) *ℤ vc → s *ℤ ((rz *ℤ xw -ℤ rx *ℤ zw) *ℤ yc)
    ≡ s *ℤ ((rz *ℤ yw -ℤ ry *ℤ zw) *ℤ xc +ℤ (ry *ℤ xw -ℤ rx *ℤ yw) *ℤ zc)
middle_part s uc vc rx ry rz xc yc zc xw yw zw l vw uw o ex ey ez =
    ring_in_from (s ∷ uc ∷ vc ∷ rx ∷ ry ∷ rz ∷ xc ∷ yc ∷ zc ∷ xw ∷ yw ∷ zw ∷ l ∷ vw ∷ uw ∷ [])
    (λ s uc vc rx ry rz xc yc zc xw yw zw l vw uw. s ⊗ ((rz ⊗ xw ⊖ rx ⊗ zw) ⊗ yc))
    (λ s uc vc rx ry rz xc yc zc xw yw zw l vw uw. s
    ⊗ ((rz ⊗ yw ⊖ ry ⊗ zw) ⊗ xc ⊕ (ry ⊗ xw ⊖ rx ⊗ yw) ⊗ zc))
    (λ s uc vc rx ry rz xc yc zc xw yw zw l vw uw.
    (num 0 ⊖ (rz ⊗ yw ⊖ ry ⊗ zw), s ⊗ xc, (l ⊗ xw ⊖ rx ⊗ vw) ⊗ uc ⊕ (rx ⊗ uw) ⊗ vc)
    ∷ (rz ⊗ xw ⊖ rx ⊗ zw, s ⊗ yc, (l ⊗ yw ⊖ ry ⊗ vw) ⊗ uc ⊕ (ry ⊗ uw) ⊗ vc)
    ∷ (num 0 ⊖ (ry ⊗ xw ⊖ rx ⊗ yw), s ⊗ zc, (l ⊗ zw ⊖ rz ⊗ vw) ⊗ uc ⊕ (rz ⊗ uw) ⊗ vc) ∷ [])
    (ex, (ey, (ez, tt))) tt

middle_weight : (rx ry rz xw yw zw : ℤ)
    → (rz *ℤ xw -ℤ rx *ℤ zw) *ℤ yw ≡ (rz *ℤ yw -ℤ ry *ℤ zw) *ℤ xw +ℤ (ry *ℤ xw -ℤ rx *ℤ yw) *ℤ zw
middle_weight rx ry rz xw yw zw =
    ring_in (rx ∷ ry ∷ rz ∷ xw ∷ yw ∷ zw ∷ []) (λ rx ry rz xw yw zw. (rz ⊗ xw ⊖ rx ⊗ zw) ⊗ yw)
    (λ rx ry rz xw yw zw. (rz ⊗ yw ⊖ ry ⊗ zw) ⊗ xw ⊕ (ry ⊗ xw ⊖ rx ⊗ yw) ⊗ zw) tt

module _ (p q : Fraction) (apart : ¬ IsSame p q) where
  -- x is on the line of p and q
  abbrev IsOn : Fraction → Type 0
  IsOn x = bracket (vec p) (vec q) (vec x) ≡ pos 0

  -- points equally far along the line are one
  pub same_on_line : (x y : Fraction) → IsOn x → IsOn y
      → reach p q x *ℤ y.w ≡ reach p q y *ℤ x.w → IsSame x y
  same_on_line x y hx hy e =
      let n =
      pos-ne-zero_ℤ (mul-pos_ℤ {a = reach p q q} {b = p.w} (reach-end p q apart) p.positive) in
      record {
        x = mul_cancel_ℤ n (same_x p q x y hx hy e);
        y = mul_cancel_ℤ n (same_y p q x y hx hy e);
      }

  -- a point that comes after one and before another is within their segment
  pub within_on_line : (x y z : Fraction) → IsOn x → IsOn y → IsOn z
      → pos 0 <ℤ (reach p q y *ℤ x.w -ℤ reach p q x *ℤ y.w)
      → pos 0 <ℤ (reach p q z *ℤ y.w -ℤ reach p q y *ℤ z.w) → WithinSegment x z y
  within_on_line x y z hx hy hz before after = mean_of_two IsPositive x z y (record {
    k = reach p q z *ℤ y.w -ℤ reach p q y *ℤ z.w;
    l = reach p q y *ℤ x.w -ℤ reach p q x *ℤ y.w;
    n = reach p q z *ℤ x.w -ℤ reach p q x *ℤ z.w;
    k_allowed = after;
    l_allowed = before;
    positive =
        pos_of_mul-pos_ℤ {k = y.w} {x = reach p q z *ℤ x.w -ℤ reach p q x *ℤ z.w} y.positive (subst
        (λ t. pos 0 <ℤ t) (sym (middle_weight (reach p q x) (reach p q y) (reach p q z) x.w y.w z.w)
        ∙ lib.IntN.*ℤ_comm _ y.w) (sum (mul-pos_ℤ after x.positive) (mul-pos_ℤ before z.positive)));
    x = mul_cancel_ℤ n (middle_part (reach p q q *ℤ p.w) p.x q.x (reach p q x) (reach p q y)
        (reach p q z) x.x y.x z.x x.w y.w z.w (reach p q q) q.w p.w refl (weights_x p q x hx)
        (weights_x p q y hy) (weights_x p q z hz));
    y = mul_cancel_ℤ n (middle_part (reach p q q *ℤ p.w) p.y q.y (reach p q x) (reach p q y)
        (reach p q z) x.y y.y z.y x.w y.w z.w (reach p q q) q.w p.w refl (weights_y p q x hx)
        (weights_y p q y hy) (weights_y p q z hz));
    w = middle_weight (reach p q x) (reach p q y) (reach p q z) x.w y.w z.w;
  })
    where
      n : ¬ (reach p q q *ℤ p.w ≡ pos 0)
      n = pos-ne-zero_ℤ (mul-pos_ℤ {a = reach p q q} {b = p.w} (reach-end p q apart) p.positive)

      sum : {a b : ℤ} → pos 0 <ℤ a → pos 0 <ℤ b → pos 0 <ℤ (a +ℤ b)
      sum h k = omega (arith, ints)
