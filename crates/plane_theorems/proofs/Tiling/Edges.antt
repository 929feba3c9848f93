-- The sides of faces: no vertex is strictly within one, two different ones have no common point
-- strictly within both, and a closed face at a point strictly within one has it as a side. Where a
-- point is in a local mesh.
-- Notions: IsSideOf; mean_bracket, turned_within, within_on, within_second, within_third,
-- side_index, side_bare, sides_meet.
use Rattle.std.proofs.Common.{◌≡◌, ◌⊎◌, ℕ, ◌<◌, List, sym, ap, ◌∙◌, subst, arith}
use mathlib.Core.Logic.{inl, inr, ◌≢◌}
use Rattle.std.specs.Prelude.{ℤ, pos, ◌+ℤ◌, ◌*ℤ◌, ◌<ℤ◌}
use Rattle.std.proofs.lemmas.Int.{ints}
use Rattle.plane.specs.{Face, Fraction, IsPositive, Point, whole, WithinSegment}
use Rattle.plane.proofs.{both_signs, bracket, bracket-last, bracket-outer, bracket-swap}
use Rattle.plane.proofs.{bracket-turn, bracket_of_two, drop_zero, drop_zero_last, Inside, IsNudged}
use Rattle.plane.proofs.{left_not_zero, lift, mul-neg_of_pos_neg_ℤ, mul-pos_ℤ, near}
use Rattle.plane.proofs.{neg_of_mul-neg_ℤ, negated_left, negated_right, pos-ne-zero_ℤ}
use Rattle.plane.proofs.{pos_of_mul-pos_ℤ, right_not_zero, trichotomy_ℤ, turned_mean_of_two}
use Rattle.plane.proofs.{two_weights, TwoWeights, vec, Vec3, weak, zero-mul_ℤ, zero_of_mul-zero_ℤ}
use Rattle.plane.proofs.{LineOrder.overlap_ends, Signs.sum_of_zeros_from, zero_weak_left}
use Rattle.plane_theorems.proofs.Tiling.Counting.{at, corners_differ, same_index, SignMesh}
use Rattle.plane_theorems.proofs.Tiling.Counting.{within_turned}
use Rattle.plane_theorems.proofs.Tiling.Flows.{HasSide, IsTurnOf, turned}
use Rattle.plane_theorems.proofs.Tiling.Covering as C

-- ---- a point strictly within a segment, seen from a line
-- the side of a weighted mean is the mean of the sides
pub mean_bracket : (A : ℤ → Type 0) (s t u v : Point) (y : Fraction)
    (w : TwoWeights A (whole u) (whole v) y) → w.n *ℤ bracket (lift s) (lift t) (vec y)
    ≡ w.k *ℤ bracket (lift s) (lift t) (lift u) +ℤ w.l *ℤ bracket (lift s) (lift t) (lift v)
mean_bracket A s t u v y w = bracket_of_two A (lift s) (lift t) (whole u) (whole v) y w

-- a point strictly within a segment is so the other way round
pub turned_within : (a b y : Fraction) → WithinSegment a b y → WithinSegment b a y
turned_within a b y h = turned_mean_of_two IsPositive a b y h

other_right : (s a b : ℤ) → s ≡ a +ℤ b → s ≡ pos 0 → pos 0 <ℤ a → b <ℤ pos 0
other_right s a b e h k = omega (arith, ints)

other_left : (s a b : ℤ) → s ≡ a +ℤ b → s ≡ pos 0 → a <ℤ pos 0 → pos 0 <ℤ b
other_left s a b e h k = omega (arith, ints)

other_none : (s a b : ℤ) → s ≡ a +ℤ b → s ≡ pos 0 → a ≡ pos 0 → b ≡ pos 0
other_none s a b e h k = omega (arith, ints)

-- on the line of u v; and on a third point's side of the lines through it and an end
pub within_on : (u v : Point) (y : Fraction) → WithinSegment (whole u) (whole v) y
    → bracket (lift u) (lift v) (vec y) ≡ pos 0
within_on u v y h =
    let w = two_weights IsPositive (whole u) (whole v) y h in
    zero_of_mul-zero_ℤ (pos-ne-zero_ℤ w.positive)
    (sum_of_zeros_from (w.n *ℤ bracket (lift u) (lift v) (vec y))
    (w.k *ℤ bracket (lift u) (lift v) (lift u)) (w.l *ℤ bracket (lift u) (lift v) (lift v))
    (mean_bracket IsPositive u v u v y w) (zero-mul_ℤ w.k (bracket-outer (lift u) (lift v)))
    (zero-mul_ℤ w.l (bracket-last (lift u) (lift v))))

-- where u v k turns left, a point strictly within the segment of u and v is left of the way v to k
pub within_second : (u v k : Point) (y : Fraction) → WithinSegment (whole u) (whole v) y
    → pos 0 <ℤ bracket (lift u) (lift v) (lift k) → pos 0 <ℤ bracket (lift v) (lift k) (vec y)
within_second u v k y h turns =
    let w = two_weights IsPositive (whole u) (whole v) y h in
    pos_of_mul-pos_ℤ w.positive
    (subst (λ z. pos 0 <ℤ z) (sym (drop_zero_last (w.n *ℤ bracket (lift v) (lift k) (vec y))
    (w.k *ℤ bracket (lift v) (lift k) (lift u)) (w.l *ℤ bracket (lift v) (lift k) (lift v))
    (mean_bracket IsPositive v k u v y w) (zero-mul_ℤ w.l (bracket-outer (lift v) (lift k)))))
    (mul-pos_ℤ w.k_allowed
    (subst (λ z. pos 0 <ℤ z) (bracket-turn (lift u) (lift v) (lift k)) turns)))

-- where u v k turns left, a point strictly within the segment of u and v is left of the way k to u
pub within_third : (u v k : Point) (y : Fraction) → WithinSegment (whole u) (whole v) y
    → pos 0 <ℤ bracket (lift u) (lift v) (lift k) → pos 0 <ℤ bracket (lift k) (lift u) (vec y)
within_third u v k y h turns =
    let w = two_weights IsPositive (whole u) (whole v) y h in
    pos_of_mul-pos_ℤ w.positive
    (subst (λ z. pos 0 <ℤ z) (sym (drop_zero (w.n *ℤ bracket (lift k) (lift u) (vec y))
    (w.k *ℤ bracket (lift k) (lift u) (lift u)) (w.l *ℤ bracket (lift k) (lift u) (lift v))
    (mean_bracket IsPositive k u u v y w) (zero-mul_ℤ w.k (bracket-last (lift k) (lift u)))))
    (mul-pos_ℤ w.l_allowed (subst (λ z. pos 0 <ℤ z)
    (bracket-turn (lift u) (lift v) (lift k) ∙ bracket-turn (lift v) (lift k) (lift u)) turns)))

module _ (n : ℕ) (p : ℕ → Point) (faces : List Face) (outer : List (ℕ × ℕ))
    (m : SignMesh n p faces outer) where
  -- a side of a face, one way or the other
  abbrev pub IsSideOf : ℕ → ℕ → Type 0
  IsSideOf u v = HasSide faces u v ⊎ HasSide faces v u

  -- a side of a face joins two different vertices
  pub side_index : (u v : ℕ) → IsSideOf u v → (u < n) × (v < n) × (u ≢ v)
  side_index u v (inl s) = let c = C.turn_corners n p faces outer m u v s.0 s.1 in
      (c.0, c.1, (corners_differ p u v s.0 (C.turn_left_of n p faces outer m u v s.0 s.1)).0)
  side_index u v (inr s) = let c = C.turn_corners n p faces outer m v u s.0 s.1 in (
    c.1,
    c.0,
    λ e. (corners_differ p v u s.0 (C.turn_left_of n p faces outer m v u s.0 s.1)).0 (sym e),
  )

  no_vertex_on : (u v z : ℕ) → HasSide faces u v → z < n
      → ¬ WithinSegment (whole (p u)) (whole (p v)) (whole (p z))
  no_vertex_on u v z s h w =
      let k = s.0 in
      let turns = C.turn_left_of n p faces outer m u v k s.1 in
      let second = within_second (p u) (p v) (p k) (whole (p z)) w turns in
      let third = within_third (p u) (p v) (p k) (whole (p z)) w turns in
      go (C.vertex_in_face n p faces outer m z u v k h s.1 (zero_weak_left
      (within_on (p u) (p v) (whole (p z)) w)) (weak second) (weak third)) second third
    where
      go : (z ≡ u) ⊎ ((z ≡ v) ⊎ (z ≡ s.0)) → pos 0 <ℤ bracket (at p v) (at p s.0) (at p z)
          → pos 0 <ℤ bracket (at p s.0) (at p u) (at p z) → ⊥
      go (inl e) a b = left_not_zero b
          (ap (λ i. bracket (at p s.0) (at p u) (at p i)) e ∙ bracket-last (at p s.0) (at p u))
      go (inr (inl e)) a b = left_not_zero a
          (ap (λ i. bracket (at p v) (at p s.0) (at p i)) e ∙ bracket-outer (at p v) (at p s.0))
      go (inr (inr e)) a b = left_not_zero a
          (ap (λ i. bracket (at p v) (at p s.0) (at p i)) e ∙ bracket-last (at p v) (at p s.0))

  -- no vertex is strictly within a side
  pub side_bare : (u v z : ℕ) → IsSideOf u v → z < n
      → ¬ WithinSegment (whole (p u)) (whole (p v)) (whole (p z))
  side_bare u v z (inl s) h w = no_vertex_on u v z s h w
  side_bare u v z (inr s) h w = no_vertex_on v u z s h (within_turned (p u) (p v) (p z) w)

  -- ---- two sides with a common point strictly within both
  module _ (y : Fraction) where
    -- on one line: they have the same ends
    on_one_line : (a b c d : ℕ) → IsSideOf a b → IsSideOf c d
        → WithinSegment (whole (p a)) (whole (p b)) y → WithinSegment (whole (p c)) (whole (p d)) y
        → bracket (at p a) (at p b) (at p c) ≡ pos 0 → bracket (at p a) (at p b) (at p d) ≡ pos 0
        → ((c ≡ a) × (d ≡ b)) ⊎ ((c ≡ b) × (d ≡ a))
    on_one_line a b c d first second w v on_c on_d =
        go (overlap_ends (p a) (p b) (p c) (p d)
        (m.distinct a b ends_first.0 ends_first.1 ends_first.2) on_c on_d y w v
        (side_bare a b c first ends_second.0) (side_bare a b d first ends_second.1)
        (side_bare c d a second ends_first.0) (side_bare c d b second ends_first.1))
      where
        ends_first : (a < n) × (b < n) × (a ≢ b)
        ends_first = side_index a b first

        ends_second : (c < n) × (d < n) × (c ≢ d)
        ends_second = side_index c d second

        go : ((p c ≡ p a) × (p d ≡ p b)) ⊎ ((p c ≡ p b) × (p d ≡ p a))
            → ((c ≡ a) × (d ≡ b)) ⊎ ((c ≡ b) × (d ≡ a))
        go (inl e) = inl (
          same_index n p m.distinct c a ends_second.0 ends_first.0 e.0,
          same_index n p m.distinct d b ends_second.1 ends_first.1 e.1,
        )
        go (inr e) = inr (
          same_index n p m.distinct c b ends_second.0 ends_first.1 e.0,
          same_index n p m.distinct d a ends_second.1 ends_first.0 e.1,
        )

    -- near y, towards q first and then towards r: inside a face on u v, if y is strictly within u
    -- v, q is on it and r the third corner; or if q is left of it
    inside_towards : (u v k : ℕ) → IsTurnOf faces u v k
        → WithinSegment (whole (p u)) (whole (p v)) y → (q r z z' : Vec3) → IsNudged n p (vec y) q z
        → IsNudged n p z r z' → (pos 0 <ℤ bracket (at p u) (at p v) q)
        ⊎ ((bracket (at p u) (at p v) q ≡ pos 0) × (pos 0 <ℤ bracket (at p u) (at p v) r))
        → Inside (at p u) (at p v) (at p k) z'
    inside_towards u v k f w q r z z' s t h =
        let c = C.turn_corners n p faces outer m u v k f in
        let turns = C.turn_left_of n p faces outer m u v k f in
        record {
          first = go c.0 c.1 h;
          second = (t.sides v k c.1 c.2).left
              ((s.sides v k c.1 c.2).left (within_second (p u) (p v) (p k) y w turns));
          third = (t.sides k u c.2 c.0).left
              ((s.sides k u c.2 c.0).left (within_third (p u) (p v) (p k) y w turns));
        }
      where
        go : u < n → v < n → (pos 0 <ℤ bracket (at p u) (at p v) q)
            ⊎ ((bracket (at p u) (at p v) q ≡ pos 0) × (pos 0 <ℤ bracket (at p u) (at p v) r))
            → pos 0 <ℤ bracket (at p u) (at p v) z'
        go i j (inl l) = (t.sides u v i j).left
            (subst (λ x. pos 0 <ℤ x) (sym ((s.sides u v i j).on (within_on (p u) (p v) y w))) l)
        go i j (inr l) = subst (λ x. pos 0 <ℤ x) (sym
            ((t.sides u v i j).on ((s.sides u v i j).on (within_on (p u) (p v) y w) ∙ l.0))) l.1

    -- no side has c on its left and d on its right
    never_across : (a b c d : ℕ) → HasSide faces a b → IsSideOf c d
        → WithinSegment (whole (p a)) (whole (p b)) y → WithinSegment (whole (p c)) (whole (p d)) y
        → pos 0 <ℤ bracket (at p a) (at p b) (at p c)
        → bracket (at p a) (at p b) (at p d) <ℤ pos 0 → ⊥
    never_across a b c d (e, f) second w v left right = go second
      where
        z : (k : ℕ) → (z' : Vec3)
            × ((z : Vec3) × IsNudged n p (vec y) (at p c) z × IsNudged n p z (at p k) z')
        z k = let first = near n p (vec y) (at p c) y.positive (record { lt = tt }) in
            let next = near n p first.0 (at p k) first.1.weight (record { lt = tt }) in
            (next.0, (first.0, first.1, next.1))

        both : (i k l : ℕ) → IsTurnOf faces i k l → (z' : Vec3) → pos 0 <ℤ z'.w
            → Inside (at p i) (at p k) (at p l) z' → Inside (at p a) (at p b) (at p e) z'
            → (i ≡ a) ⊎ ((i ≡ b) ⊎ (i ≡ e))
        both i k l g z' weight x t = C.shared_corner n p faces outer m i k l a b e g f z' weight x t

        c_is : (c ≡ a) ⊎ ((c ≡ b) ⊎ (c ≡ e)) → c ≡ e
        c_is (inl h) = absurd (left_not_zero left
            (ap (λ i. bracket (at p a) (at p b) (at p i)) h ∙ bracket-outer (at p a) (at p b)))
        c_is (inr (inl h)) = absurd (left_not_zero left
            (ap (λ i. bracket (at p a) (at p b) (at p i)) h ∙ bracket-last (at p a) (at p b)))
        c_is (inr (inr h)) = h

        d_is : (d ≡ a) ⊎ ((d ≡ b) ⊎ (d ≡ e)) → d ≡ e
        d_is (inl h) = absurd (right_not_zero right
            (ap (λ i. bracket (at p a) (at p b) (at p i)) h ∙ bracket-outer (at p a) (at p b)))
        d_is (inr (inl h)) = absurd (right_not_zero right
            (ap (λ i. bracket (at p a) (at p b) (at p i)) h ∙ bracket-last (at p a) (at p b)))
        d_is (inr (inr h)) = h

        end : c ≡ e → d ≡ e → ⊥
        end h k = both_signs
            (subst (λ i. pos 0 <ℤ bracket (at p a) (at p b) (at p i)) (h ∙ sym k) left) right

        go : IsSideOf c d → ⊥
        go (inl (k, g)) =
            let x = z k in
            let in_g = inside_towards c d k g v (at p c) (at p k) x.1.0 x.0 x.1.1 x.1.2
            (inr (bracket-outer (at p c) (at p d), C.turn_left_of n p faces outer m c d k g)) in
            let in_f =
            inside_towards a b e f w (at p c) (at p k) x.1.0 x.0 x.1.1 x.1.2 (inl left) in
            end (c_is (both c d k g x.0 x.1.2.weight in_g in_f))
            (d_is (both d k c (turned faces c d k g) x.0 x.1.2.weight
            (record { first = in_g.second; second = in_g.third; third = in_g.first }) in_f))
        go (inr (k, g)) =
            let x = z k in
            let in_g = inside_towards d c k g (turned_within (whole (p c)) (whole (p d)) y v)
            (at p c) (at p k) x.1.0 x.0 x.1.1 x.1.2
            (inr (bracket-last (at p d) (at p c), C.turn_left_of n p faces outer m d c k g)) in
            let in_f =
            inside_towards a b e f w (at p c) (at p k) x.1.0 x.0 x.1.1 x.1.2 (inl left) in
            end (c_is (both c k d (turned faces d c k g) x.0 x.1.2.weight
            (record { first = in_g.second; second = in_g.third; third = in_g.first }) in_f))
            (d_is (both d c k g x.0 x.1.2.weight in_g in_f))

    -- two sides with a common point strictly within both are one
    pub sides_meet : (a b c d : ℕ) → IsSideOf a b → IsSideOf c d
        → WithinSegment (whole (p a)) (whole (p b)) y → WithinSegment (whole (p c)) (whole (p d)) y
        → ((c ≡ a) × (d ≡ b)) ⊎ ((c ≡ b) × (d ≡ a))
    sides_meet a b c d first second w v =
        go first (trichotomy_ℤ (bracket (at p a) (at p b) (at p c)))
      where
        r : TwoWeights IsPositive (whole (p c)) (whole (p d)) y
        r = two_weights IsPositive (whole (p c)) (whole (p d)) y v

        level : r.n *ℤ bracket (at p a) (at p b) (vec y) ≡ pos 0
        level = zero-mul_ℤ r.n (within_on (p a) (p b) y w)

        parts : r.n *ℤ bracket (at p a) (at p b) (vec y)
            ≡ r.k *ℤ bracket (at p a) (at p b) (at p c) +ℤ r.l *ℤ bracket (at p a) (at p b) (at p d)
        parts = mean_bracket IsPositive (p a) (p b) (p c) (p d) y r

        d_right : pos 0 <ℤ bracket (at p a) (at p b) (at p c)
            → bracket (at p a) (at p b) (at p d) <ℤ pos 0
        d_right h = neg_of_mul-neg_ℤ r.l_allowed (other_right
            (r.n *ℤ bracket (at p a) (at p b) (vec y)) (r.k *ℤ bracket (at p a) (at p b) (at p c))
            (r.l *ℤ bracket (at p a) (at p b) (at p d)) parts level (mul-pos_ℤ r.k_allowed h))

        d_left : bracket (at p a) (at p b) (at p c) <ℤ pos 0
            → pos 0 <ℤ bracket (at p a) (at p b) (at p d)
        d_left h =
            pos_of_mul-pos_ℤ r.l_allowed (other_left (r.n *ℤ bracket (at p a) (at p b) (vec y))
            (r.k *ℤ bracket (at p a) (at p b) (at p c)) (r.l *ℤ bracket (at p a) (at p b) (at p d))
            parts level (mul-neg_of_pos_neg_ℤ r.k_allowed h))

        d_on : bracket (at p a) (at p b) (at p c) ≡ pos 0
            → bracket (at p a) (at p b) (at p d) ≡ pos 0
        d_on h = zero_of_mul-zero_ℤ (pos-ne-zero_ℤ r.l_allowed)
            (other_none (r.n *ℤ bracket (at p a) (at p b) (vec y)) (r.k *ℤ bracket (at p a) (at p b)
            (at p c)) (r.l *ℤ bracket (at p a) (at p b) (at p d)) parts level (zero-mul_ℤ r.k h))

        back : IsSideOf c d → IsSideOf d c
        back (inl s) = inr s
        back (inr s) = inl s

        w' : WithinSegment (whole (p b)) (whole (p a)) y
        w' = turned_within (whole (p a)) (whole (p b)) y w

        v' : WithinSegment (whole (p d)) (whole (p c)) y
        v' = turned_within (whole (p c)) (whole (p d)) y v

        from_left : (k : ℕ) → pos 0 <ℤ bracket (at p a) (at p b) (at p k)
            → bracket (at p b) (at p a) (at p k) <ℤ pos 0
        from_left k h = negated_right (bracket-swap (at p b) (at p a) (at p k)) h

        from_right : (k : ℕ) → bracket (at p a) (at p b) (at p k) <ℤ pos 0
            → pos 0 <ℤ bracket (at p b) (at p a) (at p k)
        from_right k h = negated_left (bracket-swap (at p b) (at p a) (at p k)) h

        go : IsSideOf a b → (bracket (at p a) (at p b) (at p c) <ℤ pos 0)
            ⊎ ((bracket (at p a) (at p b) (at p c) ≡ pos 0)
            ⊎ (pos 0 <ℤ bracket (at p a) (at p b) (at p c)))
            → ((c ≡ a) × (d ≡ b)) ⊎ ((c ≡ b) × (d ≡ a))
        go s (inr (inl h)) = on_one_line a b c d first second w v h (d_on h)
        go (inl s) (inr (inr h)) = absurd (never_across a b c d s second w v h (d_right h))
        go (inl s) (inl h) = absurd (never_across a b d c s (back second) w v' (d_left h) h)
        go (inr s) (inr (inr h)) = absurd
            (never_across b a d c s (back second) w' v' (from_right d (d_right h)) (from_left c h))
        go (inr s) (inl h) =
            absurd (never_across b a c d s second w' v (from_right c h) (from_left d (d_left h)))
