-- The order of the right ends as seen from the start, their ranks, and that a flip lowers the sum
-- of ranks.
-- Notions: Precedes, IsBefore-trans, ranked; off, rank_positive, and_true, and_first, and_second,
-- rank_falls, same_values, strictly_nearer, ranked_nonneg, ranked_two, sum_falls.
use Rattle.std.proofs.Common.{◌≡◌, ◌⊎◌, ◌+◌, ◌<◌, ◌≤◌, [], ◌∷◌, ◌∙◌}
use Rattle.std.proofs.Common.{ℕ, zero, suc, List, length, refl, sym, ap, subst, arith}
use mathlib.Core.Logic.{inl, inr}
use Rattle.std.specs.Prelude.{◌+ℤ◌, ◌-ℤ◌, ◌*ℤ◌, ◌≤ℤ◌, ◌<ℤ◌, ◌&&◌, if◌then◌else◌}
use Rattle.std.specs.Prelude.{ℤ, pos, neg_ℤ, Bool, true, false, int_lt}
use Rattle.std.proofs.lemmas.Int.{ints}
use Rattle.std.proofs.lemmas.Bool.{cases_eq}
use lib.IntN.{*ℤ_comm}
use Rattle.plane.specs.{Point, squared_vector, turn_at}
use Rattle.plane.proofs.{◌⊕◌, ◌⊖◌, ◌⊗◌, at_most_both_ways, at_most_itself, left_not_zero}
use Rattle.plane.proofs.{less_by_test, lt_or_ge_ℤ, mul-neg_of_pos_neg_ℤ, mul-nonneg_ℤ}
use Rattle.plane.proofs.{mul-nonpos_of_nonneg_nonpos_ℤ, mul_cancel_ℤ, negated_negative}
use Rattle.plane.proofs.{negated_not_negative, no_difference, points as points_shape}
use Rattle.plane.proofs.{product_zero_left, right_not_above, right_not_zero, ring_in, ring_in_from}
use Rattle.plane.proofs.{ring_over, same_have_no_difference, square-nonneg_ℤ, squares_vanish}
use Rattle.plane.proofs.{sum_not_negative_of, test_false, test_true, trichotomy_ℤ, weak, weak_right}
use Rattle.plane.proofs.{zero-mul_ℤ, zero_of_mul-zero_ℤ, zero_or_left, zero_weak, zero_weak_left, ⊝}
use Rattle.plane.proofs.Signs.{difference_of_zeros, same_after_shift, sum_of_zeros_from}
use Rattle.plane_theorems.specs.{point_of}
use Rattle.plane_theorems.specs.Segments.Measure.{comes_before, is_right, one_if, rank_below}
use Rattle.plane_theorems.proofs.Segments.Crossing.Turns.{turn-same, turnᵖ}

-- ---- tests
only_false : Bool → Type 0
only_false true = ⊥
only_false false = Unit {0}

-- the two truth values differ
pub off : false ≡ true → ⊥
unfolding only_false
off e = subst only_false e tt

-- ---- the order
-- u comes before v, seen from i
abbrev pub Precedes : Point → Point → Point → Type 0
Precedes i u v = (pos 0 <ℤ turn_at i v u)
    ⊎ ((turn_at i v u ≡ pos 0) × (squared_vector i u <ℤ squared_vector i v))

before_test : (i u v : Point) → Precedes i u v → comes_before i u v ≡ true
before_test i u v (inl h) = rw (test_true (pos 0) (turn_at i v u) h)
before_test i u v (inr h) =
    rw (
      test_false (pos 0) (turn_at i v u) (zero_weak h.0),
      test_false (turn_at i v u) (pos 0)
          (zero_weak_left h.0),
    ) (test_true (squared_vector i u) (squared_vector i v) h.1)

by_tests : (t a b : ℤ)
    → (if int_lt (pos 0) t then true else (if int_lt t (pos 0) then false else int_lt a b)) ≡ true
    → (pos 0 <ℤ t) ⊎ ((t ≡ pos 0) × (a <ℤ b))
by_tests t a b h = go (trichotomy_ℤ t)
  where
    wrong : false ≡ true → (pos 0 <ℤ t) ⊎ ((t ≡ pos 0) × (a <ℤ b))
    wrong e = absurd (off e)

    go : (t <ℤ pos 0) ⊎ ((t ≡ pos 0) ⊎ (pos 0 <ℤ t)) → (pos 0 <ℤ t) ⊎ ((t ≡ pos 0) × (a <ℤ b))
    go (inr (inr k)) = inl k
    go (inr (inl e)) = inr (
      e,
      less_by_test a b
          (rw (test_false (pos 0) t (zero_weak e), test_false t (pos 0) (zero_weak_left e)) at h),
    )
    go (inl k) = wrong (rw (test_false (pos 0) t (weak_right k), test_true t (pos 0) k) at h)

test_before : (i u v : Point) → comes_before i u v ≡ true → Precedes i u v
test_before i u v h = by_tests (turn_at i v u) (squared_vector i u) (squared_vector i v) h

three_turns : (i j u v w : Point) → turn_at i j v *ℤ turn_at i w u
    ≡ turn_at i j w *ℤ turn_at i v u +ℤ turn_at i j u *ℤ turn_at i w v
three_turns i j u v w = ring_over points_shape [] (i ∷ j ∷ u ∷ v ∷ w ∷ []) (λ i j u v w. turnᵖ i j v
    ⊗ turnᵖ i w u) (λ i j u v w. turnᵖ i j w ⊗ turnᵖ i v u ⊕ turnᵖ i j u ⊗ turnᵖ i w v) tt

-- before is transitive among the points on the right
both_weak : (fv tw fw tu fu tk : ℤ) → fv *ℤ tw ≡ fw *ℤ tu +ℤ fu *ℤ tk → fv <ℤ pos 0 → fw <ℤ pos 0
    → fu <ℤ pos 0 → pos 0 ≤ℤ tu → pos 0 ≤ℤ tk
    → (pos 0 <ℤ tw) ⊎ ((tw ≡ pos 0) × (tu ≡ pos 0) × (tk ≡ pos 0))
both_weak fv tw fw tu fu tk e hv hw hu a b = go (zero_or_left a) (zero_or_left b)
  where
    negatives : (a b : ℤ) → (neg_ℤ a) *ℤ (neg_ℤ b) ≡ a *ℤ b
    negatives a b = ring_in (a ∷ b ∷ []) (λ a b. (⊝ a) ⊗ (⊝ b)) (λ a b. a ⊗ b) tt

    weak_product : (a b : ℤ) → a <ℤ pos 0 → pos 0 ≤ℤ b → (a *ℤ b) ≤ℤ pos 0
    weak_product a b h k =
        subst (λ z. z ≤ℤ pos 0) (*ℤ_comm b a) (mul-nonpos_of_nonneg_nonpos_ℤ k (weak_right h))

    strict_product : (a b : ℤ) → a <ℤ pos 0 → pos 0 <ℤ b → (a *ℤ b) <ℤ pos 0
    strict_product a b h k = subst (λ z. z <ℤ pos 0) (*ℤ_comm b a) (mul-neg_of_pos_neg_ℤ k h)

    positive : (fv *ℤ tw) <ℤ pos 0 → pos 0 <ℤ tw
    positive h = by (lt_or_ge_ℤ (pos 0) tw)
      where
        by : (pos 0 <ℤ tw) ⊎ (tw ≤ℤ pos 0) → pos 0 <ℤ tw
        by (inl k) = k
        by (inr k) = absurd (right_not_above h (subst (λ z. pos 0 ≤ℤ z) (negatives fv tw)
            (mul-nonneg_ℤ (negated_negative hv) (negated_not_negative k))))

    sum_low : (p q r : ℤ) → p ≡ q +ℤ r → q <ℤ pos 0 → r ≤ℤ pos 0 → p <ℤ pos 0
    sum_low p q r e h k = omega (arith, ints)

    sum_low' : (p q r : ℤ) → p ≡ q +ℤ r → q ≤ℤ pos 0 → r <ℤ pos 0 → p <ℤ pos 0
    sum_low' p q r e h k = omega (arith, ints)

    go : (tu ≡ pos 0) ⊎ (pos 0 <ℤ tu) → (tk ≡ pos 0) ⊎ (pos 0 <ℤ tk)
        → (pos 0 <ℤ tw) ⊎ ((tw ≡ pos 0) × (tu ≡ pos 0) × (tk ≡ pos 0))
    go (inr x) y = inl (positive (sum_low (fv *ℤ tw) (fw *ℤ tu) (fu *ℤ tk) e
        (strict_product fw tu hw x) (weak_product fu tk hu b)))
    go (inl x) (inr y) = inl (positive (sum_low' (fv *ℤ tw) (fw *ℤ tu) (fu *ℤ tk) e
        (weak_product fw tu hw a) (strict_product fu tk hu y)))
    go (inl x) (inl y) = inr (
      zero_of_mul-zero_ℤ (λ z. right_not_zero hv z) (sum_of_zeros_from
          (fv *ℤ tw) (fw *ℤ tu) (fu *ℤ tk) e (zero-mul_ℤ fw x) (zero-mul_ℤ fu y)),
      x,
      y,
    )

-- seen from i, the order of the points on the right goes through
pub IsBefore-trans : (i j u v w : Point) → turn_at i j u <ℤ pos 0 → turn_at i j v <ℤ pos 0
    → turn_at i j w <ℤ pos 0 → Precedes i u v → Precedes i v w → Precedes i u w
IsBefore-trans i j u v w hu hv hw a b =
    go (both_weak (turn_at i j v) (turn_at i w u) (turn_at i j w) (turn_at i v u) (turn_at i j u)
    (turn_at i w v) (three_turns i j u v w) hv hw hu (at_least a) (at_least b)) a b
  where
    at_least : {t a b : ℤ} → (pos 0 <ℤ t) ⊎ ((t ≡ pos 0) × (a <ℤ b)) → pos 0 ≤ℤ t
    at_least (inl h) = weak h
    at_least (inr h) = let e = h.0 in omega (arith, ints)

    below : {x y z : ℤ} → x <ℤ y → y <ℤ z → x <ℤ z
    below h k = omega (arith, ints)

    go : (pos 0 <ℤ turn_at i w u)
        ⊎ ((turn_at i w u ≡ pos 0) × (turn_at i v u ≡ pos 0) × (turn_at i w v ≡ pos 0))
        → (pos 0 <ℤ turn_at i v u)
        ⊎ ((turn_at i v u ≡ pos 0) × (squared_vector i u <ℤ squared_vector i v))
        → (pos 0 <ℤ turn_at i w v)
        ⊎ ((turn_at i w v ≡ pos 0) × (squared_vector i v <ℤ squared_vector i w))
        → (pos 0 <ℤ turn_at i w u)
        ⊎ ((turn_at i w u ≡ pos 0) × (squared_vector i u <ℤ squared_vector i w))
    go (inl h) x y = inl h
    go (inr e) (inl x) y = absurd (left_not_zero x e.1)
    go (inr e) (inr x) (inl y) = absurd (left_not_zero y e.2)
    go (inr e) (inr x) (inr y) = inr (e.0, below x.1 y.1)

-- ---- ranks
one_if_most : (b c : Bool) → (b ≡ true → c ≡ true) → one_if b ≤ one_if c
one_if_most true true h = omega arith
one_if_most true false h = absurd (off (h refl))
one_if_most false true h = omega arith
one_if_most false false h = omega arith

module _ (points : List Point) (i j v w : Point) (more : (k : ℕ)
    → (is_right i j (point_of points k) && comes_before i (point_of points k) v) ≡ true
    → (is_right i j (point_of points k) && comes_before i (point_of points k) w) ≡ true) where
  rank_most : (n : ℕ) → rank_below points i j v n ≤ rank_below points i j w n
  rank_most zero = omega arith
  rank_most (suc k) =
      both (one_if (is_right i j (point_of points k) && comes_before i (point_of points k) v))
      (one_if (is_right i j (point_of points k) && comes_before i (point_of points k) w))
      (rank_below points i j v k) (rank_below points i j w k)
      (one_if_most (is_right i j (point_of points k) && comes_before i (point_of points k) v)
      (is_right i j (point_of points k) && comes_before i (point_of points k) w) (more k))
      (rank_most k)
    where
      both : (a b c d : ℕ) → a ≤ b → c ≤ d → a + c ≤ b + d
      both a b c d h k = omega arith

  rank_less : (n k : ℕ) → k < n
      → (is_right i j (point_of points k) && comes_before i (point_of points k) v) ≡ false
      → (is_right i j (point_of points k) && comes_before i (point_of points k) w) ≡ true
      → rank_below points i j v n < rank_below points i j w n
  rank_less zero k h e f = absurd (omega arith)
  rank_less (suc n) k h e f = by (cases_eq k n) (λ l. rank_less n k l e f)
    where
      smaller : (k ≡ n → ⊥) → k < n
      smaller m = grind arith

      here : (a b : Bool) (c d : ℕ) → a ≡ false → b ≡ true → c ≤ d → one_if a + c < one_if b + d
      here true b c d x y l = absurd (off (sym x))
      here false true c d x y l = omega arith
      here false false c d x y l = absurd (off y)

      there : (a b c d : ℕ) → a ≤ b → c < d → a + c < b + d
      there a b c d h k = omega arith

      by : (k ≡ n) ⊎ (k ≡ n → ⊥) → (k < n → rank_below points i j v n < rank_below points i j w n)
          → one_if (is_right i j (point_of points n) && comes_before i (point_of points n) v)
          + rank_below points i j v n
          < one_if (is_right i j (point_of points n) && comes_before i (point_of points n) w)
          + rank_below points i j w n
      by (inl q) rest =
          here (is_right i j (point_of points n) && comes_before i (point_of points n) v)
          (is_right i j (point_of points n) && comes_before i (point_of points n) w)
          (rank_below points i j v n) (rank_below points i j w n)
          (subst (λ (m : ℕ). (is_right i j (point_of points m) && comes_before i (point_of points m)
          v) ≡ false) q e) (subst (λ (m : ℕ). (is_right i j (point_of points m) && comes_before
          i (point_of points m) w) ≡ true) q f) (rank_most n)
      by (inr m) rest =
          there (one_if (is_right i j (point_of points n) && comes_before i (point_of points n) v))
          (one_if (is_right i j (point_of points n) && comes_before i (point_of points n) w))
          (rank_below points i j v n) (rank_below points i j w n)
          (one_if_most (is_right i j (point_of points n) && comes_before i (point_of points n) v)
          (is_right i j (point_of points n) && comes_before i (point_of points n) w) (more n))
          (rest (smaller m))

-- a rank is at least 1
pub rank_positive : (points : List Point) (i j v : Point) (n : ℕ) → 1 ≤ rank_below points i j v n
rank_positive points i j v zero = omega arith
rank_positive points i j v (suc n) = let r = rank_positive points i j v n in omega arith

-- a conjunction holds where both parts do
pub and_true : (a b : Bool) → a ≡ true → b ≡ true → (a && b) ≡ true
and_true true true h k = refl
and_true true false h k = k
and_true false b h k = h

-- where a conjunction holds, its first part does
pub and_first : (a b : Bool) → (a && b) ≡ true → a ≡ true
and_first true b h = refl
and_first false b h = h

-- where a conjunction holds, its second part does
pub and_second : (a b : Bool) → (a && b) ≡ true → b ≡ true
and_second true b h = h
and_second false b h = absurd (off h)

and_off : (a b : Bool) → b ≡ false → (a && b) ≡ false
and_off true b h = h
and_off false b h = refl

not_before_itself : (i p : Point) → comes_before i p p ≡ false
not_before_itself i p = rw (
  test_false (pos 0) (turn_at i p p) (zero_weak (turn-same i p)),
  test_false (turn_at i p p) (pos 0) (zero_weak_left (turn-same i p)),
)
    (test_false (squared_vector i p) (squared_vector i p) (at_most_itself (squared_vector i p)))

-- what comes before has the lesser rank
pub rank_falls : (points : List Point) (i j w : Point) (k : ℕ) → k < length points
    → turn_at i j (point_of points k) <ℤ pos 0 → turn_at i j w <ℤ pos 0
    → Precedes i (point_of points k) w → rank_below points i j (point_of points k) (length points)
    < rank_below points i j w (length points)
rank_falls points i j w k h hk hw b =
    rank_less points i j (point_of points k) w more (length points) k h
    (and_off (is_right i j (point_of points k)) (comes_before i (point_of points k)
    (point_of points k)) (not_before_itself i (point_of points k)))
    (and_true (is_right i j (point_of points k)) (comes_before i (point_of points k) w) (test_true
    (turn_at i j (point_of points k)) (pos 0) hk) (before_test i (point_of points k) w b))
  where
    more : (m : ℕ) → (is_right i j (point_of points m) && comes_before i (point_of points m)
        (point_of points k)) ≡ true
        → (is_right i j (point_of points m) && comes_before i (point_of points m) w) ≡ true
    more m e =
        let r = and_first (is_right i j (point_of points m))
        (comes_before i (point_of points m) (point_of points k)) e in
        let c = test_before i (point_of points m) (point_of points k) (and_second (is_right i j
        (point_of points m)) (comes_before i (point_of points m) (point_of points k)) e) in
        and_true (is_right i j (point_of points m)) (comes_before i (point_of points m) w) r
        (before_test i (point_of points m) w (IsBefore-trans i j (point_of points m) (point_of
        points k) w (less_by_test (turn_at i j (point_of points m)) (pos 0) r) hk hw c b))

-- ---- two points of one ray at one distance
ray_x : (i j v z : Point)
    → turn_at i j z *ℤ (v.x -ℤ i.x) -ℤ turn_at i j v *ℤ (z.x -ℤ i.x) ≡ turn_at i v z *ℤ (j.x -ℤ i.x)
ray_x i j v z = ring_over points_shape [] (i ∷ j ∷ v ∷ z ∷ []) (λ i j v z. turnᵖ i j z ⊗ (v.x ⊖ i.x)
    ⊖ turnᵖ i j v ⊗ (z.x ⊖ i.x)) (λ i j v z. turnᵖ i v z ⊗ (j.x ⊖ i.x)) tt

-- the ways from i to v and to z, weighted by turns, differ by a multiple of that to j, in y
ray_y : (i j v z : Point)
    → turn_at i j z *ℤ (v.y -ℤ i.y) -ℤ turn_at i j v *ℤ (z.y -ℤ i.y) ≡ turn_at i v z *ℤ (j.y -ℤ i.y)
ray_y i j v z = ring_over points_shape [] (i ∷ j ∷ v ∷ z ∷ []) (λ i j v z. turnᵖ i j z ⊗ (v.y ⊖ i.y)
    ⊖ turnᵖ i j v ⊗ (z.y ⊖ i.y)) (λ i j v z. turnᵖ i v z ⊗ (j.y ⊖ i.y)) tt

-- the values f of z and g of v, the ways a b to v and c d to z
pub same_values : (f g a b c d : ℤ) → f *ℤ a ≡ g *ℤ c → f *ℤ b ≡ g *ℤ d
    → (f *ℤ f) *ℤ (a *ℤ a +ℤ b *ℤ b) ≡ (g *ℤ g) *ℤ (c *ℤ c +ℤ d *ℤ d)
same_values f g a b c d e h = ring_in_from (f ∷ g ∷ a ∷ b ∷ c ∷ d ∷ [])
    (λ f g a b c d. (f ⊗ f) ⊗ (a ⊗ a ⊕ b ⊗ b)) (λ f g a b c d. (g ⊗ g) ⊗ (c ⊗ c ⊕ d ⊗ d))
    (λ f g a b c d. (f ⊗ a ⊕ g ⊗ c, f ⊗ a, g ⊗ c) ∷ (f ⊗ b ⊕ g ⊗ d, f ⊗ b, g ⊗ d) ∷ [])
    (e, (h, tt)) tt

-- both below 0
equal_squares : (f g s : ℤ) → f <ℤ pos 0 → g <ℤ pos 0 → pos 0 <ℤ s
    → (f *ℤ f) *ℤ s ≡ (g *ℤ g) *ℤ s → f ≡ g
equal_squares f g s hf hg hs e = go (trichotomy_ℤ (f -ℤ g))
  where
    product : (f g s : ℤ) → (f -ℤ g) *ℤ ((f +ℤ g) *ℤ s) ≡ (f *ℤ f) *ℤ s -ℤ (g *ℤ g) *ℤ s
    product f g s = ring_in (f ∷ g ∷ s ∷ []) (λ f g s. (f ⊖ g) ⊗ ((f ⊕ g) ⊗ s))
        (λ f g s. (f ⊗ f) ⊗ s ⊖ (g ⊗ g) ⊗ s) tt

    low : (f g : ℤ) → f <ℤ pos 0 → g <ℤ pos 0 → (f +ℤ g) <ℤ pos 0
    low f g h k = omega (arith, ints)

    factor : ((f +ℤ g) *ℤ s) <ℤ pos 0
    factor = subst (λ z. z <ℤ pos 0) (*ℤ_comm s (f +ℤ g)) (mul-neg_of_pos_neg_ℤ hs (low f g hf hg))

    go : ((f -ℤ g) <ℤ pos 0) ⊎ ((f -ℤ g ≡ pos 0) ⊎ (pos 0 <ℤ (f -ℤ g))) → f ≡ g
    go d = no_difference f g (zero_of_mul-zero_ℤ (λ z. right_not_zero factor z) (*ℤ_comm ((f +ℤ g)
        *ℤ s) (f -ℤ g) ∙ product f g s ∙ same_have_no_difference ((f *ℤ f) *ℤ s) ((g *ℤ g) *ℤ s) e))

-- of two different points on one ray from i, the one that is not farther from i is nearer
pub strictly_nearer : (i j v z : Point) → turn_at i v z ≡ pos 0 → turn_at i j z <ℤ pos 0
    → turn_at i j v <ℤ pos 0 → squared_vector i z ≤ℤ squared_vector i v → ¬ (z ≡ v)
    → squared_vector i z <ℤ squared_vector i v
strictly_nearer i j v z tie hz hv near apart =
    go (lt_or_ge_ℤ (squared_vector i z) (squared_vector i v)) (zero_or_left way_nonneg)
  where
    a : ℤ
    a = v.x -ℤ i.x

    way_nonneg : pos 0 ≤ℤ squared_vector i v
    way_nonneg = sum_not_negative_of (square-nonneg_ℤ (v.x -ℤ i.x)) (square-nonneg_ℤ (v.y -ℤ i.y))

    same : (f g r t : ℤ) → f -ℤ g ≡ r → r ≡ pos 0 → f ≡ g
    same f g r t e h = omega (arith, ints)

    product_none : (k : ℤ) → turn_at i v z *ℤ k ≡ pos 0
    product_none k = product_zero_left k tie

    on_x : turn_at i j z *ℤ (v.x -ℤ i.x) ≡ turn_at i j v *ℤ (z.x -ℤ i.x)
    on_x = same (turn_at i j z *ℤ (v.x -ℤ i.x)) (turn_at i j v *ℤ (z.x -ℤ i.x))
        (turn_at i v z *ℤ (j.x -ℤ i.x)) (pos 0) (ray_x i j v z) (product_none (j.x -ℤ i.x))

    on_y : turn_at i j z *ℤ (v.y -ℤ i.y) ≡ turn_at i j v *ℤ (z.y -ℤ i.y)
    on_y = same (turn_at i j z *ℤ (v.y -ℤ i.y)) (turn_at i j v *ℤ (z.y -ℤ i.y))
        (turn_at i v z *ℤ (j.y -ℤ i.y)) (pos 0) (ray_y i j v z) (product_none (j.y -ℤ i.y))

    clash : squared_vector i v ≤ℤ squared_vector i z → pos 0 <ℤ squared_vector i v → ⊥
    clash far positive =
        let d = same_values (turn_at i j z) (turn_at i j v) (v.x -ℤ i.x) (v.y -ℤ i.y) (z.x -ℤ i.x)
        (z.y -ℤ i.y) on_x on_y in
        let f : turn_at i j z ≡ turn_at i j v = equal_squares (turn_at i j z) (turn_at i j v)
        (squared_vector i v) hz hv positive (d ∙ ap (λ s. (turn_at i j v *ℤ turn_at i j v) *ℤ s)
        (at_most_both_ways (squared_vector i z) (squared_vector i v) near far)) in
        let x = same_after_shift v.x z.x i.x (mul_cancel_ℤ (λ e. right_not_zero hv e)
        (ap (λ s. s *ℤ (v.x -ℤ i.x)) (sym f) ∙ on_x)) in
        let y = same_after_shift v.y z.y i.y (mul_cancel_ℤ (λ e. right_not_zero hv e)
        (ap (λ s. s *ℤ (v.y -ℤ i.y)) (sym f) ∙ on_y)) in
        apart (λ o. record { x = sym x o; y = sym y o })

    go : (squared_vector i z <ℤ squared_vector i v) ⊎ (squared_vector i v ≤ℤ squared_vector i z)
        → (squared_vector i v ≡ pos 0) ⊎ (pos 0 <ℤ squared_vector i v)
        → squared_vector i z <ℤ squared_vector i v
    go (inl h) k = h
    go (inr h) (inr k) = absurd (clash h k)
    go (inr h) (inl e) = absurd (let b = squares_vanish (v.x -ℤ i.x) (v.y -ℤ i.y) e in
        right_not_zero hv (no_turn (j.x -ℤ i.x) (v.y -ℤ i.y) (j.y -ℤ i.y) (v.x -ℤ i.x) b.1 b.0))
      where
        no_turn : (p b q a : ℤ) → b ≡ pos 0 → a ≡ pos 0 → p *ℤ b -ℤ q *ℤ a ≡ pos 0
        no_turn p b q a e h =
            difference_of_zeros (p *ℤ b) (q *ℤ a) (zero-mul_ℤ p e) (zero-mul_ℤ q h)

-- ---- the sum
-- the rank where it counts, and 0 elsewhere
abbrev pub ranked : Bool → ℕ → ℤ
ranked b r = if b then pos r else pos 0

-- a rank that counts or not is not below 0
pub ranked_nonneg : (b : Bool) (r : ℕ) → pos 0 ≤ℤ ranked b r
ranked_nonneg true r = omega (arith, ints)
ranked_nonneg false r = record { le = tt }

-- of the two ways of an edge at most one counts, and less than q
pub ranked_two : (b c : Bool) (r s q : ℕ) → 1 ≤ q → (b ≡ true → r < q) → (c ≡ true → s < q)
    → (b ≡ true → c ≡ true → ⊥) → (ranked b r +ℤ ranked c s) <ℤ pos q
ranked_two true true r s q h k l n = absurd (n refl refl)
ranked_two true false r s q h k l n = let a = k refl in omega (arith, ints)
ranked_two false true r s q h k l n = let a = l refl in omega (arith, ints)
ranked_two false false r s q h k l n = omega (arith, ints)

-- where a flip takes away q and adds less than q, the sum over all faces falls
pub sum_falls : (new old vx xy yv vy yz zv xz zx q : ℤ)
    → new +ℤ ((vx +ℤ xy +ℤ yv) +ℤ ((vy +ℤ yz +ℤ zv) +ℤ pos 0))
    ≡ old +ℤ ((vx +ℤ xz +ℤ zv) +ℤ ((xy +ℤ yz +ℤ zx) +ℤ pos 0)) → pos 0 ≤ℤ yv → vy ≡ q
    → (xz +ℤ zx) <ℤ q → new <ℤ old
sum_falls new old vx xy yv vy yz zv xz zx q e h k l = omega (arith, ints)
