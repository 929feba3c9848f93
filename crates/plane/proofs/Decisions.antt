-- Questions of the plane are decided: each has an answer, by the signs of whole numbers and by
-- search below a bound.
-- Notions: Decision; decided_by, decide_both, decide_either, find_below, decide_some_below,
-- decide_zero, decide_below, decide_point, decide_on_segment, decide_within_segment,
-- decide_meets_within, decide_turns_left.
use Rattle.std.proofs.Common.{◌≡◌, ◌⊎◌, ◌↔◌, ℕ, zero, suc, ◌<◌, refl, arith, sym, subst, ◌∙◌, ap}
use mathlib.Core.Logic.{inl, inr}
use Rattle.std.specs.Prelude.{ℤ, pos, ◌<ℤ◌, ◌≤ℤ◌, ◌*ℤ◌, ◌-ℤ◌}
use Rattle.std.proofs.lemmas.Int.{ints}
use Rattle.plane.specs.{Fraction, IsSame, left, MeetsWithin, on, OnSegment, Point, right, rise, run}
use Rattle.plane.specs.{Side, side, TurnsLeft, WithinSegment}
use Rattle.plane.proofs.{Bracket.bracket, Bracket.vec, Meetings.meets_within_is}
use Rattle.plane.proofs.{Indexes.below_or_last, Segments.within_itself, Segments.within_segment_is}
use Rattle.plane.proofs.IntegerOrder.{above, below, lt_or_ge_ℤ, none, sign}
use Rattle.plane.proofs.Meetings.{AreOpposite, AreParted, meets_a_point, meets_at_point}
use Rattle.plane.proofs.Segments.{on_of_within, on_segment_is, only_point, reach, same_is_no_vector}
use Rattle.plane.proofs.Steps.{left_not_zero, one_number, right_not_zero}

-- a question with its answer
abbrev pub Decision : Type 0 → Type 0
Decision X = X ⊎ ¬ X

-- ---- answers from answers
-- a question that stands for another
pub decided_by : {X Y : Type 0} → X ↔ Y → Decision Y → Decision X
decided_by e (inl y) = inl (e.1 y)
decided_by e (inr n) = inr (λ x. n (e.0 x))

-- two at once
pub decide_both : {X Y : Type 0} → Decision X → Decision Y → Decision (X × Y)
decide_both (inl x) (inl y) = inl (x, y)
decide_both (inl x) (inr n) = inr (λ s. n s.1)
decide_both (inr n) d = inr (λ s. n s.0)

-- three at once
decide_all_three : {X Y Z : Type 0} → Decision X → Decision Y → Decision Z → Decision (X × Y × Z)
decide_all_three (inl x) (inl y) (inl z) = inl (x, y, z)
decide_all_three (inl x) (inl y) (inr n) = inr (λ s. n s.2)
decide_all_three (inl x) (inr n) d = inr (λ s. n s.1)
decide_all_three (inr n) d e = inr (λ s. n s.0)

-- one of two
pub decide_either : {X Y : Type 0} → Decision X → Decision Y → Decision (X ⊎ Y)
decide_either (inl x) d = inl (inl x)
decide_either (inr n) (inl y) = inl (inr y)
decide_either (inr n) (inr m) = inr (λ s. elim s [ inl x ↦ n x | inr y ↦ m y ])

-- an index below n with a property, or none
pub find_below : {P : ℕ → Type 0} (n : ℕ) → ((i : ℕ) → Decision (P i))
    → ((i : ℕ) × (i < n) × P i) ⊎ ((i : ℕ) → i < n → ¬ P i)
find_below zero d = inr (λ i h p. absurd (omega arith))
find_below {P} (suc n) d = last (find_below n d) (d n)
  where
    last : ((i : ℕ) × (i < n) × P i) ⊎ ((i : ℕ) → i < n → ¬ P i) → Decision (P n)
        → ((i : ℕ) × (i < suc n) × P i) ⊎ ((i : ℕ) → i < suc n → ¬ P i)
    last (inl f) d = inl (f.0, omega (arith, f.1), f.2)
    last (inr f) (inl p) = inl (n, omega arith, p)
    last (inr f) (inr m) = inr each
      where
        each : (i : ℕ) → i < suc n → ¬ P i
        each i h p = elim (below_or_last n i h) [ inl l ↦ f i l p | inr e ↦ m (subst P e p) ]

-- whether some index below n has the property
pub decide_some_below : {P : ℕ → Type 0} (n : ℕ) → ((i : ℕ) → Decision (P i))
    → Decision ((i : ℕ) × (i < n) × P i)
decide_some_below {P} n d = of (find_below n d)
  where
    of : ((i : ℕ) × (i < n) × P i) ⊎ ((i : ℕ) → i < n → ¬ P i) → Decision ((i : ℕ) × (i < n) × P i)
    of (inl f) = inl f
    of (inr f) = inr (λ s. f s.0 s.1 s.2)

-- ---- whole numbers
-- a number is 0, or not
pub decide_zero : (z : ℤ) → Decision (z ≡ pos 0)
decide_zero z = elim (sign z) [
  | below h ↦ inr (λ e. right_not_zero h e)
  | none h ↦ inl h
  | above h ↦ inr (λ e. left_not_zero h e)
]

-- a is below b, or not
pub decide_below : (a b : ℤ) → Decision (a <ℤ b)
decide_below a b = elim (lt_or_ge_ℤ a b) [ inl h ↦ inl h | inr h ↦ inr (λ k. omega (arith, ints)) ]

-- a is at most b, or not
decide_at_most : (a b : ℤ) → Decision (a ≤ℤ b)
decide_at_most a b =
    elim (lt_or_ge_ℤ b a) [ inl h ↦ inr (λ k. omega (arith, ints)) | inr h ↦ inl h ]

-- one of two signs is positive and the other negative, or not
decide_opposite : (a b : ℤ) → Decision (AreOpposite a b)
decide_opposite a b = decide_either (decide_both (decide_below a (pos 0)) (decide_below (pos 0) b))
    (decide_both (decide_below (pos 0) a) (decide_below b (pos 0)))

-- two numbers are not both positive, nor both negative, or they are
decide_parted : (a b : ℤ) → Decision (AreParted a b)
decide_parted a b =
    decide_either (decide_both (decide_at_most a (pos 0)) (decide_at_most (pos 0) b))
    (decide_both (decide_at_most (pos 0) a) (decide_at_most b (pos 0)))

-- ---- points
-- two fraction points are one, or not
decide_same : (p q : Fraction) → Decision (IsSame p q)
decide_same p q =
    decided_by (same_is_no_vector p q) (decide_both (decide_zero (run p q))
    (decide_zero (rise p q)))

-- of the code
pub decide_point : (p q : Point) → Decision (p ≡ q)
decide_point p q = go (decide_zero (q.x -ℤ p.x)) (decide_zero (q.y -ℤ p.y))
  where
    apart : (a b : ℤ) → ¬ (b -ℤ a ≡ pos 0) → ¬ (a ≡ b)
    apart a b n e = n (omega (arith, ints))

    go : Decision (q.x -ℤ p.x ≡ pos 0) → Decision (q.y -ℤ p.y ≡ pos 0) → Decision (p ≡ q)
    go (inl x) (inl y) =
        inl (λ i. record { x = one_number p.x q.x x i; y = one_number p.y q.y y i })
    go (inl x) (inr n) = inr (λ e. apart p.y q.y n (ap (λ (r : Point). r.y) e))
    go (inr n) d = inr (λ e. apart p.x q.x n (ap (λ (r : Point). r.x) e))

-- ---- segments
-- on the closed segment, or not
pub decide_on_segment : (u v p : Fraction) → Decision (OnSegment u v p)
decide_on_segment u v p = go (decide_same u v)
  where
    go : Decision (IsSame u v) → Decision (OnSegment u v p)
    go (inl e) = decided_by (only_point u v p e, λ d. on_of_within u v p (within_itself u v p e d))
        (decide_same p u)
    go (inr n) = decided_by (on_segment_is u v p n)
        (decide_all_three (decide_zero (bracket (vec u) (vec v) (vec p))) (decide_at_most (pos 0)
        (reach u v p)) (decide_at_most (reach u v p *ℤ v.w) (reach u v v *ℤ p.w)))

-- strictly within the segment, or not
pub decide_within_segment : (u v p : Fraction) → Decision (WithinSegment u v p)
decide_within_segment u v p = go (decide_same u v)
  where
    go : Decision (IsSame u v) → Decision (WithinSegment u v p)
    go (inl e) = decided_by
        ((λ h. only_point u v p e (on_of_within u v p h)), within_itself u v p e) (decide_same p u)
    go (inr n) = decided_by (within_segment_is u v p n)
        (decide_all_three (decide_zero (bracket (vec u) (vec v) (vec p))) (decide_below (pos 0)
        (reach u v p)) (decide_below (reach u v p *ℤ v.w) (reach u v v *ℤ p.w)))

-- the first meets the second in one point, within the second, or not
pub decide_meets_within : (s t u v : Fraction) → Decision (MeetsWithin s t u v)
decide_meets_within s t u v = go (decide_same s t) (decide_same u v)
  where
    go : Decision (IsSame s t) → Decision (IsSame u v) → Decision (MeetsWithin s t u v)
    go (inl e) d = decided_by (meets_at_point s t u v e) (decide_within_segment u v s)
    go (inr n) (inl e) = decided_by (meets_a_point s t u v e) (decide_on_segment s t u)
    go (inr n) (inr m) = decided_by (meets_within_is s t u v n m)
        (decide_both
        (decide_opposite (bracket (vec s) (vec t) (vec u)) (bracket (vec s) (vec t) (vec v)))
        (decide_parted (bracket (vec u) (vec v) (vec s)) (bracket (vec u) (vec v) (vec t))))

-- ---- three points
-- three points turn left, or not
pub decide_turns_left : (u v p : Fraction) → Decision (TurnsLeft u v p)
decide_turns_left u v p = by (side u v p) refl
  where
    by : (s : Side) → side u v p ≡ s → Decision (TurnsLeft u v p)
    by left e = inl e
    by right e = inr (λ h. absurd (let z = sym e ∙ h in cc))
    by on e = inr (λ h. absurd (let z = sym e ∙ h in cc))
