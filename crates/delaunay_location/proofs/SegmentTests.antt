-- What answers to questions say, and of points of a segment.
-- Lemmas: unless, neither, differs_if_within, within_if_differs, on_if_same.
use Rattle.std.proofs.Common.{◌≡◌, ◌≢◌, ◌⊎◌, ◌↔◌, Bool, false, IsTrue, sym, subst, inl, inr}
use Rattle.std.proofs.Common.{arith}
use Rattle.std.specs.Prelude.{ℤ, pos, ◌<ℤ◌, ◌*ℤ◌}
use Rattle.std.proofs.lemmas.Int.{ints}
use Rattle.plane.specs.{IsSame, OnSegment, Point, whole, WithinSegment}
use Rattle.plane.proofs.{end_on_segment, reach, reach-start, start_on_segment, within_segment_is}
use Rattle.plane_theorems.proofs.{on_parts, one_point}
use Rattle.delaunay_legalization.proofs.{both_ways}

-- what a question is about does not hold where its answer is no
pub unless : {A : Type 0} {b : Bool} → IsTrue b ↔ A → b ≡ false → ¬ A
unless {b = b} is refused a = both_ways b (is.1 a) refused

-- what neither of two holds
pub neither : {A B : Type 0} → ¬ A → ¬ B → ¬ (A ⊎ B)
neither a b (inl x) = a x
neither a b (inr y) = b y

none_below : (a b : ℤ) → a ≡ pos 0 → pos 0 <ℤ a → ⊥
none_below a b e h = omega (arith, ints)

itself : (a : ℤ) → a <ℤ a → ⊥
itself a h = omega (arith, ints)

module _ (u v : Point) (apart : u ≢ v) where
  ways_apart : ¬ IsSame (whole u) (whole v)
  ways_apart e = apart (one_point u v e)

  -- an end is not strictly within
  not_start : ¬ WithinSegment (whole u) (whole v) (whole u)
  not_start w =
      none_below (reach (whole u) (whole v) (whole u)) (pos 0) (reach-start (whole u) (whole v))
      ((within_segment_is (whole u) (whole v) (whole u) ways_apart).0 w).1

  not_end : ¬ WithinSegment (whole u) (whole v) (whole v)
  not_end w = itself (reach (whole u) (whole v) (whole v) *ℤ (whole v).w)
      ((within_segment_is (whole u) (whole v) (whole v) ways_apart).0 w).2

  -- a point strictly within the segment is neither of its ends
  pub differs_if_within : (p : Point) → WithinSegment (whole u) (whole v) (whole p)
      → (p ≢ u) × (p ≢ v)
  differs_if_within p w = (
    (λ e. not_start (subst (λ (x : Point). WithinSegment (whole u) (whole v) (whole x)) e w)),
    (λ e. not_end (subst (λ (x : Point). WithinSegment (whole u) (whole v) (whole x)) e w)),
  )

-- a point of the segment is strictly within, or one of the ends
pub within_if_differs : (u v p : Point) → p ≢ u → p ≢ v → OnSegment (whole u) (whole v) (whole p) →
    WithinSegment (whole u) (whole v) (whole p)
within_if_differs u v p a b o = elim (on_parts (whole u) (whole v) (whole p) o) [
  | inl e ↦ absurd (a (one_point p u e))
  | inr x ↦ elim x [
    | inl e ↦ absurd (b (one_point p v e))
    | inr w ↦ w
  ]
]

-- an end is a point of the segment
pub on_if_same : (u v p : Point) → (p ≡ u) ⊎ (p ≡ v) → OnSegment (whole u) (whole v) (whole p)
on_if_same u v p (inl e) =
    subst (λ (x : Point). OnSegment (whole u) (whole v) (whole x)) (sym e)
    (start_on_segment (whole u) (whole v))
on_if_same u v p (inr e) =
    subst (λ (x : Point). OnSegment (whole u) (whole v) (whole x)) (sym e)
    (end_on_segment (whole u) (whole v))
