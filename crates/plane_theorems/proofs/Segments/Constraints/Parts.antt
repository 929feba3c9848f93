-- A segment that is parted at a point strictly within it.
-- Lemmas: within_parts.
use Rattle.std.proofs.Common.{◌≡◌, ◌⊎◌, [], ◌∷◌, subst, arith}
use mathlib.Core.Logic.{inl, inr}
use Rattle.std.specs.Prelude.{ℤ, pos, ◌+ℤ◌, ◌-ℤ◌, ◌*ℤ◌, ◌≤ℤ◌, ◌<ℤ◌, neg_ℤ}
use Rattle.std.proofs.lemmas.Int.{ints}
use Rattle.plane.specs.{Fraction, IsSame, Point, whole, WithinSegment}
use Rattle.plane.proofs.{◌⊕◌, ◌⊖◌, ◌⊗◌, ahead, bracket, bracket-last, bracket-outer, decide_point}
use Rattle.plane.proofs.{Decision, lift, mul-pos_ℤ, on_of_within, only_point, opposite_of_negative}
use Rattle.plane.proofs.{place_of_end, place_of_start, place_on, ring_in, same-refl, same-sym}
use Rattle.plane.proofs.{same-trans, same_if_level, trichotomy_ℤ, vec, weak_right, within_if_ahead}
use Rattle.plane.proofs.{LineOrder.ahead_if_within, LineOrder.AreOneSign, zero_weak, ⊝}
use Rattle.plane_theorems.proofs.Tiling.Edges.{within_on}

ahead-swapped : (u v : Point) (a b : Fraction) → ahead u v b a ≡ neg_ℤ (ahead u v a b)
unfolding ahead
ahead-swapped u v a b = ring_in (a.w ∷ place_on u v (vec a) ∷ b.w ∷ place_on u v (vec b) ∷ [])
    (λ a f b g. b ⊗ f ⊖ a ⊗ g) (λ a f b g. ⊝ (a ⊗ g ⊖ b ⊗ f)) tt

-- from a to b by way of z
ahead_by_way : (u v : Point) (a b z : Fraction)
    → z.w *ℤ ahead u v a b ≡ a.w *ℤ ahead u v z b +ℤ b.w *ℤ ahead u v a z
unfolding ahead
ahead_by_way u v a b z = ring_in (a.w ∷ place_on u v (vec a) ∷ b.w ∷ place_on u v (vec b) ∷ z.w
    ∷ place_on u v (vec z) ∷ []) (λ a f b g z i. z ⊗ (a ⊗ g ⊖ b ⊗ f))
    (λ a f b g z i. a ⊗ (z ⊗ g ⊖ b ⊗ i) ⊕ b ⊗ (a ⊗ i ⊖ z ⊗ f)) tt

ends_ahead : (a b : Point) → ¬ (a ≡ b) → pos 0 <ℤ ahead a b (whole a) (whole b)
unfolding ahead
ends_ahead a b n =
    above (place_on a b (lift b)) (place_on a b (lift a)) (place_of_end a b n) (place_of_start a b)
  where
    above : (f g : ℤ) → pos 0 <ℤ f → g ≡ pos 0 → pos 0 <ℤ (pos 1 *ℤ f -ℤ pos 1 *ℤ g)
    above f g h e = omega (arith, ints)

-- a point strictly within is ahead of the start, and the end of it
between_ahead : (a b : Point) → ¬ (a ≡ b) → (z : Fraction) → WithinSegment (whole a) (whole b) z
    → (pos 0 <ℤ ahead a b (whole a) z) × (pos 0 <ℤ ahead a b z (whole b))
between_ahead a b n z h = go (ahead_if_within a b (whole a) (whole b) z h)
  where
    ahead_of : (s t d : ℤ) → d ≡ pos 1 *ℤ s +ℤ pos 1 *ℤ t → pos 0 <ℤ d → s ≤ℤ pos 0 → t ≤ℤ pos 0 → ⊥
    ahead_of s t d e h k l = omega (arith, ints)

    clash : ahead a b z (whole b) ≤ℤ pos 0 → ahead a b (whole a) z ≤ℤ pos 0 → ⊥
    clash k l = ahead_of (ahead a b z (whole b)) (ahead a b (whole a) z)
        (z.w *ℤ ahead a b (whole a) (whole b)) (ahead_by_way a b (whole a) (whole b) z)
        (mul-pos_ℤ z.positive (ends_ahead a b n)) k l

    go : AreOneSign (ahead a b (whole a) z) (ahead a b z (whole b))
        → (pos 0 <ℤ ahead a b (whole a) z) × (pos 0 <ℤ ahead a b z (whole b))
    go (inl k) = k
    go (inr (inl k)) = absurd (clash (weak_right k.1) (weak_right k.0))
    go (inr (inr k)) = absurd (clash (zero_weak k.1) (zero_weak k.0))

-- another point strictly within is there, or strictly within one of the two parts
pub within_parts : (a b v : Point) (x : Fraction) → WithinSegment (whole a) (whole b) (whole v)
    → WithinSegment (whole a) (whole b) x → IsSame x (whole v)
    ⊎ (WithinSegment (whole a) (whole v) x ⊎ WithinSegment (whole v) (whole b) x)
within_parts a b v x hv hx = split (decide_point a b)
  where
    split : Decision (a ≡ b) → IsSame x (whole v)
        ⊎ (WithinSegment (whole a) (whole v) x ⊎ WithinSegment (whole v) (whole b) x)
    split (inl e) = inl (same-trans x (whole a) (whole v) (only_point (whole a) (whole b) x one
        (on_of_within (whole a) (whole b) x hx)) (same-sym (whole v) (whole a) (only_point (whole a)
        (whole b) (whole v) one (on_of_within (whole a) (whole b) (whole v) hv))))
      where
        one : IsSame (whole a) (whole b)
        one = subst (λ c. IsSame (whole a) (whole c)) e (same-refl (whole a))
    split (inr n) = go (trichotomy_ℤ (ahead a b (whole v) x))
      where
        on_v : bracket (lift a) (lift b) (lift v) ≡ pos 0
        on_v = within_on a b (whole v) hv

        on_x : bracket (lift a) (lift b) (vec x) ≡ pos 0
        on_x = within_on a b x hx

        of_x : (pos 0 <ℤ ahead a b (whole a) x) × (pos 0 <ℤ ahead a b x (whole b))
        of_x = between_ahead a b n x hx

        go : (ahead a b (whole v) x <ℤ pos 0)
            ⊎ ((ahead a b (whole v) x ≡ pos 0) ⊎ (pos 0 <ℤ ahead a b (whole v) x))
            → IsSame x (whole v)
            ⊎ (WithinSegment (whole a) (whole v) x ⊎ WithinSegment (whole v) (whole b) x)
        go (inl h) = inr (inl (within_if_ahead a b n (whole a) (whole v) x
            (bracket-outer (lift a) (lift b)) on_v on_x of_x.0 (opposite_of_negative
            (ahead a b x (whole v)) (ahead a b (whole v) x) (ahead-swapped a b (whole v) x) h)))
        go (inr (inl e)) = inl (same-sym (whole v) x (same_if_level a b n (whole v) x on_v on_x e))
        go (inr (inr h)) = inr (inr (within_if_ahead a b n (whole v) (whole b) x on_v
            (bracket-last (lift a) (lift b)) on_x h of_x.1))
