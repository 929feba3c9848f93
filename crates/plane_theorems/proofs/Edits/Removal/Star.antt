-- Round a vertex: its neighbours may be counted from any of them, and the half-open angles of two
-- faces at the vertex share no point.
-- Notions: IsAgain, AreOneToOne, apart_later; IsInAngle, same_angle.
use Rattle.std.proofs.Common.{◌≡◌, ◌⊎◌, ◌<◌, suc, ℕ, List, refl, sym, ap, ◌∙◌, subst, arith}
use mathlib.Core.Logic.{inl, inr, ◌≢◌}
use Rattle.std.specs.Prelude.{pos, ◌≤ℤ◌, ◌<ℤ◌, neg_ℤ}
use Rattle.std.proofs.lemmas.Int.{ints}
use Rattle.std.proofs.lemmas.Bool.{cases_eq}
use Prim.Native.Nat.{◌+◌}
use Rattle.plane.proofs.{both_signs, bracket, bracket-last, bracket-outer, bracket-swap}
use Rattle.plane.proofs.{bracket-turn, Inside, mul-pos_ℤ, near, negated_right, pluecker}
use Rattle.plane.proofs.{pos_of_mul-pos_ℤ, product_zero_left, Vec3, zero_or_left}
use Rattle.{plane.proofs.Nudges.nudged_left, plane.specs.Face, plane.specs.Point}
use Rattle.plane_theorems.proofs.Tiling.Counting.{at, corners_differ, SignMesh}
use Rattle.plane_theorems.proofs.Tiling.Flows.{IsTurnOf, turned}
use Rattle.plane_theorems.proofs.Tiling.Covering as C

-- ---- a round of neighbours that closes after k steps, and not before
abbrev pub IsAgain : (ℕ → ℕ) → ℕ → Type 0
IsAgain nb k = (i : ℕ) → nb (i + k) ≡ nb i

abbrev pub AreOneToOne : (ℕ → ℕ) → ℕ → Type 0
AreOneToOne nb k = (i j : ℕ) → i < k → j < k → nb i ≡ nb j → i ≡ j

-- nor does it where it begins one step later
pub apart_later : (nb : ℕ → ℕ) (k : ℕ) → IsAgain nb k → AreOneToOne nb k
    → AreOneToOne (λ i. nb (suc i)) k
apart_later nb k again apart i j hi hj e = elim (cases_eq (suc i) k) [
  | inl a ↦ elim (cases_eq (suc j) k) [
    | inl b ↦ omega arith
    | inr b ↦ absurd (not_first j (omega arith) (sym e ∙ ap nb a))
  ]
  | inr a ↦ elim (cases_eq (suc j) k) [
    | inl b ↦ absurd (not_first i (omega arith) (e ∙ ap nb b))
    | inr b ↦ omega (arith, apart _ _ (omega arith) (omega arith) e)
  ]
]
  where
    not_first : (j : ℕ) → suc j < k → nb (suc j) ≡ nb k → ⊥
    not_first j h e = omega (arith, apart _ 0 h (omega arith) (e ∙ ap nb (omega arith) ∙ again 0))

module _ (n : ℕ) (p : ℕ → Point) (faces : List Face) (outer : List (ℕ × ℕ))
    (m : SignMesh n p faces outer) where
  -- q is in the half-open angle at v, from the way to a up to the way to b
  pub record IsInAngle (v a b : ℕ) (q : Vec3) : Type 0 where
    pub from : pos 0 ≤ℤ bracket (at p v) (at p a) q
    pub to : pos 0 <ℤ bracket (at p b) (at p v) q

  -- two faces at v whose angles share a point are one
  pub same_angle : (v a b c d : ℕ) → IsTurnOf faces v a b → IsTurnOf faces v c d → (q : Vec3)
      → pos 0 <ℤ q.w → IsInAngle v a b q → IsInAngle v c d q → (a ≡ c) × (b ≡ d)
  same_angle v a b c d f g q weight i j =
      let x = C.turn_corners n p _ _ m v a b f in
      let y = C.turn_corners n p _ _ m v c d g in
      let z = near n p q _ weight (record { lt = tt }) in
      let o = near n p _ z.0 (record { lt = tt }) z.1.weight in
      let from_a = nudged_left _ _
      _ (z.1.sides v a x.0 x.1) i.from turns_first in
      let to_b = (z.1.sides b v x.2 x.0).left i.to in
      let from_c = beyond z.0 (zero_or_left j.from) (z.1.sides v c y.0 y.1).left
      (λ e. (z.1.sides v c y.0 y.1).on e) in
      let to_d = (z.1.sides d v y.2 y.0).left j.to in
      let in_first : Inside (at p v) (at p a) (at p b) o.0 = record {
        first = subst (λ s. pos 0 <ℤ s)
            (sym ((o.1.sides v a x.0 x.1).on (bracket-outer _ _))) from_a;
        second = (o.1.sides a b x.1 x.2).left (rw bracket-turn at turns_first);
        third = subst (λ s. pos 0 <ℤ s) (sym ((o.1.sides b v x.2 x.0).on (bracket-last _ _))) to_b;
      } in
      let in_second : Inside (at p v) (at p c) (at p d) o.0 = record {
        first = subst (λ s. pos 0 <ℤ s)
            (sym ((o.1.sides v c y.0 y.1).on (bracket-outer _ _))) from_c;
        second = (o.1.sides c d y.1 y.2).left (rw bracket-turn at turns_second);
        third = subst (λ s. pos 0 <ℤ s) (sym ((o.1.sides d v y.2 y.0).on (bracket-last _ _))) to_d;
      } in
      named (C.shared_corner n p _ _ m a b v v c d (turned _ v a b f) g o.0 o.1.weight
      (record { first = in_first.second; second = in_first.third; third = in_first.first })
      in_second)
      (C.shared_corner n p _ _ m b v a v c d
      (turned _ a b v (turned _ v a b f)) g o.0 o.1.weight (record
      { first = in_first.third; second = in_first.first; third = in_first.second }) in_second)
    where
      turns_first : pos 0 <ℤ bracket (at p v) (at p a) (at p b)
      turns_first = C.turn_left_of n p _ _ m v a b f

      turns_second : pos 0 <ℤ bracket (at p v) (at p c) (at p d)
      turns_second = C.turn_left_of n p _ _ m v c d g

      -- where q is on the way to c, b is left of it
      c_left : bracket (at p v) (at p c) q ≡ pos 0 → pos 0 <ℤ bracket (at p v) (at p c) (at p b)
      c_left e = let r = pluecker (at p v) (at p c) q (at p d) (at p b) in
          let z = product_zero_left (bracket (at p v) (at p d) (at p b)) e in
          pos_of_mul-pos_ℤ q_d (omega (arith, ints, mul-pos_ℤ turns_second q_b))
        where
          q_d : pos 0 <ℤ bracket (at p v) q (at p d)
          q_d = subst (λ s. pos 0 <ℤ s) (bracket-turn _ _ q) j.to

          q_b : pos 0 <ℤ bracket (at p v) q (at p b)
          q_b = subst (λ s. pos 0 <ℤ s) (bracket-turn _ _ q) i.to

      beyond : (z : Vec3) → (bracket (at p v) (at p c) q ≡ pos 0) ⊎
          (pos 0 <ℤ bracket (at p v) (at p c) q) → (pos 0 <ℤ bracket (at p v) (at p c) q → pos 0
          <ℤ bracket (at p v) (at p c) z) → (bracket (at p v) (at p c) q ≡ pos 0 → bracket (at p v)
          (at p c) z ≡ bracket (at p v) (at p c) (at p b)) → pos 0 <ℤ bracket (at p v) (at p c) z
      beyond z (inl e) left on = rw (on e) (c_left e)
      beyond z (inr h) left on = left h

      other : (v ≢ a) × (a ≢ b) × (b ≢ v)
      other = corners_differ p v a b turns_first

      named : (a ≡ v) ⊎ ((a ≡ c) ⊎ (a ≡ d)) → (b ≡ v) ⊎ ((b ≡ c) ⊎ (b ≡ d)) → (a ≡ c) × (b ≡ d)
      named (inl e) h = absurd (other.0 (sym e))
      named h (inl e) = absurd (other.2 e)
      named (inr (inl e)) (inr (inr s)) = (e, s)
      named (inr (inl e)) (inr (inl s)) = absurd (other.1 (e ∙ sym s))
      named (inr (inr e)) (inr (inr s)) = absurd (other.1 (e ∙ sym s))
      named (inr (inr e)) (inr (inl s)) = absurd (both_signs turns_second
          (negated_right (bracket-turn _ _ _ ∙ bracket-turn _ _
          _ ∙ bracket-swap _ _ _ ∙ ap neg_ℤ refl)
          (subst (λ z. pos 0 <ℤ z) (λ o. bracket (at p v) (at p (e o)) (at p (s o))) turns_first)))
