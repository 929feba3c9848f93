-- Points off all lines of two vertices: one inside any triangle, and one near any point.
-- Notions: Inside, AllDiffer, IsOneToOne, IsFresh, LieOnLine, IsGeneric, IsNudged, IsSpot;
-- distinct_with_next, not_on_line, near, generic_near, spot.
use Rattle.std.proofs.Common.{◌≡◌, ◌⊎◌, ℕ, suc, ◌<◌, sym, ap, ◌∙◌, subst}
use mathlib.Core.Logic.{inl, inr, ◌≢◌}
use Rattle.std.specs.Prelude.{pos, ◌*ℤ◌, ◌≤ℤ◌, ◌<ℤ◌}
use Rattle.plane.proofs.{Bracket.bracket, Bracket.lift, Bracket.Vec3, Indexes.below_or_last}
use Rattle.plane.proofs.BracketIdentities.{bracket-last, bracket-outer, bracket-turn, bracket_at_x}
use Rattle.plane.proofs.BracketIdentities.{bracket_at_y, cramer}
use Rattle.plane.proofs.IntegerOrder.{pos-ne-zero_ℤ, zero-mul_ℤ, zero_of_mul-zero_ℤ}
use Rattle.plane.proofs.Nudges.{bracket-moved, moved, moved_positive, nudge_pairs, Nudged}
use Rattle.{plane.proofs.Nudges.nudged_not_left, plane.proofs.Nudges.nudged_zero, plane.specs.Point}
use Rattle.plane.proofs.Steps.{no_difference, three_zero}

-- q is strictly inside a b c
pub record Inside (a b c q : Vec3) : Type 0 where
  pub first : pos 0 <ℤ bracket a b q
  pub second : pos 0 <ℤ bracket b c q
  pub third : pos 0 <ℤ bracket c a q

-- the first n differ
abbrev pub AllDiffer : {X : Type 0} → ℕ → (ℕ → X) → Type 0
AllDiffer n p = (i j : ℕ) → i < n → j < n → i ≢ j → ¬ (p i ≡ p j)

-- of the first n, those that are the same have one index
abbrev pub IsOneToOne : {X : Type 0} → ℕ → (ℕ → X) → Type 0
IsOneToOne n f = (i j : ℕ) → i < n → j < n → f i ≡ f j → i ≡ j

-- the next one is unlike each of the first n
abbrev pub IsFresh : {X : Type 0} → ℕ → (ℕ → X) → Type 0
IsFresh n p = (k : ℕ) → k < n → ¬ (p k ≡ p n)

-- with it they still differ
pub distinct_with_next : {X : Type 0} (n : ℕ) (p : ℕ → X) → AllDiffer n p → IsFresh n p
    → AllDiffer (suc n) p
distinct_with_next n p old fresh i j h k a e = go (below_or_last n i h) (below_or_last n j k)
  where
    go : (i < n) ⊎ (i ≡ n) → (j < n) ⊎ (j ≡ n) → ⊥
    go (inl x) (inl y) = old i j x y a e
    go (inl x) (inr y) = fresh i x (e ∙ ap p y)
    go (inr x) (inl y) = fresh j y (sym e ∙ ap p x)
    go (inr x) (inr y) = a (x ∙ sym y)

-- the first n points are on the line of u and v
abbrev pub LieOnLine : ℕ → (ℕ → Point) → Point → Point → Type 0
LieOnLine n p u v = (k : ℕ) → k < n → bracket (lift u) (lift v) (lift (p k)) ≡ pos 0

-- q is on no line of two of the first n points
pub record IsGeneric (n : ℕ) (p : ℕ → Point) (q : Vec3) : Type 0 where
  pub weight : pos 0 <ℤ q.w
  pub off : (s t : ℕ) → s < n → t < n → s ≢ t → ¬ (bracket (lift (p s)) (lift (p t)) q ≡ pos 0)

-- z is q, moved a little towards d
pub record IsNudged (n : ℕ) (p : ℕ → Point) (q d z : Vec3) : Type 0 where
  pub weight : pos 0 <ℤ z.w
  pub sides : (s t : ℕ) → s < n → t < n → Nudged (bracket (lift (p s)) (lift (p t)) q)
      (bracket (lift (p s)) (lift (p t)) d) (bracket (lift (p s)) (lift (p t)) z)

-- not all three corners are on a line of two points
pub not_on_line : (a b c : Vec3) (s t : Point) → pos 0 <ℤ bracket a b c
    → bracket (lift s) (lift t) a ≡ pos 0 → bracket (lift s) (lift t) b ≡ pos 0
    → bracket (lift s) (lift t) c ≡ pos 0 → s ≡ t
not_on_line a b c s t h ea eb ec =
    let at : ((e : Vec3) → bracket (lift s) (lift t) e ≡ pos 0) = λ e.
    zero_of_mul-zero_ℤ (pos-ne-zero_ℤ h) (three_zero (bracket a b c *ℤ bracket (lift s) (lift t) e)
    (bracket b c e *ℤ bracket (lift s) (lift t) a) (bracket c a e
    *ℤ bracket (lift s) (lift t) b) (bracket a b e *ℤ bracket (lift s) (lift t) c)
    (cramer a b c e (lift s) (lift t)) (zero-mul_ℤ (bracket b c e) ea)
    (zero-mul_ℤ (bracket c a e) eb) (zero-mul_ℤ (bracket a b e) ec)) in
    let y : s.y ≡ t.y = no_difference s.y t.y
    (sym (bracket_at_x s t) ∙ at (record { x = pos 1; y = pos 0; w = pos 0 })) in
    let x : t.x ≡ s.x = no_difference t.x s.x
    (sym (bracket_at_y s t) ∙ at (record { x = pos 0; y = pos 1; w = pos 0 })) in
    λ i. record { x = sym x i; y = y i }

module _ (n : ℕ) (p : ℕ → Point) where
  -- from q towards d there is a vector so near that no strict side of q changes
  pub near : (q d : Vec3) → pos 0 <ℤ q.w → pos 0 <ℤ d.w → (z : Vec3) × IsNudged n p q d z
  near q d h k =
      let m = nudge_pairs n (λ s t. bracket (lift (p s)) (lift (p t)) q)
      (λ s t. bracket (lift (p s)) (lift (p t)) d) in (
        moved m.0 q d,
        record {
          weight = moved_positive m.0 q d m.1 h k;
          sides = λ s t i j. subst
              (Nudged (bracket (lift (p s)) (lift (p t)) q) (bracket (lift (p s)) (lift (p t)) d))
              (sym (bracket-moved (lift (p s)) (lift (p t)) m.0 q d)) (m.2 s t i j);
        },
      )

  -- towards a generic d there is a generic vector so near that no strict side of q changes
  pub generic_near : (q d : Vec3) → pos 0 <ℤ q.w → IsGeneric n p d
      → (z : Vec3) × IsNudged n p q d z × IsGeneric n p z
  generic_near q d h g =
      let z = near q d h g.weight in (
        z.0,
        z.1,
        record {
          weight = z.1.weight;
          off = λ s t i j a e. g.off s t i j a (nudged_zero (bracket (lift (p s)) (lift (p t)) q)
              (bracket (lift (p s)) (lift (p t)) d) (bracket (lift (p s)) (lift (p t)) z.0)
              (z.1.sides s t i j) e).1;
        },
      )

  -- a generic point strictly inside the triangle a b c, on no line's left where no corner is
  pub record IsSpot (a b c : ℕ) (d : Vec3) : Type 0 where
    pub generic : IsGeneric n p d
    pub inside : Inside (lift (p a)) (lift (p b)) (lift (p c)) d
    pub not_left : (s t : ℕ) → s < n → t < n → bracket (lift (p s)) (lift (p t)) (lift (p a))
        ≤ℤ pos 0 → bracket (lift (p s)) (lift (p t)) (lift (p b)) ≤ℤ pos 0
        → bracket (lift (p s)) (lift (p t)) (lift (p c)) ≤ℤ pos 0
        → bracket (lift (p s)) (lift (p t)) d ≤ℤ pos 0

  -- each left-turning triangle has a generic point inside
  pub spot : AllDiffer n p → (a b c : ℕ) → a < n → b < n → c < n
      → pos 0 <ℤ bracket (lift (p a)) (lift (p b)) (lift (p c)) → (d : Vec3) × IsSpot a b c d
  spot distinct a b c ia ib ic turns =
      let A = lift (p a) in
      let B = lift (p b) in
      let C = lift (p c) in
      let e = near C B (record { lt = tt }) (record { lt = tt }) in
      let d = near e.0 A e.1.weight (record { lt = tt }) in (
        d.0,
        record {
          generic = record {
            weight = d.1.weight;
            off = λ s t i j n z.
                let last = nudged_zero (bracket (lift (p s)) (lift (p t)) e.0) (bracket (lift (p s))
                (lift (p t)) A) (bracket (lift (p s)) (lift (p t)) d.0) (d.1.sides s t i j) z in
                let first = nudged_zero (bracket (lift (p s)) (lift (p t)) C)
                (bracket (lift (p s)) (lift (p t)) B) (bracket (lift (p s)) (lift (p t)) e.0)
                (e.1.sides s t i j) last.0 in
                distinct s t i j n (not_on_line A B C (p s) (p t) turns last.1 first.1 first.0);
          };
          inside = record {
            first = (d.1.sides a b ia ib).left ((e.1.sides a b ia ib).left turns);
            second = let o = (e.1.sides b c ib ic).on (bracket-last B C) ∙ bracket-outer B C in
                subst (λ z. pos 0 <ℤ z) (sym ((d.1.sides b c ib ic).on o))
                (subst (λ z. pos 0 <ℤ z) (bracket-turn A B C) turns);
            third = (d.1.sides c a ic ia).left
                (subst (λ z. pos 0 <ℤ z) (sym ((e.1.sides c a ic ia).on (bracket-outer C A)))
                (subst (λ z. pos 0 <ℤ z) (bracket-turn A B C ∙ bracket-turn B C A) turns));
          };
          not_left = λ s t i j ha hb hc. nudged_not_left (bracket (lift (p s)) (lift (p t)) e.0)
              (bracket (lift (p s)) (lift (p t)) A) (bracket (lift (p s)) (lift (p t)) d.0)
              (d.1.sides s t i j)
              (nudged_not_left (bracket (lift (p s)) (lift (p t)) C) (bracket (lift (p s)) (lift
              (p t)) B) (bracket (lift (p s)) (lift (p t)) e.0) (e.1.sides s t i j) hc hb) ha;
        },
      )
