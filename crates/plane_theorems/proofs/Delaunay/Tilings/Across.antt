-- Two edges that share a point within both are one, and the face on the other side of an edge.
-- Notions: IsClear; none_of_sum, inner_between, clear-swapped, sides_same.
use Prim.Native.Nat.{ℕ, suc, ◌+◌}
use lib.IntN.{ℤ, pos, ◌+ℤ◌, ◌-ℤ◌, ◌*ℤ◌, neg_ℤ}
use lib.Signed.{◌<ℤ◌, ◌≤ℤ◌}
use mathlib.Core.Path.{◌≡◌, sym, ◌∙◌, ap, subst}
use mathlib.Core.Logic.{◌⊎◌, inl, inr}
use native.Mathlib.Omega.{arith}
use borrow.Author.Differences.{ints}
use Rattle.{plane.specs.Fraction, plane_theorems.proofs.Delaunay.Tilings.Faces.turns_2}
use Rattle.plane.proofs.{above, below, left_not_zero, lt_or_ge_ℤ, mul-neg_of_pos_neg_ℤ}
use Rattle.plane.proofs.{mul-nonneg_ℤ, mul-nonpos_of_nonneg_nonpos_ℤ, mul-pos_ℤ, neg-mul_ℤ}
use Rattle.plane.proofs.{neg-pos_ℤ, negated_left, negated_right, none, pos-ne-zero_ℤ}
use Rattle.plane.proofs.{pos_of_mul-pos_ℤ, product_zero_left, sign, sum_first_two, swapped_sum}
use Rattle.plane.proofs.{times_one, weak, zero-mul_ℤ, zero_of_mul-zero_ℤ, zero_weak_left}
use Rattle.plane_theorems.proofs.Delaunay.Points.Bracket.{bracket, bracket-first, bracket-second}
use Rattle.plane_theorems.proofs.Delaunay.Points.Bracket.{bracket-swapped, bracket-turned, cramer}
use Rattle.plane_theorems.proofs.Delaunay.Points.Bracket.{meeting, meeting-w}
use Rattle.plane_theorems.proofs.Delaunay.Points.Nudges.{bracket-nudge, nudge, nudge-above}
use Rattle.plane_theorems.proofs.Delaunay.Points.Nudges.{nudge-on, size}
use Rattle.plane_theorems.proofs.Delaunay.Tilings.Faces.{Between, between-on, between-second}
use Rattle.plane_theorems.proofs.Delaunay.Tilings.Faces.{between-swapped, between-third, corner_2}
use Rattle.plane_theorems.proofs.Delaunay.Tilings.Faces.{none_within, side_not_inside, Tiling}

-- ---- numbers

-- x is 0 where a positive multiple of it is a sum of three numbers that are 0
pub none_of_sum : (d x a b c : ℤ) → pos 0 <ℤ d → d *ℤ x ≡ a +ℤ b +ℤ c → a ≡ pos 0 → b ≡ pos 0
    → c ≡ pos 0 → x ≡ pos 0
none_of_sum d x a b c h e p q r =
    zero_of_mul-zero_ℤ {k = d} {x = x} (pos-ne-zero_ℤ h) (omega (arith, ints))

-- ---- four points on one line
-- a and b are on the line u v, so u and v are on the line a b
first_on : (u v w a b : Fraction) → pos 0 <ℤ bracket u v w → bracket u v a ≡ pos 0
    → bracket u v b ≡ pos 0 → bracket a b u ≡ pos 0
first_on u v w a b h p q = sym (bracket-turned a b u)
    ∙ none_of_sum (bracket u v w) (bracket b u a) (bracket v w a *ℤ bracket b u u)
    (bracket w u a *ℤ bracket b u v) (bracket u v a *ℤ bracket b u w) h (cramer u v w a b u)
    (zero-mul_ℤ (bracket v w a) (bracket-second b u)) (zero-mul_ℤ (bracket w u a)
    (sym (bracket-turned b u v) ∙ q)) (product_zero_left (bracket b u w) p)

second_on : (u v w a b : Fraction) → pos 0 <ℤ bracket u v w → bracket u v a ≡ pos 0
    → bracket u v b ≡ pos 0 → bracket a b v ≡ pos 0
second_on u v w a b h p q = sym (bracket-turned a b v)
    ∙ none_of_sum (bracket u v w) (bracket b v a) (bracket v w a *ℤ bracket b v u)
    (bracket w u a *ℤ bracket b v v) (bracket u v a *ℤ bracket b v w) h (cramer u v w a b v)
    (zero-mul_ℤ (bracket v w a) (bracket-swapped v b u ∙ ap neg_ℤ (bracket-turned u v b ∙ q)))
    (zero-mul_ℤ (bracket w u a) (bracket-second b v)) (product_zero_left (bracket b v w) p)

outer_sum : (x X y Y k A l B : ℤ) → x ≡ pos 0 → x *ℤ X -ℤ y *ℤ Y ≡ k *ℤ A -ℤ l *ℤ B
    → neg_ℤ y *ℤ Y ≡ k *ℤ A +ℤ neg_ℤ l *ℤ B
outer_sum x X y Y k A l B h e =
    let z = product_zero_left X h in omega (arith, ints, neg-mul_ℤ y Y, neg-mul_ℤ l B)

outer_between : (a b v w : Fraction) → bracket a b v ≡ pos 0 → bracket a b w <ℤ pos 0
    → pos 0 <ℤ bracket v w b → bracket v w a <ℤ pos 0 → Between a b v
outer_between a b v w on right h k = record {
  n = neg_ℤ (bracket a b w);
  k = bracket v w b;
  l = neg_ℤ (bracket v w a);
  n_above = neg-pos_ℤ right;
  k_above = h;
  l_above = neg-pos_ℤ k;
  along = λ s t. outer_sum (bracket a b v) (bracket s t w) (bracket a b w) (bracket s t v)
      (bracket v w b) (bracket s t a) (bracket v w a) (bracket s t b) on (meeting a b w v s t);
}

-- where u v w turns left, a point of the line of u and v that is left of the other sides is between
-- them
pub inner_between : (u v w a : Fraction) → pos 0 <ℤ bracket u v w → bracket u v a ≡ pos 0
    → pos 0 <ℤ bracket v w a → pos 0 <ℤ bracket w u a → Between u v a
inner_between u v w a t on h k = record {
  n = bracket u v w;
  k = bracket v w a;
  l = bracket w u a;
  n_above = t;
  k_above = h;
  l_above = k;
  along = λ r s. sum_first_two (bracket u v w *ℤ bracket r s a) (bracket v w a *ℤ bracket r s u)
      (bracket w u a *ℤ bracket r s v) (bracket u v a *ℤ bracket r s w) (cramer u v w a r s)
      (product_zero_left (bracket r s w) on);
}

-- the weights of whole points
unit_weights : (a b p q : Fraction) → a.w ≡ pos 1 → b.w ≡ pos 1 → p.w ≡ pos 1 → q.w ≡ pos 1
    → bracket a b q -ℤ bracket a b p ≡ bracket q p b -ℤ bracket q p a
unit_weights a b p q ea eb ep eq =
    let m = meeting-w a b p q in
    let i = times_one (bracket a b q) p.w ep in
    let j = times_one (bracket a b p) q.w eq in
    let k = times_one (bracket q p b) a.w ea in
    let l = times_one (bracket q p a) b.w eb in
    omega (arith, ints)

later_above : (n k l x α β : ℤ) → pos 0 <ℤ n → pos 0 <ℤ k → pos 0 <ℤ l → n *ℤ x ≡ k *ℤ α +ℤ l *ℤ β
    → pos 0 <ℤ x → α <ℤ β → pos 0 <ℤ β
later_above n k l x α β hn hk hl e hx less = go (lt_or_ge_ℤ (pos 0) β)
  where
    go : (pos 0 <ℤ β) ⊎ (β ≤ℤ pos 0) → pos 0 <ℤ β
    go (inl h) = h
    go (inr h) = absurd (let p = mul-nonpos_of_nonneg_nonpos_ℤ {a = l} {b = β} (weak hl) h in
        let q = mul-neg_of_pos_neg_ℤ {a = k} {b = α} hk (omega (arith, ints)) in
        let r = mul-pos_ℤ {a = n} {b = x} hn hx in omega (arith, ints))

less_by : (x y p q : ℤ) → x ≡ pos 0 → y <ℤ pos 0 → x -ℤ y ≡ p -ℤ q → q <ℤ p
less_by x y p q e h s = omega (arith, ints)

flipped_less : (x y x' y' : ℤ) → x' ≡ neg_ℤ x → y' ≡ neg_ℤ y → x' <ℤ y' → y <ℤ x
flipped_less x y x' y' e d h = omega (arith, ints)

opposite_signs : (n k l x a b : ℤ) → pos 0 <ℤ n → pos 0 <ℤ k → pos 0 <ℤ l → n *ℤ x
    ≡ k *ℤ a +ℤ l *ℤ b → x ≡ pos 0 → (pos 0 <ℤ a) ⊎ ((pos 0 <ℤ b) ⊎ ((a ≡ pos 0) × (b ≡ pos 0)))
opposite_signs n k l x a b hn hk hl e z = elim
    (sign a) [ above h ↦ inl h | none h ↦ inr (inr (h, second h)) | below h ↦ inr (inl (third h)) ]
  where
    second : a ≡ pos 0 → b ≡ pos 0
    second h = zero_of_mul-zero_ℤ {k = l} {x = b} (pos-ne-zero_ℤ hl) (let nx = zero-mul_ℤ n z in
        let p = zero-mul_ℤ k h in omega (arith, ints))

    third : a <ℤ pos 0 → pos 0 <ℤ b
    third h = pos_of_mul-pos_ℤ {k = l} {x = b} hl (let nx = zero-mul_ℤ n z in
        let p = mul-neg_of_pos_neg_ℤ {a = k} {b = a} hk h in omega (arith, ints))

module _ (T : Tiling) where
  open T use {at, IsVertex, IsFace, InHull}

  -- the segment of two vertices carries no vertex strictly within
  abbrev pub IsClear : ℕ → ℕ → Type 0
  IsClear a b = (n : ℕ) → IsVertex n → ¬ Between (at a) (at b) (at n)

  -- no vertex is between two ends, in either order
  pub clear-swapped : (a b : ℕ) → IsClear a b → IsClear b a
  clear-swapped a b c n v h = c n v (between-swapped (at b) (at a) (at n) h)

  -- a b runs along the side u v of a face the other way
  opposite_same : (a b u v w : ℕ) → IsVertex a → IsVertex b → IsFace u v w → IsClear a b
      → bracket (at u) (at v) (at a) ≡ pos 0 → bracket (at u) (at v) (at b) ≡ pos 0
      → bracket (at a) (at b) (at w) <ℤ pos 0 → pos 0 <ℤ bracket (at v) (at w) (at b)
      → pos 0 <ℤ bracket (at w) (at u) (at a) → (u ≡ b) × (v ≡ a)
  opposite_same a b u v w va vb f clear ea eb right h k = (
    elim (sign (bracket (at w) (at u) (at b))) [
      | below s ↦ absurd (clear u (T.corner u v w f) (outer_between (at a) (at b) (at u) (at w)
          (first_on (at u) (at v) (at w) (at a) (at b) t ea eb) right
          (negated_left (bracket-swapped (at w) (at u) (at b)) s)
          (negated_right (bracket-swapped (at w) (at u) (at a)) k)))
      | none s ↦ at_u s (T.empty u v w b f vb
          (record { first = zero_weak_left eb; second = weak h; third = zero_weak_left s }))
      | above s ↦
          absurd (none_within T u v w b f vb (inner_between (at u) (at v) (at w) (at b) t eb h s))
    ],
    elim (sign (bracket (at v) (at w) (at a))) [
      | below s ↦ absurd (clear v (corner_2 T u v w f) (outer_between (at a) (at b) (at v) (at w)
          (second_on (at u) (at v) (at w) (at a) (at b) t ea eb) right h s))
      | none s ↦ at_v s (T.empty u v w a f va
          (record { first = zero_weak_left ea; second = zero_weak_left s; third = weak k }))
      | above s ↦
          absurd (none_within T u v w a f va (inner_between (at u) (at v) (at w) (at a) t ea s k))
    ],
  )
    where
      t : pos 0 <ℤ bracket (at u) (at v) (at w)
      t = T.turns u v w f

      at_u : bracket (at w) (at u) (at b) ≡ pos 0 → (b ≡ u) ⊎ ((b ≡ v) ⊎ (b ≡ w)) → u ≡ b
      at_u s (inl e) = sym e
      at_u s (inr (inl e)) = absurd
          (left_not_zero h (ap (λ i. bracket (at v) (at w) (at i)) e ∙ bracket-first (at v) (at w)))
      at_u s (inr (inr e)) =
          absurd (left_not_zero t (ap (λ i. bracket (at u) (at v) (at i)) (sym e) ∙ eb))

      at_v : bracket (at v) (at w) (at a) ≡ pos 0 → (a ≡ u) ⊎ ((a ≡ v) ⊎ (a ≡ w)) → v ≡ a
      at_v s (inl e) = absurd (left_not_zero k
          (ap (λ i. bracket (at w) (at u) (at i)) e ∙ bracket-second (at w) (at u)))
      at_v s (inr (inl e)) = sym e
      at_v s (inr (inr e)) =
          absurd (left_not_zero t (ap (λ i. bracket (at u) (at v) (at i)) (sym e) ∙ ea))

  -- x is strictly within a b, and within the side u v
  opposite_within : (a b u v w : ℕ) (x : Fraction) → IsVertex a → IsVertex b → IsFace u v w
      → IsClear a b → bracket (at u) (at v) (at a) ≡ pos 0 → bracket (at u) (at v) (at b) ≡ pos 0
      → bracket (at a) (at b) (at w) <ℤ pos 0 → Between (at a) (at b) x
      → pos 0 <ℤ bracket (at v) (at w) x → pos 0 <ℤ bracket (at w) (at u) x → (u ≡ b) × (v ≡ a)
  opposite_within a b u v w x va vb f clear ea eb right m h k =
      opposite_same a b u v w va vb f clear ea eb right
      (later_above m.n m.k m.l _ _ _ m.n_above m.k_above m.l_above (m.along (at v) (at w)) h
      (less_by _ _ _ _ (second_on (at u) (at v) (at w) (at a) (at b) t ea eb) right (unit_weights
      (at a) (at b) (at w) (at v) (T.whole a) (T.whole b) (T.whole w) (T.whole v))))
      (later_above m.n m.l m.k _ _ _ m.n_above m.l_above m.k_above (swapped_sum _ (m.k *ℤ bracket
      (at w) (at u) (at a)) (m.l *ℤ bracket (at w) (at u) (at b)) (m.along (at w) (at u))) k
      (flipped_less _ _ _ _ (bracket-swapped (at w) (at u) (at a))
      (bracket-swapped (at w) (at u) (at b))
      (less_by _ _ _ _ (first_on (at u) (at v) (at w) (at a) (at b) t ea eb) right (unit_weights
      (at a) (at b) (at w) (at u) (T.whole a) (T.whole b) (T.whole w) (T.whole u)))))
    where
      t : pos 0 <ℤ bracket (at u) (at v) (at w)
      t = T.turns u v w f

  -- the ends of a side are not moved off by a nudge along it: no point strictly within a side of
  -- one face is left of a side that carries it
  along_other : (a b c u v w e : ℕ) (x : Fraction) → IsFace a b c → IsFace u v w
      → Between (at a) (at b) x → bracket (at a) (at b) (at e) ≡ pos 0
      → pos 0 ≤ℤ bracket (at b) (at c) (at e) → pos 0 ≤ℤ bracket (at c) (at a) (at e)
      → bracket (at u) (at v) x ≡ pos 0 → pos 0 <ℤ bracket (at v) (at w) x
      → pos 0 <ℤ bracket (at w) (at u) x → ¬ (pos 0 <ℤ bracket (at u) (at v) (at e))
  along_other a b c u v w e x f g m on i j z h k left =
      let n = suc (size (bracket (at v) (at w) (at e)) + size (bracket (at w) (at u) (at e))) in
      let y = nudge n x (at e) in
      side_not_inside T a b c u v w f g y
      (record {
        first =
            zero_weak_left (nudge-on (at a) (at b) n x (at e) (between-on (at a) (at b) x m) ∙ on);
        second = moved (at b) (at c) n
            (weak (between-second (at a) (at b) (at c) x m (T.turns a b c f))) i;
        third = moved (at c) (at a) n
            (weak (between-third (at a) (at b) (at c) x m (T.turns a b c f))) j;
      })
      (nudge-on (at a) (at b) n x (at e) (between-on (at a) (at b) x m) ∙ on)
      (record {
        first = subst (λ t. pos 0 <ℤ t) (sym (nudge-on (at u) (at v) n x (at e) z)) left;
        second = nudge-above (at v) (at w) n x (at e) h (omega arith);
        third = nudge-above (at w) (at u) n x (at e) k (omega arith);
      })
    where
      sum : (n : ℕ) (s t r : ℤ) → r ≡ pos n *ℤ s +ℤ t → pos 0 ≤ℤ s → pos 0 ≤ℤ t → pos 0 ≤ℤ r
      sum n s t r q hs ht =
          let p = mul-nonneg_ℤ {a = pos n} {b = s} (omega (arith, ints)) hs in omega (arith, ints)

      moved : (p q : Fraction) (n : ℕ) → pos 0 ≤ℤ bracket p q x → pos 0 ≤ℤ bracket p q (at e)
          → pos 0 ≤ℤ bracket p q (nudge n x (at e))
      moved p q n hs ht = sum n _ _ _ (bracket-nudge p q n x (at e)) hs ht

  -- two sides that share a point strictly within both have the same ends
  pub sides_same : (a b c u v w : ℕ) (x : Fraction) → IsFace a b c → IsFace u v w
      → Between (at a) (at b) x → bracket (at u) (at v) x ≡ pos 0 → pos 0 <ℤ bracket (at v) (at w) x
      → pos 0 <ℤ bracket (at w) (at u) x → ((u ≡ a) × (v ≡ b)) ⊎ ((u ≡ b) × (v ≡ a))
  sides_same a b c u v w x f g m z h k =
      go (opposite_signs m.n m.k m.l _ _ _ m.n_above m.k_above m.l_above (m.along (at u) (at v)) z)
    where
      va : IsVertex a
      va = T.corner a b c f

      vb : IsVertex b
      vb = corner_2 T a b c f

      clear : IsClear a b
      clear n = none_within T a b c n f

      go : (pos 0 <ℤ bracket (at u) (at v) (at a)) ⊎ ((pos 0 <ℤ bracket (at u) (at v) (at b))
          ⊎ ((bracket (at u) (at v) (at a) ≡ pos 0) × (bracket (at u) (at v) (at b) ≡ pos 0)))
          → ((u ≡ a) × (v ≡ b)) ⊎ ((u ≡ b) × (v ≡ a))
      go (inl s) = absurd (along_other a b c u v w a x f g m (bracket-first (at a) (at b))
          (weak (turns_2 T a b c f)) (zero_weak_left (bracket-second (at c) (at a))) z h k s)
      go (inr (inl s)) =
          absurd (along_other a b c u v w b x f g m (bracket-second (at a) (at b)) (zero_weak_left
          (bracket-first (at b) (at c))) (weak (turns_2 T b c a (T.turned a b c f))) z h k s)
      go (inr (inr s)) = elim (sign (bracket (at a) (at b) (at w))) [
        | below r ↦ inr (opposite_within a b u v w x va vb g clear s.0 s.1 r m h k)
        | none r ↦ absurd (flat r s.0 s.1)
        | above r ↦ inl (opposite_within b a u v w x vb va g (clear-swapped a b clear) s.1 s.0
            (negated_right (bracket-swapped (at a) (at b) (at w)) r)
            (between-swapped (at a) (at b) x m) h k)
      ]
        where
          flat : bracket (at a) (at b) (at w) ≡ pos 0 → bracket (at u) (at v) (at a) ≡ pos 0
              → bracket (at u) (at v) (at b) ≡ pos 0 → ⊥
          flat r p q =
              let on = second_on (at u) (at v) (at w) (at a) (at b) (T.turns u v w g) p q in
              let same = unit_weights (at a) (at b) (at w) (at v) (T.whole a) (T.whole b)
              (T.whole w) (T.whole v) in
              let times = meeting (at a) (at b) (at w) (at v) (at b) (at c) in
              let zb = zero_of_mul-zero_ℤ {k = bracket (at b) (at c) (at a)}
              {x = bracket (at v) (at w) (at b)} (pos-ne-zero_ℤ (turns_2 T a b c f))
              (only (bracket (at a) (at b) (at v)) (bracket (at a) (at b) (at w)) (bracket (at b)
              (at c) (at w)) (bracket (at b) (at c) (at v)) (bracket (at v) (at w) (at b))
              (bracket (at b) (at c) (at a)) (bracket (at v) (at w) (at a))
              (bracket (at b) (at c) (at b)) on r (bracket-first (at b) (at c)) times) in
              none_sum m.n m.k m.l (bracket (at v) (at w) x) (bracket (at v) (at w) (at a))
              (bracket (at v) (at w) (at b)) m.n_above h (m.along (at v) (at w)) zb
              (equal (bracket (at a) (at b) (at v)) (bracket (at a) (at b) (at w))
              (bracket (at v) (at w) (at b)) (bracket (at v) (at w) (at a)) on r same)
            where
              only : (x y X Y k A l B : ℤ) → x ≡ pos 0 → y ≡ pos 0 → B ≡ pos 0
                  → x *ℤ X -ℤ y *ℤ Y ≡ k *ℤ A -ℤ l *ℤ B → A *ℤ k ≡ pos 0
              only x y X Y k A l B i j o e = let p = product_zero_left X i in
                  let q = product_zero_left Y j in let r = zero-mul_ℤ l o in omega (arith, ints)

              equal : (x y p q : ℤ) → x ≡ pos 0 → y ≡ pos 0 → x -ℤ y ≡ p -ℤ q → q ≡ p
              equal x y p q i j e = omega (arith, ints)

              none_sum : (n k l x α β : ℤ) → pos 0 <ℤ n → pos 0 <ℤ x → n *ℤ x ≡ k *ℤ α +ℤ l *ℤ β
                  → β ≡ pos 0 → α ≡ β → ⊥
              none_sum n k l x α β hn hx e i j =
                  let p = zero-mul_ℤ k (j ∙ i) in let q = zero-mul_ℤ l i in
                  let r = mul-pos_ℤ {a = n} {b = x} hn hx in omega (arith, ints)
