-- A segment of two vertices that is to become an edge: it is one where no edge crosses it, and an
-- edge that crosses it leads to the next.
-- Notions: Crosses, Before; before_crossing.
use Prim.Native.Nat.{ℕ}
use lib.IntN.{ℤ, pos, ◌+ℤ◌, ◌-ℤ◌, ◌*ℤ◌, neg_ℤ}
use lib.Signed.{◌<ℤ◌, ◌≤ℤ◌}
use mathlib.Core.Path.{◌≡◌, refl, sym, ◌∙◌, ap, subst}
use mathlib.Core.Logic.{◌⊎◌, inl, inr}
use mathlib.Core.List.{[], ◌∷◌}
use native.Mathlib.Omega.{arith}
use borrow.Author.Differences.{ints}
use Rattle.plane.proofs.{◌⊕◌, ◌⊖◌, ◌⊗◌, above, below, left_not_zero, lt_or_ge_ℤ}
use Rattle.plane.proofs.{mul-neg_of_pos_neg_ℤ, mul-nonneg_ℤ, mul-pos_of_neg_ℤ, mul-pos_ℤ, neg-mul_ℤ}
use Rattle.plane.proofs.{neg-pos_ℤ, neg_of_mul-neg_ℤ, none, num, right_not_zero, ring_in_from, Sign}
use Rattle.plane.proofs.{sign, weak, zero-mul_ℤ, ⊝}
use Rattle.plane_theorems.proofs.Delaunay.Floods.Flood.{swapped_above, swapped_below}
use Rattle.plane_theorems.proofs.Delaunay.Points.Bracket.{bracket, bracket-first, bracket-second}
use Rattle.plane_theorems.proofs.Delaunay.Points.Bracket.{bracket-turned, cramer, meeting}
use Rattle.plane_theorems.proofs.Delaunay.Tilings.Faces.{Between, Tiling}
use Rattle.plane_theorems.proofs.Delaunay.Tilings.Meets.{IsEdge}

first_above : (d o a f b g c h : ℤ) → d *ℤ o ≡ a *ℤ f +ℤ b *ℤ g +ℤ c *ℤ h → o ≡ pos 0 → f <ℤ pos 0
    → pos 0 ≤ℤ b → pos 0 <ℤ g → pos 0 <ℤ c → pos 0 <ℤ h → pos 0 <ℤ a
first_above d o a f b g c h e z hf hb hg hc hh = go (lt_or_ge_ℤ (pos 0) a)
  where
    go : (pos 0 <ℤ a) ⊎ (a ≤ℤ pos 0) → pos 0 <ℤ a
    go (inl p) = p
    go (inr p) = absurd (
        let l = zero-mul_ℤ d z in
        let i =
        mul-nonneg_ℤ {a = neg_ℤ a} {b = neg_ℤ f} (omega (arith, ints)) (omega (arith, ints)) in
        let j = mul-nonneg_ℤ {a = b} {b = g} hb (weak hg) in
        let k = mul-pos_ℤ {a = c} {b = h} hc hh in
        omega (arith, ints, neg-mul_ℤ a (neg_ℤ f), Rattle.plane.proofs.IntegerLaws.mul-neg_ℤ a f))

second_above : (d o a f b g c h : ℤ) → d *ℤ o ≡ a *ℤ f +ℤ b *ℤ g +ℤ c *ℤ h → o ≡ pos 0 → f <ℤ pos 0
    → pos 0 ≤ℤ a → pos 0 <ℤ g → pos 0 <ℤ c → h <ℤ pos 0 → pos 0 <ℤ b
second_above d o a f b g c h e z hf ha hg hc hh = go (lt_or_ge_ℤ (pos 0) b)
  where
    go : (pos 0 <ℤ b) ⊎ (b ≤ℤ pos 0) → pos 0 <ℤ b
    go (inl p) = p
    go (inr p) = absurd (
        let l = zero-mul_ℤ d z in
        let i = mul-nonneg_ℤ {a = a} {b = neg_ℤ f} ha (omega (arith, ints)) in
        let j = mul-nonneg_ℤ {a = neg_ℤ b} {b = g} (omega (arith, ints)) (weak hg) in
        let k = mul-neg_of_pos_neg_ℤ {a = c} {b = h} hc hh in
        omega (arith, ints, Rattle.plane.proofs.IntegerLaws.mul-neg_ℤ a f, neg-mul_ℤ b g))

-- m x - n y ≡ a p - b q, with p or q none
below_first : (m x n y a p b q : ℤ) → m *ℤ x -ℤ n *ℤ y ≡ a *ℤ p -ℤ b *ℤ q → pos 0 <ℤ m → n <ℤ pos 0
    → pos 0 <ℤ y → p ≡ pos 0 → b <ℤ pos 0 → q <ℤ pos 0 → x <ℤ pos 0
below_first m x n y a p b q e hm hn hy hp hb hq = neg_of_mul-neg_ℤ {k = m} {x = x} hm
    (let i = zero-mul_ℤ a hp in let j = mul-pos_of_neg_ℤ {a = b} {b = q} hb hq in let k =
    mul-pos_ℤ {a = neg_ℤ n} {b = y} (neg-pos_ℤ hn) hy in omega (arith, ints, neg-mul_ℤ n y))

below_second : (m x n y a p b q : ℤ) → m *ℤ x -ℤ n *ℤ y ≡ a *ℤ p -ℤ b *ℤ q → pos 0 <ℤ m → n <ℤ pos 0
    → pos 0 <ℤ y → q ≡ pos 0 → pos 0 <ℤ a → p <ℤ pos 0 → x <ℤ pos 0
below_second m x n y a p b q e hm hn hy hq ha hp = neg_of_mul-neg_ℤ {k = m} {x = x} hm
    (let i = zero-mul_ℤ b hq in let j = mul-neg_of_pos_neg_ℤ {a = a} {b = p} ha hp in let k =
    mul-pos_ℤ {a = neg_ℤ n} {b = y} (neg-pos_ℤ hn) hy in omega (arith, ints, neg-mul_ℤ n y))

-- the values of z from those of s and t
between_sum : (D S b V c Y a Z m T n fv fy : ℤ) → D *ℤ S ≡ b *ℤ V +ℤ c *ℤ Y +ℤ a *ℤ Z
    → m *ℤ T -ℤ n *ℤ S ≡ fy *ℤ V -ℤ fv *ℤ Y → b *ℤ fv +ℤ c *ℤ fy ≡ pos 0 → m ≡ a
    → fy *ℤ a *ℤ Z ≡ (fy *ℤ D +ℤ b *ℤ n) *ℤ S +ℤ neg_ℤ b *ℤ a *ℤ T
between_sum D S b V c Y a Z m T n fv fy e₁ e₂ e₃ e₄ =
    ring_in_from (D ∷ S ∷ b ∷ V ∷ c ∷ Y ∷ a ∷ Z ∷ m ∷ T ∷ n ∷ fv ∷ fy ∷ [])
    (λ D S b V c Y a Z m T n fv fy. fy ⊗ a ⊗ Z)
    (λ D S b V c Y a Z m T n fv fy. (fy ⊗ D ⊕ b ⊗ n) ⊗ S ⊕ ⊝ b ⊗ a ⊗ T)
    (λ D S b V c Y a Z m T n fv fy. (⊝ fy, D ⊗ S, b ⊗ V ⊕ c ⊗ Y ⊕ a ⊗ Z) ∷ (
      b,
      m ⊗ T ⊖ n ⊗ S,
      fy ⊗ V ⊖ fv ⊗ Y,
    ) ∷ (⊝ Y, b ⊗ fv ⊕ c ⊗ fy, num 0) ∷ (⊝ (b ⊗ T), m, a) ∷ [])
    (e₁, (e₂, (e₃, (e₄, tt)))) tt

sum_above : (x d b n : ℤ) → pos 0 <ℤ x → pos 0 <ℤ d → b <ℤ pos 0 → n <ℤ pos 0
    → pos 0 <ℤ (x *ℤ d +ℤ b *ℤ n)
sum_above x d b n h i j k = let p = mul-pos_ℤ {a = x} {b = d} h i in
    let q = mul-pos_of_neg_ℤ {a = b} {b = n} j k in omega (arith, ints)

balanced : (d o b f c g a h : ℤ) → d *ℤ o ≡ b *ℤ f +ℤ c *ℤ g +ℤ a *ℤ h → o ≡ pos 0 → h ≡ pos 0
    → b *ℤ f +ℤ c *ℤ g ≡ pos 0
balanced d o b f c g a h e z w =
    let p = zero-mul_ℤ d z in let q = zero-mul_ℤ a w in omega (arith, ints)

same_sign : (b f c g : ℤ) → b *ℤ f +ℤ c *ℤ g ≡ pos 0 → f <ℤ pos 0 → pos 0 <ℤ g
    → pos 0 ≤ℤ b → pos 0 ≤ℤ c
same_sign b f c g e hf hg hb = go (lt_or_ge_ℤ c (pos 0))
  where
    go : (c <ℤ pos 0) ⊎ (pos 0 ≤ℤ c) → pos 0 ≤ℤ c
    go (inr h) = h
    go (inl h) = absurd (let p = mul-nonneg_ℤ {a = b} {b = neg_ℤ f} hb (weak (neg-pos_ℤ hf)) in
        let q = mul-pos_ℤ {a = neg_ℤ c} {b = g} (neg-pos_ℤ h) hg in
        omega (arith, ints, Rattle.plane.proofs.IntegerLaws.mul-neg_ℤ b f, neg-mul_ℤ c g))

module _ (T : Tiling) (s t : ℕ) (hs : T.IsVertex s) (ht : T.IsVertex t)
    (clear : (n : ℕ) → T.IsVertex n → ¬ Between (T.at s) (T.at t) (T.at n)) where
  open T use {at, IsVertex, IsFace}

  -- an edge from a vertex on the right of s t to one on the left, with s and t on different sides
  -- of it
  pub record Crosses (v y : ℕ) : Type 0 where
    pub edge : IsEdge T v y
    pub right : bracket (at s) (at t) (at v) <ℤ pos 0
    pub left : pos 0 <ℤ bracket (at s) (at t) (at y)
    pub start : pos 0 <ℤ bracket (at v) (at y) (at s)
    pub end : bracket (at v) (at y) (at t) <ℤ pos 0

  -- before an edge that crosses lies the start, or one of the face's other sides crosses
  pub data Before (v y z : ℕ) : Type 0 where
    by_right : Crosses v z → Before v y z
    by_left : Crosses z y → Before v y z
    from_start : z ≡ s → Before v y z

  -- the third corner of the face on the side of s
  pub before_crossing : (v y z : ℕ) → Crosses v y → IsFace v y z → Before v y z
  before_crossing v y z c f = go (sign (bracket (at s) (at t) (at z)))
    where
      vyz : pos 0 <ℤ bracket (at v) (at y) (at z)
      vyz = T.turns v y z f

      flat : bracket (at s) (at t) (at s) ≡ pos 0
      flat = bracket-first (at s) (at t)

      sums : bracket (at v) (at y) (at z) *ℤ bracket (at s) (at t) (at s) ≡ bracket (at y) (at z)
          (at s) *ℤ bracket (at s) (at t) (at v) +ℤ bracket (at z) (at v) (at s) *ℤ bracket (at s)
          (at t) (at y) +ℤ bracket (at v) (at y) (at s) *ℤ bracket (at s) (at t) (at z)
      sums = cramer (at v) (at y) (at z) (at s) (at s) (at t)

      not_v : ¬ (s ≡ v)
      not_v e = right_not_zero c.right (ap (λ i. bracket (at s) (at t) (at i)) (sym e) ∙ flat)

      not_y : ¬ (s ≡ y)
      not_y e = left_not_zero c.left (ap (λ i. bracket (at s) (at t) (at i)) (sym e) ∙ flat)

      only_z : pos 0 ≤ℤ bracket (at y) (at z) (at s) → pos 0 ≤ℤ bracket (at z) (at v) (at s) → s ≡ z
      only_z h k =
          pick (T.empty v y z s f hs (record { first = weak c.start; second = h; third = k }))
        where
          pick : (s ≡ v) ⊎ ((s ≡ y) ⊎ (s ≡ z)) → s ≡ z
          pick (inl e) = absurd (not_v e)
          pick (inr (inl e)) = absurd (not_y e)
          pick (inr (inr e)) = e

      flipped : bracket (at v) (at z) (at y) <ℤ pos 0
      flipped = subst (λ i. i <ℤ pos 0) (sym (bracket-turned (at y) (at v) (at z)))
          (swapped_below (at v) (at y) (at z) vyz)

      go : Sign (bracket (at s) (at t) (at z)) → Before v y z
      go (above h) = pick (lt_or_ge_ℤ (bracket (at z) (at v) (at s)) (pos 0))
        where
          pick : (bracket (at z) (at v) (at s) <ℤ pos 0) ⊎ (pos 0 ≤ℤ bracket (at z) (at v) (at s))
              → Before v y z
          pick (inl k) = by_right (record {
            edge = inr (y, T.turned y z v (T.turned v y z f));
            right = c.right;
            left = h;
            start = swapped_above (at z) (at v) (at s) k;
            end = below_first _ _ _ (bracket (at v) (at z) (at s)) _ (bracket (at v) (at z) (at v))
                _ (bracket (at v) (at z) (at y)) (meeting (at v) (at y) (at t) (at s) (at v) (at z))
                c.start c.end (swapped_above (at z) (at v) (at s) k)
                (bracket-first (at v) (at z)) c.right flipped;
          })
          pick (inr k) =
              absurd (left_not_zero h (ap (λ i. bracket (at s) (at t) (at i)) (sym (only_z
              (weak (first_above _ _ _ _ _ _ _ _ sums flat c.right k c.left c.start h)) k)) ∙ flat))
      go (below h) = pick (lt_or_ge_ℤ (bracket (at y) (at z) (at s)) (pos 0))
        where
          pick : (bracket (at y) (at z) (at s) <ℤ pos 0) ⊎ (pos 0 ≤ℤ bracket (at y) (at z) (at s))
              → Before v y z
          pick (inl k) = by_left (record {
            edge = inr (v, T.turned v y z f);
            right = h;
            left = c.left;
            start = swapped_above (at y) (at z) (at s) k;
            end = below_second _ _ _ (bracket (at z) (at y) (at s)) _
                (bracket (at z) (at y) (at v)) _ (bracket (at z) (at y) (at y))
                (meeting (at v) (at y) (at t) (at s) (at z) (at y)) c.start c.end
                (swapped_above (at y) (at z) (at s) k) (bracket-second (at z) (at y)) c.left
                (subst (λ i. i <ℤ pos 0) (sym (bracket-turned (at v) (at z) (at y))) flipped);
          })
          pick (inr k) =
              absurd (right_not_zero h (ap (λ i. bracket (at s) (at t) (at i)) (sym (only_z k
              (weak (second_above _ _ _ _ _ _ _ _ sums flat c.right k c.left c.start h)))) ∙ flat))
      go (none h) = pick (lt_or_ge_ℤ (bracket (at y) (at z) (at s)) (pos 0))
        where
          even : bracket (at y) (at z) (at s) *ℤ bracket (at s) (at t) (at v)
              +ℤ bracket (at z) (at v) (at s) *ℤ bracket (at s) (at t) (at y) ≡ pos 0
          even = balanced (bracket (at v) (at y) (at z)) (bracket (at s) (at t) (at s))
              (bracket (at y) (at z) (at s)) (bracket (at s) (at t) (at v))
              (bracket (at z) (at v) (at s)) (bracket (at s) (at t) (at y))
              (bracket (at v) (at y) (at s)) (bracket (at s) (at t) (at z)) sums flat h

          pick : (bracket (at y) (at z) (at s) <ℤ pos 0) ⊎ (pos 0 ≤ℤ bracket (at y) (at z) (at s))
              → Before v y z
          pick (inr k) = from_start (sym (only_z k (same_sign _ _ _ _ even c.right c.left k)))
          pick (inl k) =
              absurd (clear z (T.corner z v y (T.turned y z v (T.turned v y z f))) (record {
                n = bracket (at s) (at t) (at y) *ℤ bracket (at v) (at y) (at s);
                k = bracket (at s) (at t) (at y) *ℤ bracket (at v) (at y) (at z)
                    +ℤ bracket (at y) (at z) (at s) *ℤ bracket (at v) (at y) (at t);
                l = neg_ℤ (bracket (at y) (at z) (at s)) *ℤ bracket (at v) (at y) (at s);
                n_above = mul-pos_ℤ c.left c.start;
                k_above = sum_above _ _ _ _ c.left vyz k c.end;
                l_above = mul-pos_ℤ (neg-pos_ℤ k) c.start;
                along = λ p q. between_sum (bracket (at v) (at y) (at z)) (bracket p q (at s))
                    (bracket (at y) (at z) (at s)) (bracket p q (at v))
                    (bracket (at z) (at v) (at s))
                    (bracket p q (at y)) (bracket (at v) (at y) (at s)) (bracket p q (at z))
                    (bracket (at v) (at y) (at s)) (bracket p q (at t))
                    (bracket (at v) (at y) (at t))
                    (bracket (at s) (at t) (at v)) (bracket (at s) (at t) (at y))
                    (cramer (at v) (at y)
                    (at z) (at s) p q) (meeting (at v) (at y) (at t) (at s) p q) even refl;
              }))
