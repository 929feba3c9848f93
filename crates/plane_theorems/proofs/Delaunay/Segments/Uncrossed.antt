-- A segment of two vertices that carries no third and that no edge crosses is an edge.
-- Lemmas: edge_if_uncrossed.
use Prim.Native.Nat.{ℕ}
use lib.IntN.{ℤ, pos, ◌+ℤ◌, ◌*ℤ◌, neg_ℤ}
use lib.Signed.{◌<ℤ◌, ◌≤ℤ◌}
use mathlib.Core.Path.{◌≡◌, sym, subst}
use mathlib.Core.Logic.{◌⊎◌, inl, inr}
use native.Mathlib.Omega.{arith}
use borrow.Author.Differences.{ints}
use Rattle.plane.proofs.{above, below, mul-pos_ℤ, neg-mul_ℤ, neg-pos_ℤ, none, product_zero_left}
use Rattle.plane.proofs.{right_not_above, Sign, sign, times_one, weak, zero_weak_left}
use Rattle.plane_theorems.proofs.Delaunay.Points.Bracket.{bracket, bracket-turned, cramer, cramer-w}
use Rattle.plane_theorems.proofs.Delaunay.Segments.FlipExists.{swap_below}
use Rattle.plane_theorems.proofs.{Delaunay.Segments.Joining.Crosses, Delaunay.Tilings.Meets.IsEdge}
use Rattle.plane_theorems.proofs.Delaunay.Tilings.Across.{inner_between}
use Rattle.plane_theorems.proofs.{Delaunay.Tilings.Cones.cone, Delaunay.Tilings.Faces.turned-above}
use Rattle.plane_theorems.proofs.Delaunay.Tilings.Faces.{Between, corner_2, none_within, Tiling}

-- d x = p u + r w + m q, where m is 0
solved_without_third : (d x p u r w m q : ℤ) → d *ℤ x ≡ p *ℤ u +ℤ r *ℤ w +ℤ m *ℤ q → m ≡ pos 0
    → r *ℤ w ≡ neg_ℤ p *ℤ u +ℤ d *ℤ x
solved_without_third d x p u r w m q e z =
    let i = product_zero_left q z in omega (arith, ints, neg-mul_ℤ p u)

solved_without_second : (d x p u m q r w : ℤ) → d *ℤ x ≡ p *ℤ u +ℤ m *ℤ q +ℤ r *ℤ w → m ≡ pos 0
    → r *ℤ w ≡ neg_ℤ p *ℤ u +ℤ d *ℤ x
solved_without_second d x p u m q r w e z =
    let i = product_zero_left q z in omega (arith, ints, neg-mul_ℤ p u)

no_weight : (d x p u m q r w : ℤ) → d *ℤ x ≡ p *ℤ u +ℤ m *ℤ q +ℤ r *ℤ w → m ≡ pos 0 → r ≡ pos 0
    → u ≡ pos 1 → p <ℤ pos 0 → pos 0 <ℤ d → pos 0 <ℤ x → ⊥
no_weight d x p u m q r w e z y o h k l =
    let i = product_zero_left q z in let j = product_zero_left w y in let f = times_one p u o in
    let g = mul-pos_ℤ {a = d} {b = x} k l in omega (arith, ints)

module _ (T : Tiling) (s t : ℕ) (hs : T.IsVertex s) (ht : T.IsVertex t) (two : ¬ (t ≡ s))
    (clear : (n : ℕ) → T.IsVertex n → ¬ Between (T.at s) (T.at t) (T.at n))
    (free : (v y : ℕ) → ¬ Crosses T s t hs ht clear v y) where
  open T use {at, IsVertex, IsFace}

  at_face : (b c : ℕ) → IsFace s b c → pos 0 ≤ℤ bracket (at s) (at b) (at t)
      → pos 0 ≤ℤ bracket (at c) (at s) (at t) → IsEdge T s t
  at_face b c f h₁ h₂ = go (sign (bracket (at s) (at b) (at t)))
      (sign (bracket (at c) (at s) (at t))) (sign (bracket (at b) (at c) (at t)))
    where
      sbc : pos 0 <ℤ bracket (at s) (at b) (at c)
      sbc = T.turns s b c f

      f₂ : IsFace b c s
      f₂ = T.turned s b c f

      f₃ : IsFace c s b
      f₃ = T.turned b c s f₂

      hb : IsVertex b
      hb = corner_2 T s b c f

      hc : IsVertex c
      hc = T.corner c s b f₃

      corner : pos 0 ≤ℤ bracket (at b) (at c) (at t) → (t ≡ s) ⊎ ((t ≡ b) ⊎ (t ≡ c))
      corner h = T.empty s b c t f ht (record { first = h₁; second = h; third = h₂ })

      edge_b : t ≡ b → IsEdge T s t
      edge_b e = subst (λ n. IsEdge T s n) (sym e) (inl (c, f))

      edge_c : t ≡ c → IsEdge T s t
      edge_c e = subst (λ n. IsEdge T s n) (sym e) (inr (b, f₃))

      either : (t ≡ s) ⊎ ((t ≡ b) ⊎ (t ≡ c)) → IsEdge T s t
      either (inl e) = absurd (two e)
      either (inr (inl e)) = edge_b e
      either (inr (inr e)) = edge_c e

      go : Sign (bracket (at s) (at b) (at t)) → Sign (bracket (at c) (at s) (at t))
          → Sign (bracket (at b) (at c) (at t)) → IsEdge T s t
      go (below p) q r = absurd (right_not_above p h₁)
      go p (below q) r = absurd (right_not_above q h₂)
      go (above p) (above q) (below r) = absurd (free b c (record {
        edge = inl (s, f₂);
        right = swap_below (at s) (at b) (at t) p;
        left = subst (λ z. pos 0 <ℤ z) (sym (bracket-turned (at c) (at s) (at t))) q;
        start = turned-above _ _ _ sbc;
        end = r;
      }))
      go (above p) (above q) (none r) = either (corner (zero_weak_left r))
      go (above p) (above q) (above r) = either (corner (weak r))
      go (none p) (none q) (below r) =
          absurd (no_weight (bracket (at s) (at b) (at c)) (at t).w (bracket (at b) (at c) (at t))
          (at s).w (bracket (at c) (at s) (at t)) (at b).w (bracket (at s) (at b) (at t)) (at c).w
          (cramer-w (at s) (at b) (at c) (at t)) q p (T.whole s) r sbc (at t).positive)
      go (none p) (none q) (none r) = either (corner (zero_weak_left r))
      go (none p) (none q) (above r) = either (corner (weak r))
      go (none p) (above q) (above r) =
          absurd (none_within T s b c t f ht (inner_between (at s) (at b) (at c) (at t) sbc p r q))
      go (none p) (above q) (none r) = either (corner (zero_weak_left r))
      go (none p) (above q) (below r) = absurd (clear b hb (record {
        n = bracket (at c) (at s) (at t);
        k = neg_ℤ (bracket (at b) (at c) (at t));
        l = bracket (at s) (at b) (at c);
        n_above = q;
        k_above = neg-pos_ℤ r;
        l_above = sbc;
        along = λ u v. solved_without_third (bracket (at s) (at b) (at c)) (bracket u v (at t))
            (bracket (at b) (at c) (at t)) (bracket u v (at s)) (bracket (at c) (at s) (at t))
            (bracket u v (at b)) (bracket (at s) (at b) (at t)) (bracket u v (at c))
            (cramer (at s) (at b) (at c) (at t) u v) p;
      }))
      go (above p) (none q) (above r) = absurd (none_within T c s b t f₃ ht (inner_between (at c)
          (at s) (at b) (at t) (turned-above _ _ _ (turned-above _ _ _ sbc)) q p r))
      go (above p) (none q) (none r) = either (corner (zero_weak_left r))
      go (above p) (none q) (below r) = absurd (clear c hc (record {
        n = bracket (at s) (at b) (at t);
        k = neg_ℤ (bracket (at b) (at c) (at t));
        l = bracket (at s) (at b) (at c);
        n_above = p;
        k_above = neg-pos_ℤ r;
        l_above = sbc;
        along = λ u v. solved_without_second (bracket (at s) (at b) (at c)) (bracket u v (at t))
            (bracket (at b) (at c) (at t)) (bracket u v (at s)) (bracket (at c) (at s) (at t))
            (bracket u v (at b)) (bracket (at s) (at b) (at t)) (bracket u v (at c))
            (cramer (at s) (at b) (at c) (at t) u v) q;
      }))

  -- two vertices whose segment crosses no edge and passes no vertex are joined
  pub edge_if_uncrossed : IsEdge T s t
  edge_if_uncrossed = let e = cone T s (at t) hs (T.vertex_in_hull t ht) in
      at_face e.b e.c e.is_face e.first e.second
