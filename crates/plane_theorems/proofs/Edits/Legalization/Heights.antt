-- The height that a face carries over a point, times the turn of its corners: linear in the point.
-- What a flip does to it.
-- Notions: carriedᵖ; carried, carried-turn, lower_abd_abc, lower_abd_acd, lower_bcd_abc,
-- lower_bcd_acd.
use Rattle.std.proofs.Common.{◌≡◌, [], ◌∷◌, arith}
use Rattle.std.specs.Prelude.{ℤ, pos, ◌+ℤ◌, ◌-ℤ◌, ◌*ℤ◌, ◌≤ℤ◌, neg_ℤ}
use Rattle.std.proofs.lemmas.Int.{ints}
use Rattle.plane.proofs.{◌⊕◌, ◌⊖◌, ◌⊗◌, bracket, bracketᵖ, heightᵖ, incircle, incircleᵖ}
use Rattle.plane.proofs.{mul-nonneg_ℤ, Poly, ring_over, Vec3, vec3, Vec3ᵖ, ⊝}
use Rattle.plane.proofs.Circles.{height}

-- the height over z of the plane through the lifted corners a b c, times their bracket
unfoldable pub carried : Vec3 → Vec3 → Vec3 → Vec3 → ℤ
unfolding bracket
carried a b c z =
    height a *ℤ bracket z b c +ℤ height b *ℤ bracket a z c +ℤ height c *ℤ bracket a b z

-- the height that a face carries, times its bracket, as a polynomial
abbrev pub carriedᵖ : Vec3ᵖ → Vec3ᵖ → Vec3ᵖ → Vec3ᵖ → Poly
carriedᵖ a b c z =
    heightᵖ a ⊗ bracketᵖ z b c ⊕ heightᵖ b ⊗ bracketᵖ a z c ⊕ heightᵖ c ⊗ bracketᵖ a b z

-- the height that a face carries is the same in its next rotation
pub carried-turn : (a b c z : Vec3) → carried a b c z ≡ carried b c a z
unfolding carried bracket
carried-turn a b c z = ring_over vec3 [] (a ∷ b ∷ c ∷ z ∷ []) (λ a b c z. carriedᵖ a b c z)
    (λ a b c z. carriedᵖ b c a z) tt

-- ---- the diagonal a c of the quadrilateral a b c d is exchanged for b d
falls_abd_abc : (a b c d z : Vec3) → carried a b d z *ℤ bracket a b c -ℤ carried a b c z *ℤ bracket
    a b d ≡ neg_ℤ (incircle a b c d *ℤ bracket a b z)
unfolding carried incircle bracket
falls_abd_abc a b c d z = ring_over vec3 [] (a ∷ b ∷ c ∷ d ∷ z ∷ [])
    (λ a b c d z. carriedᵖ a b d z ⊗ bracketᵖ a b c ⊖ carriedᵖ a b c z ⊗ bracketᵖ a b d)
    (λ a b c d z. ⊝ (incircleᵖ a b c d ⊗ bracketᵖ a b z)) tt

falls_abd_acd : (a b c d z : Vec3) → carried a b d z *ℤ bracket a c d -ℤ carried a c d z *ℤ bracket
    a b d ≡ neg_ℤ (incircle a b c d *ℤ bracket d a z)
unfolding carried incircle bracket
falls_abd_acd a b c d z = ring_over vec3 [] (a ∷ b ∷ c ∷ d ∷ z ∷ [])
    (λ a b c d z. carriedᵖ a b d z ⊗ bracketᵖ a c d ⊖ carriedᵖ a c d z ⊗ bracketᵖ a b d)
    (λ a b c d z. ⊝ (incircleᵖ a b c d ⊗ bracketᵖ d a z)) tt

falls_bcd_abc : (a b c d z : Vec3) → carried b c d z *ℤ bracket a b c -ℤ carried a b c z *ℤ bracket
    b c d ≡ neg_ℤ (incircle a b c d *ℤ bracket b c z)
unfolding carried incircle bracket
falls_bcd_abc a b c d z = ring_over vec3 [] (a ∷ b ∷ c ∷ d ∷ z ∷ [])
    (λ a b c d z. carriedᵖ b c d z ⊗ bracketᵖ a b c ⊖ carriedᵖ a b c z ⊗ bracketᵖ b c d)
    (λ a b c d z. ⊝ (incircleᵖ a b c d ⊗ bracketᵖ b c z)) tt

falls_bcd_acd : (a b c d z : Vec3) → carried b c d z *ℤ bracket a c d -ℤ carried a c d z *ℤ bracket
    b c d ≡ neg_ℤ (incircle a b c d *ℤ bracket c d z)
unfolding carried incircle bracket
falls_bcd_acd a b c d z = ring_over vec3 [] (a ∷ b ∷ c ∷ d ∷ z ∷ [])
    (λ a b c d z. carriedᵖ b c d z ⊗ bracketᵖ a c d ⊖ carriedᵖ a c d z ⊗ bracketᵖ b c d)
    (λ a b c d z. ⊝ (incircleᵖ a b c d ⊗ bracketᵖ c d z)) tt

at_most_by : (x y e : ℤ) → x -ℤ y ≡ neg_ℤ e → pos 0 ≤ℤ e → x ≤ℤ y
at_most_by x y e h k = omega (arith, ints)

-- where the old diagonal fails, the new faces carry nothing higher
module _ (a b c d z : Vec3) (failing : pos 0 ≤ℤ incircle a b c d) where
  -- over what is left of a b, the plane through a, b, d is below that through a, b, c
  pub lower_abd_abc : pos 0 ≤ℤ bracket a b z
      → (carried a b d z *ℤ bracket a b c) ≤ℤ (carried a b c z *ℤ bracket a b d)
  lower_abd_abc h = at_most_by _ _ _ (falls_abd_abc a b c d z) (mul-nonneg_ℤ failing h)

  -- over what is left of d a, the plane through a, b, d is below that through a, c, d
  pub lower_abd_acd : pos 0 ≤ℤ bracket d a z
      → (carried a b d z *ℤ bracket a c d) ≤ℤ (carried a c d z *ℤ bracket a b d)
  lower_abd_acd h = at_most_by _ _ _ (falls_abd_acd a b c d z) (mul-nonneg_ℤ failing h)

  -- over what is left of b c, the plane through b, c, d is below that through a, b, c
  pub lower_bcd_abc : pos 0 ≤ℤ bracket b c z
      → (carried b c d z *ℤ bracket a b c) ≤ℤ (carried a b c z *ℤ bracket b c d)
  lower_bcd_abc h = at_most_by _ _ _ (falls_bcd_abc a b c d z) (mul-nonneg_ℤ failing h)

  -- over what is left of c d, the plane through b, c, d is below that through a, c, d
  pub lower_bcd_acd : pos 0 ≤ℤ bracket c d z
      → (carried b c d z *ℤ bracket a c d) ≤ℤ (carried a c d z *ℤ bracket b c d)
  lower_bcd_acd h = at_most_by _ _ _ (falls_bcd_acd a b c d z) (mul-nonneg_ℤ failing h)
