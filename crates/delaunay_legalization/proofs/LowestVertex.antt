-- Where an outer edge comes down to a vertex and the next one goes up, the vertex is lowest.
-- Lemmas: turns_at_lowest.
use Rattle.std.proofs.Common.{◌≡◌, ◌⊎◌, ℕ, ◌<◌, List, arith}
use mathlib.Core.Logic.{inl, inr, ◌≢◌}
use Rattle.std.specs.Prelude.{ℤ, pos, ◌+ℤ◌, ◌-ℤ◌, ◌*ℤ◌, ◌<ℤ◌, ◌≤ℤ◌, Contains}
use Rattle.std.proofs.lemmas.Int.{ints}
use Rattle.plane.specs.{Face, Point}
use Rattle.plane.proofs.{bracket, bracket-swap, mul-nonneg_ℤ, mul-nonpos_of_nonneg_nonpos_ℤ}
use Rattle.plane.proofs.{negated_below, nonneg_of_mul-nonneg_ℤ, not_on_line, pluecker}
use Rattle.plane.proofs.{pos-ne-zero_ℤ, product_zero_left, Vec3, weak, zero_of_mul-zero_ℤ}
use Rattle.plane.proofs.{Signs.named_difference_is_positive, zero_or_left}
use Rattle.plane_theorems.proofs.{at, SignMesh, Tiling.Sweep.IsSweep}

-- ---- steps

not_below_by_rise : (a b d : ℤ) → d ≡ b -ℤ a → pos 0 ≤ℤ d → a ≤ℤ b
not_below_by_rise a b d e h = omega (arith, ints)

first_not_negative : (a b c : ℤ) → a -ℤ b +ℤ c ≡ pos 0 → pos 0 ≤ℤ b → c ≤ℤ pos 0 → pos 0 ≤ℤ a
first_not_negative a b c e h k = omega (arith, ints)

last_is_zero : (a b c : ℤ) → a -ℤ b +ℤ c ≡ pos 0 → a ≡ pos 0 → pos 0 ≤ℤ b → c ≤ℤ pos 0 → c ≡ pos 0
last_is_zero a b c e z h k = omega (arith, ints)

module _ (n : ℕ) (p : ℕ → Point) (faces : List Face) (outer : List (ℕ × ℕ))
    (m : SignMesh n p faces outer) where
  -- the bracket of three vertices
  abbrev det : ℕ → ℕ → ℕ → ℤ
  det i j k = bracket (at p i) (at p j) (at p k)

  -- not all vertices are on the line of two
  not_all_level : (u v : ℕ) → u < n → v < n → u ≢ v → ((k : ℕ) → k < n → det u v k ≡ pos 0) → ⊥
  not_all_level u v hu hv uv all =
      let f = m.some_face.0 in
      let c = m.corners f m.some_face.1 in
      let same =
      not_on_line (at p f.a) (at p f.b) (at p f.c) (p u) (p v) (m.turning f m.some_face.1) in
      m.distinct u v hu hv uv (same (all f.a c.0) (all f.b c.1) (all f.c c.2))

  module _ (way : Vec3) (height : ℕ → ℤ) (s : IsSweep n p way height) where
    -- how much higher j is than i
    abbrev rise : ℕ → ℕ → ℤ
    rise i j = bracket (at p i) (at p j) way

    -- where the outer edge from u comes down to v and that to w goes up, no vertex is below v
    pub turns_at_lowest : (u v w : ℕ) → Contains outer (u, v) → Contains outer (v, w)
        → height v <ℤ height u → height v <ℤ height w → (k : ℕ) → k < n → height v ≤ℤ height k
    turns_at_lowest u v w a b down up k k_in = go (zero_or_left (back w (m.ends (v, w) b).1))
      where
        to_u : pos 0 <ℤ rise v u
        to_u = named_difference_is_positive (height v) (height u) (rise v u) (s.seen v u) down

        to_w : pos 0 <ℤ rise v w
        to_w = named_difference_is_positive (height v) (height w) (rise v w) (s.seen v w) up

        relation : (z : ℕ)
            → det v u w *ℤ rise v z -ℤ det v u z *ℤ rise v w +ℤ rise v u *ℤ det v w z ≡ pos 0
        relation z = pluecker (at p v) (at p u) (at p w) (at p z) way

        back : (z : ℕ) → z < n → pos 0 ≤ℤ det v u z
        back z h =
            negated_below (bracket-swap (at p v) (at p u) (at p z)) (m.supporting (u, v) a z h)

        second : (z : ℕ) → z < n → pos 0 ≤ℤ (det v u z *ℤ rise v w)
        second z h = mul-nonneg_ℤ (back z h) (weak to_w)

        third : (z : ℕ) → z < n → (rise v u *ℤ det v w z) ≤ℤ pos 0
        third z h = mul-nonpos_of_nonneg_nonpos_ℤ (weak to_u) (m.supporting (v, w) b z h)

        -- u, v and w on one line: so would be all
        level : det v u w ≡ pos 0 → (z : ℕ) → z < n → det v w z ≡ pos 0
        level e z h = zero_of_mul-zero_ℤ (pos-ne-zero_ℤ to_u)
            (last_is_zero (det v u w *ℤ rise v z) (det v u z *ℤ rise v w) (rise v u *ℤ det v w z)
            (relation z) (product_zero_left (rise v z) e) (second z h) (third z h))

        go : (det v u w ≡ pos 0) ⊎ (pos 0 <ℤ det v u w) → height v ≤ℤ height k
        go (inl e) = absurd (let d = m.ends (v, w) b in not_all_level v w d.0 d.1 d.2 (level e))
        go (inr turns) = not_below_by_rise (height v) (height k) (rise v k) (s.seen v k)
            (nonneg_of_mul-nonneg_ℤ turns
            (first_not_negative (det v u w *ℤ rise v k) (det v u k *ℤ rise v w)
            (rise v u *ℤ det v w k)
            (relation k) (second k k_in) (third k k_in)))
