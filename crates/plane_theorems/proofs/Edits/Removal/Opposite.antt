-- Round a vertex v: two corners of its star that do not turn left, and are not next to one another,
-- are opposite corners of four, with v between the other two.
-- Notions: turns_of_four, AgreeInFours; corners_meet.
use Rattle.std.proofs.Common.{◌≡◌, ◌⊎◌, ℕ, sym, ap, ◌∙◌, subst, arith}
use mathlib.Core.Logic.{inl, inr, ◌≢◌}
use Rattle.std.specs.Prelude.{List, ℤ, pos, ◌+ℤ◌, ◌-ℤ◌, ◌*ℤ◌, ◌≤ℤ◌, ◌<ℤ◌, neg_ℤ}
use Rattle.std.proofs.lemmas.Int.{ints}
use Rattle.std.proofs.lemmas.Bool.{cases_eq}
use Rattle.plane.specs.{Face, Point, whole, WithinSegment}
use Rattle.plane.proofs.{at_most_if_not_less, bracket, bracket-last, bracket-swap, bracket-turn}
use Rattle.plane.proofs.{left_not_below, left_not_zero, less_if_not_same, lt_or_ge_ℤ}
use Rattle.plane.proofs.{mul-nonneg_of_nonpos_ℤ, mul-pos_ℤ, negated_left, nonneg_of_mul-nonneg_ℤ}
use Rattle.plane.proofs.{opposite_of_not_positive, pluecker, pos_of_mul-pos_ℤ, product_zero_left}
use Rattle.plane.proofs.{right_not_zero, weak, weak_right, zero-mul_ℤ, zero_of_mul-zero_ℤ}
use Rattle.plane.proofs.{Signs.neither_sign_is_zero, zero_weak, zero_weak_left}
use Rattle.plane_theorems.proofs.{Edits.Insertion.Hull.on_side, Tiling.Flows.IsTurnOf}
use Rattle.plane_theorems.proofs.Edits.Removal.Star.{IsInAngle, same_angle}
use Rattle.plane_theorems.proofs.Tiling.Counting.{at, SignMesh}
use Rattle.plane_theorems.proofs.Tiling.Covering as C

-- the six turns between four ways have Pluecker's relation
abbrev pub AgreeInFours : (ℕ → ℕ → ℤ) → Type 0
AgreeInFours turn = (a b c d : ℕ)
    → turn a b *ℤ turn c d -ℤ turn a c *ℤ turn b d +ℤ turn a d *ℤ turn b c ≡ pos 0

module _ (n : ℕ) (p : ℕ → Point) (faces : List Face) (outer : List (ℕ × ℕ))
    (m : SignMesh n p faces outer) (v : ℕ) where
  -- the turn from the way to i to the way to j
  abbrev turn : ℕ → ℕ → ℤ
  turn i j = bracket (at p v) (at p i) (at p j)

  -- the other way round, the turn has the other sign
  pub turn_back : (i j : ℕ) → turn i j ≡ neg_ℤ (turn j i)
  turn_back i j = bracket-turn _ _ _ ∙ bracket-swap _ _ _ ∙ ap neg_ℤ (sym (bracket-turn _ _ _))

  -- a neighbour does not turn from itself
  pub turn_own : (i : ℕ) → turn i i ≡ pos 0
  turn_own i = bracket-last _ _

  -- four ways
  pub turns_of_four : AgreeInFours turn
  turns_of_four a b c d = pluecker _ _ _ _ _

  -- w is in the angle from a up to b
  in_angle : (a b w : ℕ) → pos 0 ≤ℤ turn a w → pos 0 <ℤ turn w b
      → IsInAngle n p faces outer m v a b (at p w)
  in_angle a b w h k = record {
    from = h;
    to = subst (λ z. pos 0 <ℤ z) (bracket-turn _ _ _ ∙ bracket-turn _ _ _) k;
  }

  starts_angle : (a b : ℕ) → pos 0 <ℤ turn a b → IsInAngle n p faces outer m v a b (at p a)
  starts_angle a b h = in_angle a b a (zero_weak_left (turn_own a)) h

  -- the faces v a b and v b c, with a corner at b that does not turn left seen from v
  module _ (a b c : ℕ) (first : IsTurnOf faces v a b) (second : IsTurnOf faces v b c)
      (bad : turn a c ≤ℤ pos 0) where
    -- v a b turns left
    ab : pos 0 <ℤ turn a b
    ab = C.turn_left_of n p _ _ m v a b first

    -- v b c turns left
    bc : pos 0 <ℤ turn b c
    bc = C.turn_left_of n p _ _ m v b c second

    -- left of the way to a: in one of the two angles
    left_in : (w : ℕ) → pos 0 <ℤ turn a w
        → IsInAngle n p faces outer m v a b (at p w) ⊎ IsInAngle n p faces outer m v b c (at p w)
    left_in w h = elim (lt_or_ge_ℤ _ (turn w b)) [
      | inl k ↦ inl (in_angle a b w (weak h) k)
      | inr k ↦ (let r = turns_of_four a w b c in let l = mul-pos_ℤ h bc in
          inr (in_angle b c w (opposite_of_not_positive (turn b w) (turn w b) (turn_back b w) k)
          (pos_of_mul-pos_ℤ ab (omega (arith, ints, mul-nonneg_of_nonpos_ℤ bad k)))))
    ]

    -- on the way to a, short of b: in the first
    on_in : (w : ℕ) → turn a w ≡ pos 0 → pos 0 <ℤ turn w b
        → IsInAngle n p faces outer m v a b (at p w)
    on_in w e k = in_angle a b w (zero_weak_left e) k

    -- the way to another vertex that begins an angle of its own, neither a nor b, is not left of a
    not_left : (w x : ℕ) → IsTurnOf faces v w x → w ≢ a → w ≢ b → turn a w ≤ℤ pos 0
    not_left w x f na nb = at_most_if_not_less _ _ (λ h. elim (left_in w h) [
      | inl i ↦ na (sym (same_angle n p _ _ m v a b w x first f _ (record { lt = tt }) i
          (starts_angle w x (C.turn_left_of n p _ _ m v w x f))).0)
      | inr i ↦ nb (sym (same_angle n p _ _ m v b c w x second f _ (record { lt = tt }) i
          (starts_angle w x (C.turn_left_of n p _ _ m v w x f))).0)
    ])

    not_on : (w x : ℕ) → IsTurnOf faces v w x → w ≢ a → turn a w ≡ pos 0 → turn w b ≤ℤ pos 0
    not_on w x f na e = at_most_if_not_less _ _ (λ h. na (sym (same_angle n p _ _ m v a b w x first
        f _ (record { lt = tt }) (on_in w e h) (starts_angle w x
        (C.turn_left_of n p _ _ m v w x f))).0))

  -- two such corners, at b and at e, that are not next to one another; g and h come after c and f
  module _ (a b c d e f g h : ℕ) (ab_face : IsTurnOf faces v a b) (bc_face : IsTurnOf faces v b c)
      (cg_face : IsTurnOf faces v c g) (bad : turn a c ≤ℤ pos 0) (de_face : IsTurnOf faces v d e)
      (ef_face : IsTurnOf faces v e f) (fh_face : IsTurnOf faces v f h) (bad' : turn d f ≤ℤ pos 0)
      (a_not_d : a ≢ d) (a_not_e : a ≢ e) (b_not_d : b ≢ d) (b_not_e : b ≢ e) (c_not_e : c ≢ e)
      (f_not_b : f ≢ b) where
    level : turn a d ≡ pos 0
    level = between_zero (turn a d) (turn d a) (turn_back a d)
        (not_left a b c ab_face bc_face bad d e de_face (λ s. a_not_d (sym s))
        (λ s. b_not_d (sym s))) (not_left d e f de_face ef_face bad' a b ab_face a_not_d a_not_e)
      where
        between_zero : (x y : ℤ) → x ≡ neg_ℤ y → x ≤ℤ pos 0 → y ≤ℤ pos 0 → x ≡ pos 0
        between_zero x y s i j = omega (arith, ints)

    -- v a b turns left
    ab' : pos 0 <ℤ turn a b
    ab' = C.turn_left_of n p _ _ m v a b ab_face

    -- v b c turns left
    bc' : pos 0 <ℤ turn b c
    bc' = C.turn_left_of n p _ _ m v b c bc_face

    -- v d e turns left
    de' : pos 0 <ℤ turn d e
    de' = C.turn_left_of n p _ _ m v d e de_face

    -- d is on the far side of v from a
    far : turn d b <ℤ pos 0
    far = less_if_not_same _ _
        (not_on a b c ab_face bc_face bad d e de_face (λ s. a_not_d (sym s)) level)
        (λ s. let r = turns_of_four a d b e in let z = product_zero_left (turn b e) level in
        left_not_zero (mul-pos_ℤ ab' de') (omega (arith, ints, zero-mul_ℤ (turn a e) s)))

    abdc : turn a b *ℤ turn d c ≡ turn a c *ℤ turn d b
    abdc = omega (arith, ints, turns_of_four a d b c, product_zero_left (turn b c) level)

    -- c is not left of d, nor on its way unless it is d
    dc_weak : pos 0 ≤ℤ turn d c
    dc_weak = nonneg_of_mul-nonneg_ℤ ab'
        (omega (arith, ints, abdc, mul-nonneg_of_nonpos_ℤ bad (weak_right far)))

    dc_zero : turn d c ≡ pos 0
    dc_zero = elim (lt_or_ge_ℤ _ (turn d c)) [
      | inl l ↦ absurd (left_not_below l (not_right l))
      | inr l ↦ neither_sign_is_zero (turn d c) l dc_weak
    ]
      where
        -- c left of d begins an angle of its own
        not_right : pos 0 <ℤ turn d c → turn d c ≤ℤ pos 0
        not_right l = elim (cases_eq c d) [
          | inl s ↦ zero_weak (ap (λ o. turn d o) s ∙ turn_own d)
          | inr s ↦ not_left d e f de_face ef_face bad' c g cg_face s c_not_e
        ]

    ac_zero : turn a c ≡ pos 0
    ac_zero = zero_of_mul-zero_ℤ (λ s. right_not_zero far s)
        (omega (arith, ints, abdc, zero-mul_ℤ (turn a b) dc_zero))

    -- so the corners meet: c is d
    c_is_d : c ≡ d
    c_is_d = elim (cases_eq c d) [
      | inl s ↦ s
      | inr s ↦ absurd (left_not_below ce (not_on d e f de_face ef_face bad' c g cg_face s dc_zero))
    ]
      where
        ce : pos 0 <ℤ turn c e
        ce = let r = turns_of_four b d c e in let l = mul-pos_ℤ bc' de' in
            pos_of_mul-pos_ℤ (negated_left (turn_back b d) far)
            (omega (arith, ints, zero-mul_ℤ (turn b e) dc_zero))

    -- the two corners are one, and v is strictly between a and c
    pub corners_meet : (c ≡ d) × WithinSegment (whole (p a)) (whole (p c)) (whole (p v))
    corners_meet = (
      c_is_d,
      on_side _ _ _ _ (rw bracket-turn at bc') (bracket-swap _ _ _ ∙ ap neg_ℤ
          (sym (bracket-turn _ _ _) ∙ ac_zero)) (rw bracket-turn at ab'),
    )
