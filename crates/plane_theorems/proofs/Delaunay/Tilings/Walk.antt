-- Steps along a way through faces, and from the local test at each edge to the circles of all
-- faces.
-- Notions: Leaves, Step, OnWay, IsOff; step, passes_between, separation, nearer_on_way,
-- far_end_nearer, leave, beyond.
use Prim.Native.Nat.{ℕ, zero, suc, ◌+◌, ◌<◌, ◌≤◌}
use lib.IntN.{ℤ, pos, negsuc, ◌+ℤ◌, ◌-ℤ◌, ◌*ℤ◌, neg_ℤ}
use lib.Signed.{◌<ℤ◌, ◌≤ℤ◌}
use mathlib.Core.Path.{◌≡◌, sym, ◌∙◌, ap, subst}
use mathlib.Core.List.{[], ◌∷◌}
use native.Mathlib.Omega.{arith}
use borrow.Author.Differences.{ints}
use Rattle.std.specs.Prelude.{sum_by}
use Rattle.{plane.specs.Fraction, plane_theorems.proofs.Delaunay.Points.Numbers.mix_positive}
use Rattle.plane.proofs.{◌⊕◌, ◌⊖◌, ◌⊗◌, above, balanced, below, mul-neg_of_pos_neg_ℤ, mul-pos_ℤ}
use Rattle.plane.proofs.{neg-mul_ℤ, neg-pos_ℤ, neg_of_mul-neg_ℤ, negated_left, none, num}
use Rattle.plane.proofs.{pos_of_mul-pos_ℤ, right_not_zero, ring_in, ring_in_from, sign, weak}
use Rattle.plane.proofs.{weak_right, zero-mul_ℤ, zero_weak, zero_weak_left, ⊝}
use Rattle.plane.proofs.Signs.{negative_and_not}
use Rattle.plane_theorems.proofs.Delaunay.Points.Bracket.{bracket, bracket-first, bracket-mixed}
use Rattle.plane_theorems.proofs.Delaunay.Points.Bracket.{bracket-second, bracket-swapped}
use Rattle.plane_theorems.proofs.Delaunay.Points.Bracket.{bracket-turned, meeting, mixed}
use Rattle.plane_theorems.proofs.{Delaunay.Points.Members.sum_by-lt, Delaunay.Tilings.Beyond.stays}
use Rattle.plane_theorems.proofs.Delaunay.Points.Nudges.{Closed, InOpen, nudged, size}
use Rattle.plane_theorems.proofs.Delaunay.Tilings.Beyond.{by_first, by_second, by_third, Exit, exit}
use Rattle.plane_theorems.proofs.Delaunay.Tilings.Faces.{Tiling}

-- the way from y, a point of a triangle, to z leaves it through the side a b
pub record Leaves (y z a b c : Fraction) : Type 0 where
  pub right : bracket a b z <ℤ pos 0
  pub second : pos 0 ≤ℤ (bracket a b y *ℤ bracket b c z -ℤ bracket a b z *ℤ bracket b c y)
  pub third : pos 0 ≤ℤ (bracket a b y *ℤ bracket c a z -ℤ bracket a b z *ℤ bracket c a y)

-- what becomes of the way from y to z in a triangle: it ends there, or leaves through one of the
-- sides
pub data Step (y z a b c : Fraction) : Type 0 where
  reached : Closed a b c z → Step y z a b c
  leaves_first : Leaves y z a b c → Step y z a b c
  leaves_second : Leaves y z b c a → Step y z a b c
  leaves_third : Leaves y z c a b → Step y z a b c

-- a way from a point of a closed triangle ends there or leaves through one of the sides
pub step : (y z a b c : Fraction) → Closed a b c y → Step y z a b c
step y z a b c h = go (exit (bracket a b y) (bracket a b z) (bracket b c y) (bracket b c z)
    (bracket c a y) (bracket c a z) h.first h.second h.third)
  where
    go : Exit (bracket a b y) (bracket a b z) (bracket b c y) (bracket b c z) (bracket c a y)
        (bracket c a z) → Step y z a b c
    go (stays p q r) = reached (record { first = p; second = q; third = r })
    go (by_first p q r) = leaves_first (record { right = p; second = q; third = r })
    go (by_second p q r) = leaves_second (record { right = p; second = q; third = r })
    go (by_third p q r) = leaves_third (record { right = p; second = q; third = r })

-- x' is strictly between x and p, for each linear form
pub record OnWay (x p x' : Fraction) : Type 0 where
  pub k : ℤ
  pub l : ℤ
  pub k_above : pos 0 <ℤ k
  pub l_above : pos 0 <ℤ l
  pub along : (u v : Fraction) → bracket u v x' ≡ k *ℤ bracket u v x +ℤ l *ℤ bracket u v p

left_before : (k l x p r : ℤ) → pos 0 <ℤ k → pos 0 <ℤ l → r ≡ k *ℤ x +ℤ l *ℤ p → pos 0 <ℤ r
    → p <ℤ pos 0 → pos 0 <ℤ x
left_before k l x p r hk hl e hr hp = pos_of_mul-pos_ℤ {k = k} {x = x} hk
    (let q = mul-neg_of_pos_neg_ℤ {a = l} {b = p} hl hp in omega (arith, ints))

-- ---- where the way meets the side
off_side : (s t s' t' : ℤ) → neg_ℤ t *ℤ s' +ℤ s *ℤ t' ≡ s *ℤ t' -ℤ t *ℤ s'
off_side s t s' t' = ring_in (s ∷ t ∷ s' ∷ t' ∷ []) (λ s t s' t'. ⊝ t ⊗ s' ⊕ s ⊗ t')
    (λ s t s' t'. s ⊗ t' ⊖ t ⊗ s') tt

-- ---- beyond the side
beyond_sum : (n s t u v b a' a b' : ℤ) → s *ℤ v -ℤ t *ℤ u ≡ b *ℤ a' -ℤ a *ℤ b'
    → (n *ℤ neg_ℤ t) *ℤ u +ℤ (n *ℤ s +ℤ pos 1) *ℤ v ≡ n *ℤ (b *ℤ a' -ℤ a *ℤ b') +ℤ v
beyond_sum n s t u v b a' a b' e = ring_in_from (n ∷ s ∷ t ∷ u ∷ v ∷ b ∷ a' ∷ a ∷ b' ∷ [])
    (λ n s t u v b a' a b'. (n ⊗ ⊝ t) ⊗ u ⊕ (n ⊗ s ⊕ num 1) ⊗ v)
    (λ n s t u v b a' a b'. n ⊗ (b ⊗ a' ⊖ a ⊗ b') ⊕ v)
    (λ n s t u v b a' a b'. (n, s ⊗ v ⊖ t ⊗ u, b ⊗ a' ⊖ a ⊗ b') ∷ []) (e, tt) tt

times_above : (n s : ℤ) → pos 0 <ℤ n → pos 0 <ℤ s → pos 0 <ℤ (n *ℤ s +ℤ pos 1)
times_above n s h k = let p = mul-pos_ℤ {a = n} {b = s} h k in omega (arith, ints)

both_none : (n b a' a b' v : ℤ) → a' ≡ pos 0 → b' ≡ pos 0 → n *ℤ (b *ℤ a' -ℤ a *ℤ b') +ℤ v ≡ v
both_none n b a' a b' v e d = let p = zero-mul_ℤ b e in let q = zero-mul_ℤ a d in
    let r = zero-mul_ℤ n {x = b *ℤ a' -ℤ a *ℤ b'} (omega (arith, ints)) in omega (arith, ints)

first_above : (b a' a b' : ℤ) → b' ≡ pos 0 → pos 0 <ℤ b → pos 0 <ℤ a'
    → pos 0 <ℤ (b *ℤ a' -ℤ a *ℤ b')
first_above b a' a b' e h k =
    let p = mul-pos_ℤ {a = b} {b = a'} h k in let q = zero-mul_ℤ a e in omega (arith, ints)

second_above : (b a' a b' : ℤ) → a' ≡ pos 0 → a <ℤ pos 0 → pos 0 <ℤ b'
    → pos 0 <ℤ (b *ℤ a' -ℤ a *ℤ b')
second_above b a' a b' e h k = let p = mul-pos_ℤ {a = neg_ℤ a} {b = b'} (neg-pos_ℤ h) k in
    let q = zero-mul_ℤ b e in omega (arith, ints, neg-mul_ℤ a b')

-- no linear form of p and v is 0 at q, but those that are 0 everywhere
abbrev pub IsOff : Fraction → Fraction → Fraction → Type 0
IsOff p v q = bracket p v q ≡ pos 0 → (u : Fraction) → bracket p v u ≡ pos 0

first_end : (m s t : ℤ) → pos 0 <ℤ t → pos 0 ≤ℤ m → m ≡ s *ℤ t → pos 0 ≤ℤ s
first_end m s t h k e = elim (sign s) [
  | below d ↦ absurd (let p = mul-pos_ℤ {a = neg_ℤ s} {b = t} (neg-pos_ℤ d) h in
      omega (arith, ints, neg-mul_ℤ s t))
  | none d ↦ zero_weak_left d
  | above d ↦ weak d
]

left_part : (m b a' a b' : ℤ) → m ≡ b *ℤ a' -ℤ a *ℤ b' → b' ≡ pos 0 → m ≡ b *ℤ a'
left_part m b a' a b' e d = let p = zero-mul_ℤ a d in omega (arith, ints)

right_part : (m b a' a b' : ℤ) → m ≡ b *ℤ a' -ℤ a *ℤ b' → a' ≡ pos 0 → m ≡ neg_ℤ a *ℤ b'
right_part m b a' a b' e d = let p = zero-mul_ℤ b d in omega (arith, ints, neg-mul_ℤ a b')

-- the way from x to p passes between the ends of the side
pub passes_between : (x p a b c : Fraction) → pos 0 <ℤ bracket a b c → IsOff p a x → IsOff p b x
    → Leaves x p a b c → (bracket x p a <ℤ pos 0) × (pos 0 <ℤ bracket x p b)
passes_between x p a b c t off_a off_b h =
    (first (sign (bracket x p a)), second (sign (bracket x p b)))
  where
    least_b : pos 0 ≤ℤ bracket x p b
    least_b = first_end _ (bracket x p b) (bracket b c a) (subst (λ t. pos 0 <ℤ t)
        (sym (bracket-turned a b c)) t) h.second (left_part _ (bracket x p b) (bracket b c a)
        (bracket x p a) (bracket b c b) (meeting a b p x b c) (bracket-first b c))

    least_a : pos 0 ≤ℤ neg_ℤ (bracket x p a)
    least_a = first_end _ (neg_ℤ (bracket x p a)) (bracket c a b) (subst (λ t. pos 0 <ℤ t)
        (sym (bracket-turned b c a ∙ bracket-turned a b c)) t) h.third (right_part _ (bracket x p b)
        (bracket c a a) (bracket x p a) (bracket c a b) (meeting a b p x c a) (bracket-second c a))

    clash_a : bracket p a x ≡ pos 0 → ⊥
    clash_a e = right_not_zero h.right (bracket-turned p a b ∙ off_a e b)

    clash_b : bracket p b x ≡ pos 0 → ⊥
    clash_b e = right_not_zero h.right
        (sym (bracket-turned a b p) ∙ bracket-swapped p b a ∙ ap neg_ℤ (off_b e a))

    first : Rattle.plane.proofs.IntegerOrder.Sign (bracket x p a) → bracket x p a <ℤ pos 0
    first (below s) = s
    first (none s) = absurd (clash_a (bracket-turned x p a ∙ s))
    first (above s) = absurd (crossed (bracket x p a) s least_a)
      where
        crossed : (z : ℤ) → pos 0 <ℤ z → pos 0 ≤ℤ neg_ℤ z → ⊥
        crossed z h k = omega (arith, ints)

    second : Rattle.plane.proofs.IntegerOrder.Sign (bracket x p b) → pos 0 <ℤ bracket x p b
    second (below s) = absurd (negative_and_not (bracket x p b) s least_b)
    second (none s) = absurd (clash_b (bracket-turned x p b ∙ s))
    second (above s) = s

-- 1 where a is above 0 and b below
flag : ℤ → ℤ → ℕ
flag (pos (suc m)) (negsuc n) = 1
flag _ _ = 0

flag-le : (a c b : ℤ) → (pos 0 <ℤ a → b <ℤ pos 0 → pos 0 <ℤ c) → flag a b ≤ flag c b
unfolding flag
flag-le (pos (suc m)) (pos (suc k)) (negsuc n) h = omega arith
flag-le (pos (suc m)) (pos zero) (negsuc n) h = absurd
    (let p : pos 0 <ℤ pos 0 = h (omega (arith, ints)) (omega (arith, ints)) in omega (arith, ints))
flag-le (pos (suc m)) (negsuc k) (negsuc n) h =
    absurd (let p : pos 0 <ℤ negsuc k = h (omega (arith, ints)) (omega (arith, ints)) in
    omega (arith, ints))
flag-le (pos (suc m)) c (pos n) h = omega arith
flag-le (pos zero) c b h = omega arith
flag-le (negsuc m) c b h = omega arith

flag-lt : (a c b : ℤ) → a ≤ℤ pos 0 → pos 0 <ℤ c → b <ℤ pos 0 → flag a b < flag c b
unfolding flag
flag-lt (pos (suc m)) c b h i j = absurd (omega (arith, ints))
flag-lt (pos zero) (pos (suc k)) (negsuc n) h i j = omega arith
flag-lt (negsuc m) (pos (suc k)) (negsuc n) h i j = omega arith
flag-lt a (pos zero) b h i j = absurd (omega (arith, ints))
flag-lt a (negsuc k) b h i j = absurd (omega (arith, ints))
flag-lt a c (pos n) h i j = absurd (omega (arith, ints))

flag-le_second : (a b c : ℤ) → (pos 0 <ℤ a → b <ℤ pos 0 → c <ℤ pos 0) → flag a b ≤ flag a c
unfolding flag
flag-le_second (pos (suc m)) (negsuc n) (negsuc k) h = omega arith
flag-le_second (pos (suc m)) (negsuc n) (pos k) h = absurd
    (let p : pos k <ℤ pos 0 = h (omega (arith, ints)) (omega (arith, ints)) in omega (arith, ints))
flag-le_second (pos (suc m)) (pos n) c h = omega arith
flag-le_second (pos zero) b c h = omega arith
flag-le_second (negsuc m) b c h = omega arith

flag-lt_second : (a b c : ℤ) → pos 0 <ℤ a → pos 0 ≤ℤ b → c <ℤ pos 0 → flag a b < flag a c
unfolding flag
flag-lt_second (pos (suc m)) (pos n) (negsuc k) h i j = omega arith
flag-lt_second (pos (suc m)) (pos n) (pos k) h i j = absurd (omega (arith, ints))
flag-lt_second (pos (suc m)) (negsuc n) c h i j = absurd (omega (arith, ints))
flag-lt_second (pos zero) b c h i j = absurd (omega (arith, ints))
flag-lt_second (negsuc m) b c h i j = absurd (omega (arith, ints))

right_before : (k l p x r : ℤ) → pos 0 <ℤ k → pos 0 <ℤ l → r ≡ k *ℤ p +ℤ l *ℤ x → pos 0 <ℤ x
    → r <ℤ pos 0 → p <ℤ pos 0
right_before k l p x r hk hl e hx hr = neg_of_mul-neg_ℤ {k = k} {x = p} hk
    (let q = mul-pos_ℤ {a = l} {b = x} hl hx in omega (arith, ints))

module _ (T : Tiling) where
  open T use {at, IsVertex, IsFace, InHull}

  abbrev parts : Fraction → Fraction → ℕ × ℕ → ℕ
  parts x p s = flag (bracket (at s.0) (at s.1) x) (bracket (at s.0) (at s.1) p)

  -- how many sides have x on the left and p on the right
  pub separation : Fraction → Fraction → ℕ
  separation x p = sum_by (parts x p) T.sides

  -- a point across an edge, on the way to p, is separated from p by fewer edges
  pub nearer_on_way : (a b c : ℕ) (x p x' : Fraction) → IsFace a b c → OnWay x p x'
      → bracket (at a) (at b) x' ≤ℤ pos 0 → pos 0 <ℤ bracket (at a) (at b) x
      → bracket (at a) (at b) p <ℤ pos 0 → separation x' p < separation x p
  unfolding separation
  nearer_on_way a b c x p x' f m h i j = sum_by-lt (parts x' p) (parts x p) (a, b) T.sides
      (λ s. flag-le _ _ _
      (λ l r. left_before m.k m.l _ _ _ m.k_above m.l_above (m.along (at s.0) (at s.1)) l r))
      (T.listed a b c f) (flag-lt _ _ _ h i j)

  -- the same, where the far end comes nearer
  pub far_end_nearer : (a b c : ℕ) (x p p' : Fraction) → IsFace a b c → OnWay p x p'
      → pos 0 ≤ℤ bracket (at a) (at b) p' → pos 0 <ℤ bracket (at a) (at b) x
      → bracket (at a) (at b) p <ℤ pos 0 → separation x p' < separation x p
  unfolding separation
  far_end_nearer a b c x p p' f m h i j = sum_by-lt (parts x p') (parts x p) (a, b) T.sides
      (λ s. flag-le_second _ _ _
      (λ l r. right_before m.k m.l _ _ _ m.k_above m.l_above (m.along (at s.0) (at s.1)) l r))
      (T.listed a b c f) (flag-lt_second _ _ _ i h j)

  -- the point where the way from y to z leaves a face: on the closed side, between y and z, and
  -- nearer to z
  pub leave : (a b c : ℕ) (y z : Fraction) → IsFace a b c → pos 0 <ℤ bracket (at a) (at b) y
      → Leaves y z (at a) (at b) (at c)
      → (y' : Fraction) × OnWay y z y' × (bracket (at a) (at b) y' ≡ pos 0)
      × Closed (at a) (at b) (at c) y' × (separation y' z < separation y z)
  leave a b c y z f left h = (
    y',
    way,
    on,
    record {
      first = zero_weak_left on;
      second = least (at b) (at c) h.second;
      third = least (at c) (at a) h.third;
    },
    nearer_on_way a b c y z y' f way (zero_weak on) left h.right,
  )
    where
      k : ℤ
      k = neg_ℤ (bracket (at a) (at b) z)

      y' : Fraction
      y' = mixed (neg_ℤ (bracket (at a) (at b) z)) y (bracket (at a) (at b) y) z
          (mix_positive (neg_ℤ (bracket (at a) (at b) z)) (bracket (at a) (at b) y) y.w z.w
          (neg-pos_ℤ h.right) (weak left) y.positive z.positive)

      along : (u v : Fraction) → bracket u v y' ≡ neg_ℤ (bracket (at a) (at b) z) *ℤ bracket u v y
          +ℤ bracket (at a) (at b) y *ℤ bracket u v z
      along u v = bracket-mixed u v (neg_ℤ (bracket (at a) (at b) z)) y (bracket (at a) (at b) y) z
          (mix_positive (neg_ℤ (bracket (at a) (at b) z)) (bracket (at a) (at b) y) y.w z.w
          (neg-pos_ℤ h.right) (weak left) y.positive z.positive)

      way : OnWay y z y'
      way = record {
        k = neg_ℤ (bracket (at a) (at b) z);
        l = bracket (at a) (at b) y;
        k_above = neg-pos_ℤ h.right;
        l_above = left;
        along = along;
      }

      on : bracket (at a) (at b) y' ≡ pos 0
      on = along (at a) (at b) ∙ balanced (bracket (at a) (at b) y) (bracket (at a) (at b) z)

      least : (u v : Fraction) → pos 0
          ≤ℤ (bracket (at a) (at b) y *ℤ bracket u v z -ℤ bracket (at a) (at b) z *ℤ bracket u v y)
          → pos 0 ≤ℤ bracket u v y'
      least u v s = subst (λ t. pos 0 ≤ℤ t) (sym (along u v ∙ off_side (bracket (at a) (at b) y)
          (bracket (at a) (at b) z) (bracket u v y) (bracket u v z))) s

  -- a point on the way that is strictly inside the face beyond the side
  pub beyond : (a b c d : ℕ) (x p : Fraction) → IsFace a b c → IsFace b a d
      → pos 0 <ℤ bracket (at a) (at b) x → bracket (at a) (at b) p <ℤ pos 0
      → bracket x p (at a) <ℤ pos 0 → pos 0 <ℤ bracket x p (at b) → (x' : Fraction) × OnWay x p x'
      × InOpen (at b) (at a) (at d) x' × (separation x' p < separation x p)
  beyond a b c d x p f g left right pass_a pass_b = (
    x',
    way,
    inside,
    nearer_on_way a b c x p x' f
        way (weak_right (subst (λ t. t <ℤ pos 0) (sym on) right)) left right,
  )
    where
      n : ℕ
      n = suc (size (bracket (at a) (at d) p) + size (bracket (at d) (at b) p))

      k : ℤ
      k = pos n *ℤ neg_ℤ (bracket (at a) (at b) p)

      l : ℤ
      l = pos n *ℤ bracket (at a) (at b) x +ℤ pos 1

      n_above : (m : ℕ) → pos 0 <ℤ pos (suc m)
      n_above m = omega (arith, ints)

      hk : pos 0 <ℤ k
      hk = mul-pos_ℤ (n_above (size (bracket (at a) (at d) p) + size (bracket (at d) (at b) p)))
          (neg-pos_ℤ right)

      hl : pos 0 <ℤ l
      hl = times_above (pos n) (bracket (at a) (at b) x)
          (n_above (size (bracket (at a) (at d) p) + size (bracket (at d) (at b) p))) left

      x' : Fraction
      x' = mixed k x l p (mix_positive k l x.w p.w hk (weak hl) x.positive p.positive)

      way : OnWay x p x'
      way = record {
        k = k;
        l = l;
        k_above = hk;
        l_above = hl;
        along = λ u v. bracket-mixed u v k x l p
            (mix_positive k l x.w p.w hk (weak hl) x.positive p.positive);
      }

      value : (u v : Fraction) → bracket u v x' ≡ pos n *ℤ (bracket x p (at b) *ℤ bracket u v (at a)
          -ℤ bracket x p (at a) *ℤ bracket u v (at b)) +ℤ bracket u v p
      value u v = way.along u v
          ∙ beyond_sum (pos n) (bracket (at a) (at b) x) (bracket (at a) (at b) p) (bracket u v x)
          (bracket u v p) (bracket x p (at b)) (bracket u v (at a)) (bracket x p (at a))
          (bracket u v (at b)) (meeting (at a) (at b) p x u v)

      on : bracket (at a) (at b) x' ≡ bracket (at a) (at b) p
      on = value (at a) (at b) ∙ both_none (pos n) (bracket x p (at b))
          (bracket (at a) (at b) (at a)) (bracket x p (at a)) (bracket (at a) (at b) (at b))
          (bracket (at a) (at b) p) (bracket-first (at a) (at b)) (bracket-second (at a) (at b))

      t : pos 0 <ℤ bracket (at b) (at a) (at d)
      t = T.turns b a d g

      inside : InOpen (at b) (at a) (at d) x'
      inside = record {
        first = negated_left (bracket-swapped (at a) (at b) x')
            (subst (λ t. t <ℤ pos 0) (sym on) right);
        second = subst (λ t. pos 0 <ℤ t) (sym (value (at a) (at d))) (nudged n _ (bracket (at a)
            (at d) p) (second_above (bracket x p (at b)) (bracket (at a) (at d) (at a))
            (bracket x p (at a)) (bracket (at a) (at d) (at b)) (bracket-first (at a) (at d)) pass_a
            (subst (λ t. pos 0 <ℤ t) (sym (bracket-turned (at b) (at a) (at d))) t))
            (larger_first (size (bracket (at a) (at d) p)) (size (bracket (at d) (at b) p))));
        third = subst (λ t. pos 0 <ℤ t) (sym (value (at d) (at b)))
            (nudged n _ (bracket (at d) (at b) p) (first_above (bracket x p (at b))
            (bracket (at d) (at b) (at a)) (bracket x p (at a)) (bracket (at d) (at b) (at b))
            (bracket-second (at d) (at b)) pass_b (subst (λ t. pos 0 <ℤ t)
            (sym (bracket-turned (at a) (at d) (at b) ∙ bracket-turned (at b) (at a) (at d))) t))
            (larger_second (size (bracket (at a) (at d) p)) (size (bracket (at d) (at b) p))));
      }
        where
          larger_first : (i j : ℕ) → i < suc (i + j)
          larger_first i j = omega arith

          larger_second : (i j : ℕ) → j < suc (i + j)
          larger_second i j = omega arith
