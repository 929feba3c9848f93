-- From the local test at each edge to the circle of each face: a vertex that no constraint hides is
-- not inside.
-- Notions: rays, IsJoined, PassesLocally; off-on_way, rays-off, not_above_face.
use Prim.Native.Nat.{ℕ, zero, suc, ◌<◌}
use lib.IntN.{ℤ, pos, ◌+ℤ◌, ◌*ℤ◌}
use lib.Signed.{◌<ℤ◌, ◌≤ℤ◌}
use mathlib.Core.Path.{◌≡◌, sym, ◌∙◌, ap, subst}
use mathlib.Core.Logic.{◌⊎◌, inl, inr}
use mathlib.Core.List.{List, [], ◌∷◌}
use native.Mathlib.Omega.{arith}
use borrow.Author.Differences.{ints}
use Rattle.std.proofs.Math.Nat.{lt-suc_self}
use Rattle.{plane.specs.Fraction, plane_theorems.proofs.Delaunay.Points.Bracket.bracket-turned}
use Rattle.plane.proofs.{both_signs, lt_or_ge_ℤ, mul-nonpos_of_nonneg_nonpos_ℤ, mul-pos_ℤ}
use Rattle.plane.proofs.{negated_left, right_not_zero, weak, weak_right, zero_weak}
use Rattle.plane_theorems.proofs.Delaunay.Circles.Lift.{lift, lift-across, lift-first, lift-second}
use Rattle.plane_theorems.proofs.Delaunay.Circles.Lift.{lift-third, lift-turned}
use Rattle.plane_theorems.proofs.Delaunay.Points.Bracket.{bracket, bracket-first, bracket-swapped}
use Rattle.plane_theorems.proofs.{Delaunay.Points.Members.Member, Delaunay.Tilings.Faces.Tiling}
use Rattle.plane_theorems.proofs.Delaunay.Points.Nudges.{closed_of_inside, InOpen, inside-turned}
use Rattle.plane_theorems.proofs.Delaunay.Points.Numbers.{less_again, none_before, stays_above}
use Rattle.plane_theorems.proofs.{Delaunay.Points.Numbers.stays_below, Delaunay.Tilings.Walk.step}
use Rattle.plane_theorems.proofs.Delaunay.Tilings.Beyond.{face_across}
use Rattle.plane_theorems.proofs.Delaunay.Tilings.Generic.{AllOff, AllOpen, both_left, both_right}
use Rattle.plane_theorems.proofs.Delaunay.Tilings.Generic.{generic_point, IsOpen, keeps, on_line}
use Rattle.plane_theorems.proofs.Delaunay.Tilings.Generic.{open-swapped, past_left, past_right}
use Rattle.plane_theorems.proofs.Delaunay.Tilings.Walk.{beyond, IsOff, Leaves, leaves_first}
use Rattle.plane_theorems.proofs.Delaunay.Tilings.Walk.{leaves_second, leaves_third, OnWay}
use Rattle.plane_theorems.proofs.Delaunay.Tilings.Walk.{passes_between, reached, separation, Step}

-- ---- numbers
turned_sum : (k l x p r x' p' r' : ℤ) → r ≡ k *ℤ x +ℤ l *ℤ p → x' ≡ x → r' ≡ r → p ≡ pos 0
    → r' ≡ k *ℤ x' +ℤ l *ℤ pos 0
turned_sum k l x p r x' p' r' e ex er ep = er ∙ e ∙ (λ i. k *ℤ sym ex i +ℤ l *ℤ ep i)

not_above_from : (k x m y n z : ℤ) → k *ℤ x ≡ m *ℤ y +ℤ n *ℤ z → pos 0 <ℤ k → pos 0 <ℤ m
    → y ≤ℤ pos 0 → pos 0 <ℤ n → z ≤ℤ pos 0 → x ≤ℤ pos 0
not_above_from k x m y n z e hk hm hy hn hz = go (lt_or_ge_ℤ (pos 0) x)
  where
    go : (pos 0 <ℤ x) ⊎ (x ≤ℤ pos 0) → x ≤ℤ pos 0
    go (inr h) = h
    go (inl h) = absurd (let a = mul-pos_ℤ {a = k} {b = x} hk h in
        let b = mul-nonpos_of_nonneg_nonpos_ℤ {a = m} {b = y} (weak hm) hy in
        let c = mul-nonpos_of_nonneg_nonpos_ℤ {a = n} {b = z} (weak hn) hz in omega (arith, ints))

zero_most : pos 0 ≤ℤ pos 0
zero_most = record { le = tt }

-- ---- along the way the same holds
way_front : (x p x' a : Fraction) (w : OnWay x p x')
    → bracket x' p a ≡ w.k *ℤ bracket x p a +ℤ w.l *ℤ pos 0
way_front x p x' a w = turned_sum w.k w.l (bracket p a x) (bracket p a p) (bracket p a x')
    (bracket x p a) (pos 0) (bracket x' p a) (w.along p a) (sym (bracket-turned x p a))
    (sym (bracket-turned x' p a)) (bracket-first p a)

open-on_way : (a b p x x' : Fraction) → OnWay x p x' → IsOpen a b p x → IsOpen a b p x'
open-on_way a b p x x' w (on_line h) = on_line h
open-on_way a b p x x' w (both_left h k) =
    both_left h (stays_above w.k w.l _ _ _ w.k_above w.l_above (w.along a b) k (weak h))
open-on_way a b p x x' w (both_right h k) =
    both_right h (stays_below w.k w.l _ _ _ w.k_above w.l_above (w.along a b) k (weak_right h))
open-on_way a b p x x' w (past_left h k) = past_left
    (stays_above w.k w.l _ (pos 0) _ w.k_above w.l_above (way_front x p x' a w) h zero_most)
    (stays_above w.k w.l _ (pos 0) _ w.k_above w.l_above (way_front x p x' b w) k zero_most)
open-on_way a b p x x' w (past_right h k) = past_right
    (stays_below w.k w.l _ (pos 0) _ w.k_above w.l_above (way_front x p x' a w) h zero_most)
    (stays_below w.k w.l _ (pos 0) _ w.k_above w.l_above (way_front x p x' b w) k zero_most)

-- where x is off the line of p and v, so is each point strictly between x and p
pub off-on_way : (p v x x' : Fraction) → OnWay x p x' → IsOff p v x → IsOff p v x'
off-on_way p v x x' w off z = off (none_before w.k w.l (bracket p v x) (bracket p v p)
    (bracket p v x') w.k_above (w.along p v) (bracket-first p v) z)

-- a segment through which the way passes strictly within hides p
hidden : (a b p x : Fraction) → bracket a b p <ℤ pos 0 → pos 0 <ℤ bracket a b x
    → bracket x p a <ℤ pos 0 → pos 0 <ℤ bracket x p b → ¬ IsOpen a b p x
hidden a b p x right left pa pb (on_line h) = right_not_zero right h
hidden a b p x right left pa pb (both_left h k) = both_signs h right
hidden a b p x right left pa pb (both_right h k) = both_signs left k
hidden a b p x right left pa pb (past_left h k) = both_signs h pa
hidden a b p x right left pa pb (past_right h k) = both_signs pb k

-- the lines from p to the first end of each segment
abbrev pub rays : (ℕ → Fraction) → Fraction → List (ℕ × ℕ) → List (Fraction × Fraction)
rays at p [] = []
rays at p (s ∷ ss) = (p, at s.0) ∷ rays at p ss

-- a point that is off these lines is off the line of p and the first end of each of the segments
pub rays-off : (at : ℕ → Fraction) (p q : Fraction) (ss : List (ℕ × ℕ)) → AllOff (rays at p ss) q
    → (i j : ℕ) → Member (i, j) ss → IsOff p (at i) q
rays-off at p q [] h i j m = absurd m
rays-off at p q (s ∷ ss) h i j (inl e) = subst (λ i. IsOff p (at i) q) (ap (λ t. t.0) e) h.0
rays-off at p q (s ∷ ss) h i j (inr m) = rays-off at p q ss h.1 i j m

module _ (T : Tiling) (cs : List (ℕ × ℕ)) where
  open T use {at, IsVertex, IsFace}

  -- the pair is a constraint, in either order
  abbrev pub IsJoined : ℕ → ℕ → Type 0
  IsJoined i j = Member (i, j) cs ⊎ Member (j, i) cs

  -- at each edge between two faces that is no constraint, the one's third corner is not inside the
  -- other's circle
  abbrev pub PassesLocally : Type 0
  PassesLocally = (i j k n : ℕ) → IsFace i j k → IsFace j i n → ¬ IsJoined i j
      → lift (at i) (at j) (at k) (at n) ≤ℤ pos 0

  module _ (local : PassesLocally) (n : ℕ) (vn : IsVertex n) where
    -- no side's start is on the line of x and n
    abbrev Generic : Fraction → Type 0
    Generic x = (i j : ℕ) → Member (i, j) T.sides → IsOff (at n) (at i) x

    abbrev Walks : ℕ → Type 0
    Walks m = (a b c : ℕ) (x : Fraction) → IsFace a b c → InOpen (at a) (at b) (at c) x
        → AllOpen at cs (at n) x → Generic x → separation T x (at n) < m
        → lift (at a) (at b) (at c) (at n) ≤ℤ pos 0

    through : (m : ℕ) → Walks m → (a b c : ℕ) (x : Fraction) → IsFace a b c
        → InOpen (at a) (at b) (at c) x → AllOpen at cs (at n) x → Generic x → separation T x (at n)
        < suc m → Leaves x (at n) (at a) (at b) (at c) → lift (at a) (at b) (at c) (at n) ≤ℤ pos 0
    through m walks a b c x f inside is_open generic less leaves =
        go (face_across T a b c n f vn leaves.right)
      where
        passes : (bracket x (at n) (at a) <ℤ pos 0) × (pos 0 <ℤ bracket x (at n) (at b))
        passes = passes_between x (at n) (at a) (at b) (at c) (T.turns a b c f) (generic a b
            (T.listed a b c f)) (generic b c (T.listed b c a (T.turned a b c f))) leaves

        free : ¬ IsJoined a b
        free (inl h) = hidden (at a) (at b) (at n) x leaves.right inside.first passes.0 passes.1
            (is_open a b h)
        free (inr h) = hidden (at a) (at b) (at n) x leaves.right inside.first passes.0 passes.1
            (open-swapped (at b) (at a) (at n) x (is_open b a h))

        go : (d : ℕ) × IsFace b a d → lift (at a) (at b) (at c) (at n) ≤ℤ pos 0
        go g = next (beyond T a b c g.0 x (at n) f g.1 inside.first leaves.right passes.0 passes.1)
          where
            next : (x' : Fraction) × OnWay x (at n) x' × InOpen (at b) (at a) (at g.0) x'
                × (separation T x' (at n) < separation T x (at n))
                → lift (at a) (at b) (at c) (at n) ≤ℤ pos 0
            next r =
                not_above_from (bracket (at b) (at a) (at g.0)) (lift (at a) (at b) (at c) (at n))
                (bracket (at a) (at b) (at c)) (lift (at b) (at a) (at g.0) (at n))
                (bracket (at b) (at a) (at n)) (lift (at a) (at b) (at c) (at g.0))
                (lift-across (at a) (at b) (at c) (at g.0) (at n))
                (T.turns b a g.0 g.1) (T.turns a b c f)
                (walks b a g.0 r.0 g.1 r.2 (λ i j h. open-on_way (at i) (at j) (at n) x r.0 r.1
                (is_open i j h)) (λ i j h. off-on_way (at n) (at i) x r.0 r.1 (generic i j h))
                (less_again (separation T r.0 (at n)) (separation T x (at n)) m r.3 less))
                (negated_left (bracket-swapped (at a) (at b) (at n)) leaves.right)
                (local a b c g.0 f g.1 free)

    -- n is not inside the circle of a face, if fewer than m sides separate it from a point there
    walk : (m : ℕ) → Walks m
    walk zero a b c x f inside is_open generic less = absurd (omega arith)
    walk (suc m) a b c x f inside is_open generic less =
        go (walk m) (step x (at n) (at a) (at b) (at c) (closed_of_inside inside))
      where
        corner : (n ≡ a) ⊎ ((n ≡ b) ⊎ (n ≡ c)) → lift (at a) (at b) (at c) (at n) ≤ℤ pos 0
        corner (inl e) = zero_weak
            (ap (λ i. lift (at a) (at b) (at c) (at i)) e ∙ lift-first (at a) (at b) (at c))
        corner (inr (inl e)) = zero_weak
            (ap (λ i. lift (at a) (at b) (at c) (at i)) e ∙ lift-second (at a) (at b) (at c))
        corner (inr (inr e)) = zero_weak
            (ap (λ i. lift (at a) (at b) (at c) (at i)) e ∙ lift-third (at a) (at b) (at c))

        go : Walks m → Step x (at n) (at a) (at b) (at c)
            → lift (at a) (at b) (at c) (at n) ≤ℤ pos 0
        go walks (reached h) = corner (T.empty a b c n f vn h)
        go walks (leaves_first h) = through m walks a b c x f inside is_open generic less h
        go walks (leaves_second h) =
            subst (λ t. t ≤ℤ pos 0) (lift-turned (at a) (at b) (at c) (at n)) (through m walks b c a
            x (T.turned a b c f) (inside-turned inside) is_open generic less h)
        go walks (leaves_third h) =
            subst (λ t. t ≤ℤ pos 0) (lift-turned (at b) (at c) (at a) (at n) ∙ lift-turned (at a)
            (at b) (at c) (at n)) (through m walks c a b x (T.turned b c a (T.turned a b c f))
            (inside-turned (inside-turned inside)) is_open generic less h)

    -- a vertex that no constraint hides from a point strictly inside a face is not inside its
    -- circle
    pub not_above_face : (a b c : ℕ) (q : Fraction) → IsFace a b c → InOpen (at a) (at b) (at c) q
        → AllOpen at cs (at n) q → lift (at a) (at b) (at c) (at n) ≤ℤ pos 0
    not_above_face a b c q f inside is_open =
        let k = keeps at cs (at n) q is_open in
        let g = generic_point (rays at (at n) T.sides) k.lines (at a) (at b) (at c) q
        (T.turns a b c f) inside k.left in
        walk (suc (separation T g.0 (at n))) a b c g.0 f g.1 (k.keep g.0 g.2)
        (rays-off at (at n) g.0 T.sides g.3) (lt-suc_self (separation T g.0 (at n)))
