-- Faces that tile a hull: what the global theorems use of a tiling, and how a point and a face lie.
-- Tiling: vertices, faces and a hull, with what the theorems use of them, by brackets
-- Between a b x: x is strictly between a and b
-- between-swapped, between-on: so it is between b and a; and on their line
-- middle a b c, middle-inside: the sum of three corners; it is strictly inside where they turn left
-- turned-above: a bracket that is positive is so in the next rotation
-- corner_2: the second corner of a face is a vertex
-- Germ y z i j k: the segment from y to z begins in the face i j k
-- germ, germ-closed: each segment in the hull begins in some face; its start is in that closed face
-- side_not_inside: a point of a closed side is strictly inside no face
-- none_within: no vertex is strictly within a side
use Prim.Native.Nat.{ℕ, suc}
use lib.IntN.{ℤ, pos, ◌+ℤ◌, ◌*ℤ◌}
use lib.Signed.{◌<ℤ◌, ◌≤ℤ◌}
use mathlib.Core.Path.{◌≡◌, sym, ◌∙◌, ap, subst, subst₂}
use mathlib.Core.Logic.{◌⊎◌, inl, inr}
use mathlib.Core.List.{List}
use native.Mathlib.Omega.{arith}
use borrow.Author.Differences.{ints}
use Rattle.std.specs.Prelude.{sum_by}
use Rattle.{plane.specs.Fraction, plane_theorems.proofs.Delaunay.Points.Bracket.bracket-turned}
use Rattle.plane.proofs.{IsTurned, left_not_zero, mul-pos_ℤ, pos_of_mul-pos_ℤ, swapped_sum, weak}
use Rattle.plane_theorems.proofs.Delaunay.Points.Bracket.{bracket, bracket-first, bracket-second}
use Rattle.plane_theorems.proofs.Delaunay.Points.Members.{Member, member-le-sum_by}
use Rattle.plane_theorems.proofs.Delaunay.Points.Nudges.{bracket-nudge, Closed, germ_sign, InOpen}
use Rattle.plane_theorems.proofs.Delaunay.Points.Nudges.{inside-nudge, nudge, nudge-least, room}
use Rattle.plane_theorems.proofs.{Delaunay.Points.Nudges.size, Delaunay.Points.Numbers.sum_none}

-- vertices, faces and a hull with what the global theorems use of them, by brackets
pub record Tiling : Type 1 where
  pub at : ℕ → Fraction
  pub IsVertex : ℕ → Type 0
  pub IsFace : ℕ → ℕ → ℕ → Type 0
  pub InHull : Fraction → Type 0
  pub sides : List (ℕ × ℕ)
  pub whole : (i : ℕ) → (at i).w ≡ pos 1
  pub corner : (i j k : ℕ) → IsFace i j k → IsVertex i
  pub turned : (i j k : ℕ) → IsFace i j k → IsFace j k i
  pub turns : (i j k : ℕ) → IsFace i j k → pos 0 <ℤ bracket (at i) (at j) (at k)
  pub listed : (i j k : ℕ) → IsFace i j k → Member (i, j) sides
  pub side_face : (i j : ℕ) → Member (i, j) sides → (k : ℕ) × IsFace i j k
  pub vertex_in_hull : (i : ℕ) → IsVertex i → InHull (at i)
  pub nudge_in_hull : (n : ℕ) (p q : Fraction) → InHull p → InHull q → InHull (nudge n p q)
  pub closed_in_hull : (i j k : ℕ) → IsFace i j k → (p : Fraction)
      → Closed (at i) (at j) (at k) p → InHull p
  pub covering : (p : Fraction) → InHull p
      → (i j k : ℕ) × IsFace i j k × Closed (at i) (at j) (at k) p
  pub apart : (a b c d e f : ℕ) → IsFace a b c → IsFace d e f → (p : Fraction)
      → InOpen (at a) (at b) (at c) p → InOpen (at d) (at e) (at f) p → IsTurned a b c d e f
  pub empty : (i j k n : ℕ) → IsFace i j k → IsVertex n → Closed (at i) (at j) (at k) (at n)
      → (n ≡ i) ⊎ ((n ≡ j) ⊎ (n ≡ k))

-- the sum of the corners
unfoldable pub middle : Fraction → Fraction → Fraction → Fraction
middle a b c = nudge 1 (nudge 1 a b) c

bracket-middle : (u v a b c : Fraction)
    → bracket u v (middle a b c) ≡ bracket u v a +ℤ bracket u v b +ℤ bracket u v c
unfolding middle
bracket-middle u v a b c = sum _ _ (bracket u v a) (bracket u v b) (bracket u v c)
    (bracket-nudge u v 1 (nudge 1 a b) c) (bracket-nudge u v 1 a b)
  where
    sum : (x y a b c : ℤ) → x ≡ pos 1 *ℤ y +ℤ c → y ≡ pos 1 *ℤ a +ℤ b → x ≡ a +ℤ b +ℤ c
    sum x y a b c e d = omega (arith, ints)

middle-left : (a b c : Fraction) → pos 0 <ℤ bracket a b c → pos 0 <ℤ bracket a b (middle a b c)
middle-left a b c h = let e = bracket-middle a b a b c in let f = bracket-first a b in
    let g = bracket-second a b in omega (arith, ints)

-- the bracket of three points is above 0 in their next rotation too
pub turned-above : (a b c : Fraction) → pos 0 <ℤ bracket a b c → pos 0 <ℤ bracket b c a
turned-above a b c h = let e = bracket-turned a b c in omega (arith, ints)

middle-turned : (u v a b c : Fraction) → bracket u v (middle b c a) ≡ bracket u v (middle a b c)
middle-turned u v a b c = let e = bracket-middle u v a b c in let f = bracket-middle u v b c a in
    omega (arith, ints)

-- the sum of the corners of a left-turning triple is strictly inside it
pub middle-inside : (a b c : Fraction) → pos 0 <ℤ bracket a b c → InOpen a b c (middle a b c)
middle-inside a b c h = let h₂ = turned-above a b c h in record {
  first = middle-left a b c h;
  second = subst (λ t. pos 0 <ℤ t) (middle-turned b c a b c) (middle-left b c a h₂);
  third = subst (λ t. pos 0 <ℤ t) (middle-turned c a b c a ∙ middle-turned c a a b c)
      (middle-left c a b (turned-above b c a h₂));
}

-- a point of a closed triangle that is strictly inside another: some point is strictly inside both
pub both_inside : (a b c d e f x : Fraction) → pos 0 <ℤ bracket a b c → Closed a b c x
    → InOpen d e f x → (y : Fraction) × InOpen a b c y × InOpen d e f y
both_inside a b c d e f x h closed inside =
    let m = middle a b c in
    let i = middle-inside a b c h in
    let n = room d e f m in (
      nudge n x m,
      record {
        first = nudge-least a b n x m closed.first i.first;
        second = nudge-least b c n x m closed.second i.second;
        third = nudge-least c a n x m closed.third i.third;
      },
      inside-nudge d e f x m n inside (omega arith),
    )

-- n times x is k times a and l times b together, for each linear form
abbrev pub AreWeights : (n k l : ℤ) (a b x : Fraction) → Type 0
AreWeights n k l a b x = (u v : Fraction)
    → n *ℤ bracket u v x ≡ k *ℤ bracket u v a +ℤ l *ℤ bracket u v b

-- x is strictly between a and b: a positive combination of them, for each linear form
pub record Between (a b x : Fraction) : Type 0 where
  pub n : ℤ
  pub k : ℤ
  pub l : ℤ
  pub n_above : pos 0 <ℤ n
  pub k_above : pos 0 <ℤ k
  pub l_above : pos 0 <ℤ l
  pub along : AreWeights n k l a b x

-- a point strictly between a and b is strictly between b and a
pub between-swapped : (a b x : Fraction) → Between a b x → Between b a x
between-swapped a b x h = record {
  n = h.n;
  k = h.l;
  l = h.k;
  n_above = h.n_above;
  k_above = h.l_above;
  l_above = h.k_above;
  along = λ u v. swapped_sum _ (h.k *ℤ bracket u v a) (h.l *ℤ bracket u v b) (h.along u v);
}

above_from : (n k l x a b : ℤ) → pos 0 <ℤ n → n *ℤ x ≡ k *ℤ a +ℤ l *ℤ b → pos 0 <ℤ (k *ℤ a)
    → pos 0 ≤ℤ (l *ℤ b) → pos 0 <ℤ x
above_from n k l x a b h e p q = pos_of_mul-pos_ℤ {k = n} {x = x} h (omega (arith, ints))

none_times : (k a : ℤ) → a ≡ pos 0 → pos 0 ≤ℤ (k *ℤ a)
none_times k a p = let s : k *ℤ a ≡ k *ℤ pos 0 = ap (λ t. k *ℤ t) p in omega (arith, ints)

-- a point strictly between two others is on their line
pub between-on : (a b x : Fraction) → Between a b x → bracket a b x ≡ pos 0
between-on a b x h =
    sum_none h.n h.k h.l _ _ _ h.n_above (h.along a b) (bracket-first a b) (bracket-second a b)

-- where a b c turns left, a point strictly between a and b is left of the second side
pub between-second : (a b c x : Fraction) → Between a b x → pos 0 <ℤ bracket a b c
    → pos 0 <ℤ bracket b c x
between-second a b c x h t = above_from h.n h.k h.l _ _ _ h.n_above (h.along b c)
    (mul-pos_ℤ h.k_above (turned-above a b c t)) (none_times h.l _ (bracket-first b c))

-- where a b c turns left, a point strictly between a and b is left of the third side
pub between-third : (a b c x : Fraction) → Between a b x → pos 0 <ℤ bracket a b c
    → pos 0 <ℤ bracket c a x
between-third a b c x h t = above_from h.n h.l h.k _ _ _ h.n_above
    (swapped_sum _ (h.k *ℤ bracket c a a) (h.l *ℤ bracket c a b) (h.along c a)) (mul-pos_ℤ h.l_above
    (turned-above b c a (turned-above a b c t))) (none_times h.k _ (bracket-second c a))

-- where a b c turns left, a point strictly between a and b is in the closed triangle
pub between-closed : (a b c x : Fraction) → Between a b x → pos 0 <ℤ bracket a b c → Closed a b c x
between-closed a b c x h t = record {
  first = omega (arith, ints, between-on a b x h);
  second = weak (between-second a b c x h t);
  third = weak (between-third a b c x h t);
}

module _ (T : Tiling) where
  open T use {at, IsVertex, IsFace, InHull}

  -- from its second corner a face turns left too
  pub turns_2 : (a b c : ℕ) → IsFace a b c → pos 0 <ℤ bracket (at b) (at c) (at a)
  turns_2 a b c f = T.turns b c a (T.turned a b c f)

  -- the second corner of a face is a vertex
  pub corner_2 : (a b c : ℕ) → IsFace a b c → IsVertex b
  corner_2 a b c f = T.corner b c a (T.turned a b c f)

  -- a point of a closed face that is strictly inside another is left of each side of the first
  pub side_left : (a b c d e f : ℕ) → IsFace a b c → IsFace d e f → (x : Fraction)
      → Closed (at a) (at b) (at c) x → InOpen (at d) (at e) (at f) x
      → pos 0 <ℤ bracket (at a) (at b) x
  side_left a b c d e f g h x closed inside =
      go (both_inside (at a) (at b) (at c) (at d) (at e) (at f) x (T.turns a b c g) closed inside)
    where
      found : IsTurned a b c d e f → pos 0 <ℤ bracket (at a) (at b) x
      found (inl s) = subst₂ (λ i j. pos 0 <ℤ bracket (at i) (at j) x) s.0 s.1 inside.first
      found (inr (inl s)) = subst₂ (λ i j. pos 0 <ℤ bracket (at i) (at j) x) s.2 s.0 inside.third
      found (inr (inr s)) = subst₂ (λ i j. pos 0 <ℤ bracket (at i) (at j) x) s.1 s.2 inside.second

      go : (y : Fraction) × InOpen (at a) (at b) (at c) y × InOpen (at d) (at e) (at f) y
          → pos 0 <ℤ bracket (at a) (at b) x
      go y = found (T.apart a b c d e f g h y.0 y.1 y.2)

  -- a point of a closed side is strictly inside no face
  pub side_not_inside : (a b c d e f : ℕ) → IsFace a b c → IsFace d e f → (x : Fraction)
      → Closed (at a) (at b) (at c) x → bracket (at a) (at b) x ≡ pos 0
      → ¬ InOpen (at d) (at e) (at f) x
  side_not_inside a b c d e f g h x closed e₀ inside =
      left_not_zero (side_left a b c d e f g h x closed inside) e₀

  -- no vertex is strictly within a side
  pub none_within : (a b c n : ℕ) → IsFace a b c → IsVertex n → ¬ Between (at a) (at b) (at n)
  none_within a b c n f v h =
      go (T.empty a b c n f v (between-closed (at a) (at b) (at c) (at n) h t))
    where
      t : pos 0 <ℤ bracket (at a) (at b) (at c)
      t = T.turns a b c f

      go : (n ≡ a) ⊎ ((n ≡ b) ⊎ (n ≡ c)) → ⊥
      go (inl e) = left_not_zero (between-third (at a) (at b) (at c) (at n) h t)
          (ap (λ i. bracket (at c) (at a) (at i)) e ∙ bracket-second (at c) (at a))
      go (inr (inl e)) = left_not_zero (between-second (at a) (at b) (at c) (at n) h t)
          (ap (λ i. bracket (at b) (at c) (at i)) e ∙ bracket-first (at b) (at c))
      go (inr (inr e)) = left_not_zero t
          (ap (λ i. bracket (at a) (at b) (at i)) (sym e) ∙ between-on (at a) (at b) (at n) h)

  -- the face at y on the way to z: y is left of each of its sides, or on it and z not right of it
  pub record StartsFrom (y z : Fraction) (i j : ℕ) : Type 0 where
    pub starts : (pos 0 <ℤ bracket (at i) (at j) y)
        ⊎ ((bracket (at i) (at j) y ≡ pos 0) × (pos 0 ≤ℤ bracket (at i) (at j) z))

  -- the way from y to z begins in the face of i, j and k
  pub record Germ (y z : Fraction) (i j k : ℕ) : Type 0 where
    pub first : StartsFrom y z i j
    pub second : StartsFrom y z j k
    pub third : StartsFrom y z k i

  -- a way begins in a face from whichever corner
  pub germ-turned : (y z : Fraction) (i j k : ℕ) → Germ y z i j k → Germ y z j k i
  germ-turned y z i j k g = record { first = g.second; second = g.third; third = g.first }

  -- where a way begins on an edge's left, its start is on the left or on the edge
  pub starts-least : (y z : Fraction) (i j : ℕ) → StartsFrom y z i j
      → pos 0 ≤ℤ bracket (at i) (at j) y
  starts-least y z i j s = go s.starts
    where
      go : (pos 0 <ℤ bracket (at i) (at j) y)
          ⊎ ((bracket (at i) (at j) y ≡ pos 0) × (pos 0 ≤ℤ bracket (at i) (at j) z))
          → pos 0 ≤ℤ bracket (at i) (at j) y
      go (inl h) = weak h
      go (inr h) = omega (arith, ints, h.0)

  -- the start of a way is in the closed face where it begins
  pub germ-closed : (y z : Fraction) (i j k : ℕ) → Germ y z i j k → Closed (at i) (at j) (at k) y
  germ-closed y z i j k g = record {
    first = starts-least y z i j g.first;
    second = starts-least y z j k g.second;
    third = starts-least y z k i g.third;
  }

  abbrev side_size : Fraction → ℕ × ℕ → ℕ
  side_size z s = size (bracket (at s.0) (at s.1) z)

  abbrev germ_size : Fraction → ℕ
  germ_size z = suc (sum_by (side_size z) T.sides)

  -- each way within the hull begins in some face
  pub germ : (y z : Fraction) → InHull y → InHull z → (i j k : ℕ) × IsFace i j k × Germ y z i j k
  germ y z h h' = go (T.covering (nudge (germ_size z) y z) (T.nudge_in_hull (germ_size z) y z h h'))
    where
      starts : (i j : ℕ) → Member (i, j) T.sides
          → pos 0 ≤ℤ bracket (at i) (at j) (nudge (germ_size z) y z) → StartsFrom y z i j
      starts i j m c = record {
        starts = germ_sign (germ_size z) (bracket (at i) (at j) y) (bracket (at i) (at j) z)
            (omega (arith, member-le-sum_by (side_size z) (i, j) T.sides m))
            (subst (λ t. pos 0 ≤ℤ t) (bracket-nudge (at i) (at j) (germ_size z) y z) c);
      }

      go : (i j k : ℕ) × IsFace i j k × Closed (at i) (at j) (at k) (nudge (germ_size z) y z)
          → (i j k : ℕ) × IsFace i j k × Germ y z i j k
      go c = let i = c.0 in let j = c.1 in let k = c.2 in let f = c.3 in let h = c.4 in (
        i,
        j,
        k,
        f,
        record {
          first = starts i j (T.listed i j k f) h.first;
          second = starts j k (T.listed j k i (T.turned i j k f)) h.second;
          third = starts k i (T.listed k i j (T.turned j k i (T.turned i j k f))) h.third;
        },
      )
