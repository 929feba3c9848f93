-- Two edges of a tiling meet in an end of both, or are one.
-- Notions: OnSide, IsAt, Place, IsEdge, Shared; on_side-swapped, place_of, on_side-closed,
-- on_side_of_closed, at_here, edge-swapped, edges_meet, edge_outside.
use Prim.Native.Nat.{ℕ}
use lib.IntN.{ℤ, pos, ◌+ℤ◌, ◌*ℤ◌}
use lib.Signed.{◌<ℤ◌, ◌≤ℤ◌}
use mathlib.Core.Path.{◌≡◌, refl, sym, ◌∙◌, ap, subst}
use mathlib.Core.Logic.{◌⊎◌, inl, inr}
use native.Mathlib.Omega.{arith}
use borrow.Author.Differences.{ints}
use Rattle.plane.proofs.{above, below, left_not_zero, mul-nonneg_ℤ, mul-pos_ℤ, none}
use Rattle.plane.proofs.{nonneg_of_mul-nonneg_ℤ, not_right_strict, pos-ne-zero_ℤ, product_zero_left}
use Rattle.plane.proofs.{right_not_above, Sign, sign, swapped_sum, weak, zero-mul_ℤ}
use Rattle.{plane.proofs.zero_of_mul-zero_ℤ, plane.proofs.zero_weak_left, plane.specs.Fraction}
use Rattle.plane_theorems.proofs.Delaunay.Points.Bracket.{bracket, bracket-first, bracket-second}
use Rattle.plane_theorems.proofs.Delaunay.Points.Bracket.{cramer, cramer-w}
use Rattle.plane_theorems.proofs.Delaunay.Points.Nudges.{Closed, InOpen}
use Rattle.plane_theorems.proofs.Delaunay.Points.Numbers.{sum_least, sum_none}
use Rattle.plane_theorems.proofs.Delaunay.Tilings.Across.{sides_same}
use Rattle.plane_theorems.proofs.Delaunay.Tilings.Beyond.{not_second}
use Rattle.plane_theorems.proofs.Delaunay.Tilings.Faces.{AreWeights, Between, corner_2, none_within}
use Rattle.plane_theorems.proofs.Delaunay.Tilings.Faces.{side_not_inside, Tiling, turned-above}

-- x is on the closed segment of a and b, for each linear form
pub record OnSide (a b x : Fraction) : Type 0 where
  pub n : ℤ
  pub k : ℤ
  pub l : ℤ
  pub n_above : pos 0 <ℤ n
  pub k_least : pos 0 ≤ℤ k
  pub l_least : pos 0 ≤ℤ l
  pub along : AreWeights n k l a b x
  pub weight : n *ℤ x.w ≡ k *ℤ a.w +ℤ l *ℤ b.w

-- x is where v is, for each linear form
pub record IsAt (v x : Fraction) : Type 0 where
  pub n : ℤ
  pub k : ℤ
  pub n_above : pos 0 <ℤ n
  pub k_above : pos 0 <ℤ k
  pub along : (s u : Fraction) → n *ℤ bracket s u x ≡ k *ℤ bracket s u v

-- a point of the closed segment of a and b is one of that of b and a
pub on_side-swapped : (a b x : Fraction) → OnSide a b x → OnSide b a x
on_side-swapped a b x h = record {
  n = h.n;
  k = h.l;
  l = h.k;
  n_above = h.n_above;
  k_least = h.l_least;
  l_least = h.k_least;
  along = λ u v. swapped_sum _ (h.k *ℤ bracket u v a) (h.l *ℤ bracket u v b) (h.along u v);
  weight = swapped_sum _ (h.k *ℤ a.w) (h.l *ℤ b.w) h.weight;
}

second_only : (n x k a l b : ℤ) → n *ℤ x ≡ k *ℤ a +ℤ l *ℤ b → k ≡ pos 0 → n *ℤ x ≡ l *ℤ b
second_only n x k a l b e z = let p = product_zero_left a z in omega (arith, ints)

above_second : (n x l b : ℤ) → n *ℤ x ≡ l *ℤ b → pos 0 <ℤ n → pos 0 <ℤ x → pos 0 ≤ℤ l → pos 0 <ℤ l
above_second n x l b e hn hx hl =
    not_right_strict hl (λ z. left_not_zero (mul-pos_ℤ hn hx) (e ∙ product_zero_left b z))

-- where a point of a closed segment is: at an end, or strictly between the two
pub data Place (a b x : Fraction) : Type 0 where
  at_first : IsAt a x → Place a b x
  at_second : IsAt b x → Place a b x
  within : Between a b x → Place a b x

at_end : (a b x : Fraction) (h : OnSide a b x) → h.k ≡ pos 0 → IsAt b x
at_end a b x h z = record {
  n = h.n;
  k = h.l;
  n_above = h.n_above;
  k_above = above_second h.n x.w h.l b.w
      (second_only h.n x.w h.k a.w h.l b.w h.weight z) h.n_above x.positive h.l_least;
  along = λ s u. second_only h.n (bracket s u x) h.k (bracket s u a) h.l (bracket s u b)
      (h.along s u) z;
}

-- a point of a closed segment is at an end or strictly between the two
pub place_of : (a b x : Fraction) → OnSide a b x → Place a b x
unfolding on_side-swapped
place_of a b x h = go (sign h.k) (sign h.l)
  where
    go : Sign h.k → Sign h.l → Place a b x
    go (below p) q = absurd (right_not_above p h.k_least)
    go p (below q) = absurd (right_not_above q h.l_least)
    go (none p) q = at_second (at_end a b x h p)
    go (above p) (none q) = at_first (at_end b a x (on_side-swapped a b x h) q)
    go (above p) (above q) = within (record {
      n = h.n;
      k = h.k;
      l = h.l;
      n_above = h.n_above;
      k_above = p;
      l_above = q;
      along = h.along;
    })

on_side-none : (a b x : Fraction) → OnSide a b x → bracket a b x ≡ pos 0
on_side-none a b x h =
    sum_none h.n h.k h.l _ _ _ h.n_above (h.along a b) (bracket-first a b) (bracket-second a b)

-- where a b c turns left, a point of the closed segment of a and b is in the closed triangle
pub on_side-closed : (a b c x : Fraction) → OnSide a b x → pos 0 <ℤ bracket a b c → Closed a b c x
on_side-closed a b c x h t = record {
  first = zero_weak_left (on_side-none a b x h);
  second = sum_least h.n h.k h.l _ _ _ h.n_above (h.along b c) h.k_least
      (weak (turned-above a b c t)) h.l_least (zero_weak_left (bracket-first b c));
  third = sum_least h.n h.k h.l _ _ _ h.n_above (h.along c a) h.k_least (zero_weak_left
      (bracket-second c a)) h.l_least (weak (turned-above b c a (turned-above a b c t)));
}

two_of_three : (d x a b c : ℤ) → d *ℤ x ≡ a +ℤ b +ℤ c → c ≡ pos 0 → d *ℤ x ≡ a +ℤ b
two_of_three d x a b c e z = omega (arith, ints)

-- a point of a closed triangle on the line of its first side is on that side
pub on_side_of_closed : (a b c x : Fraction) → pos 0 <ℤ bracket a b c → Closed a b c x
    → bracket a b x ≡ pos 0 → OnSide a b x
on_side_of_closed a b c x t h z = record {
  n = bracket a b c;
  k = bracket b c x;
  l = bracket c a x;
  n_above = t;
  k_least = h.second;
  l_least = h.third;
  along = λ u v. two_of_three (bracket a b c) (bracket u v x) (bracket b c x *ℤ bracket u v a)
      (bracket c a x *ℤ bracket u v b) (bracket a b x *ℤ bracket u v c) (cramer a b c x u v)
      (product_zero_left _ z);
  weight = two_of_three (bracket a b c) x.w (bracket b c x *ℤ a.w) (bracket c a x *ℤ b.w)
      (bracket a b x *ℤ c.w) (cramer-w a b c x) (product_zero_left _ z);
}

-- x's values are those of v
at_none : (v x s u : Fraction) → IsAt v x → bracket s u x ≡ pos 0 → bracket s u v ≡ pos 0
at_none v x s u h z = zero_of_mul-zero_ℤ {k = h.k} {x = bracket s u v} (pos-ne-zero_ℤ h.k_above)
    (sym (h.along s u) ∙ zero-mul_ℤ h.n z)

at_least_there : (v x s u : Fraction) → IsAt v x → pos 0 ≤ℤ bracket s u x → pos 0 ≤ℤ bracket s u v
at_least_there v x s u h z =
    nonneg_of_mul-nonneg_ℤ {k = h.k} {x = bracket s u v} h.k_above (subst (λ t. pos 0 ≤ℤ t)
    (h.along s u) (mul-nonneg_ℤ {a = h.n} {b = bracket s u x} (weak h.n_above) z))

-- a linear form that is 0 at v is 0 at x, which is where v is
pub at_here : (v x s u : Fraction) → IsAt v x → bracket s u v ≡ pos 0 → bracket s u x ≡ pos 0
at_here v x s u h z = zero_of_mul-zero_ℤ {k = h.n} {x = bracket s u x} (pos-ne-zero_ℤ h.n_above)
    (h.along s u ∙ zero-mul_ℤ h.k z)

module _ (T : Tiling) where
  open T use {at, IsVertex, IsFace}

  -- the two vertices are joined by a side, in either direction
  abbrev pub IsEdge : ℕ → ℕ → Type 0
  IsEdge a b = ((c : ℕ) × IsFace a b c) ⊎ ((c : ℕ) × IsFace b a c)

  -- an edge is one from either end
  pub edge-swapped : (a b : ℕ) → IsEdge a b → IsEdge b a
  edge-swapped a b (inl e) = inr e
  edge-swapped a b (inr e) = inl e

  -- a vertex on a side is an end of it
  end_of_face : (e u v w : ℕ) (x : Fraction) → IsVertex e → IsFace u v w → IsAt (at e) x
      → OnSide (at u) (at v) x → (e ≡ u) ⊎ (e ≡ v)
  end_of_face e u v w x he f i o = go (T.empty u v w e f he (record {
    first = zero_weak_left zero;
    second = at_least_there (at e) x (at v) (at w) i closed.second;
    third = at_least_there (at e) x (at w) (at u) i closed.third;
  }))
    where
      t : pos 0 <ℤ bracket (at u) (at v) (at w)
      t = T.turns u v w f

      zero : bracket (at u) (at v) (at e) ≡ pos 0
      zero = at_none (at e) x (at u) (at v) i (on_side-none (at u) (at v) x o)

      closed : Closed (at u) (at v) (at w) x
      closed = on_side-closed (at u) (at v) (at w) x o t

      go : (e ≡ u) ⊎ ((e ≡ v) ⊎ (e ≡ w)) → (e ≡ u) ⊎ (e ≡ v)
      go (inl p) = inl p
      go (inr (inl p)) = inr p
      go (inr (inr p)) =
          absurd (left_not_zero t (ap (λ i. bracket (at u) (at v) (at i)) (sym p) ∙ zero))

  -- how two edges that share x are: one edge, or two at a vertex where x is
  pub data Shared (a b u v : ℕ) (x : Fraction) : Type 0 where
    same : (u ≡ a) → (v ≡ b) → Shared a b u v x
    reversed : (u ≡ b) → (v ≡ a) → Shared a b u v x
    at_vertex : (e : ℕ) → IsVertex e → IsAt (at e) x → (e ≡ a) ⊎ (e ≡ b) → (e ≡ u) ⊎ (e ≡ v)
        → Shared a b u v x

  within_both : (a b c u v w : ℕ) (x : Fraction) → IsFace a b c → IsFace u v w
      → Between (at a) (at b) x → OnSide (at u) (at v) x → Shared a b u v x
  within_both a b c u v w x f g m o = go (sides_same T a b c u v w x f g m zero
      (not_right_strict closed.second
      (not_second T a b u v w x (λ n. none_within T a b c n f) g m zero))
      (not_right_strict closed.third (λ y. not_second T a b w u v x (λ n. none_within T a b c n f)
      (T.turned v w u (T.turned u v w g)) m y zero)))
    where
      zero : bracket (at u) (at v) x ≡ pos 0
      zero = on_side-none (at u) (at v) x o

      closed : Closed (at u) (at v) (at w) x
      closed = on_side-closed (at u) (at v) (at w) x o (T.turns u v w g)

      go : ((u ≡ a) × (v ≡ b)) ⊎ ((u ≡ b) × (v ≡ a)) → Shared a b u v x
      go (inl e) = same e.0 e.1
      go (inr e) = reversed e.0 e.1

  faces_meet : (a b c u v w : ℕ) (x : Fraction) → IsFace a b c → IsFace u v w
      → OnSide (at a) (at b) x → OnSide (at u) (at v) x → Shared a b u v x
  faces_meet a b c u v w x f g h o = go (place_of (at a) (at b) x h)
    where
      go : Place (at a) (at b) x → Shared a b u v x
      go (at_first i) = at_vertex a (T.corner a b c f) i (inl refl)
          (end_of_face a u v w x (T.corner a b c f) g i o)
      go (at_second i) = at_vertex b (corner_2 T a b c f) i (inr refl)
          (end_of_face b u v w x (corner_2 T a b c f) g i o)
      go (within m) = within_both a b c u v w x f g m o

  flip_end : {e a b : ℕ} → (e ≡ a) ⊎ (e ≡ b) → (e ≡ b) ⊎ (e ≡ a)
  flip_end (inl p) = inr p
  flip_end (inr p) = inl p

  flip_first : (a b u v : ℕ) (x : Fraction) → Shared a b u v x → Shared b a u v x
  flip_first a b u v x (same p q) = reversed p q
  flip_first a b u v x (reversed p q) = same p q
  flip_first a b u v x (at_vertex e h i p q) = at_vertex e h i (flip_end p) q

  flip_second : (a b u v : ℕ) (x : Fraction) → Shared a b u v x → Shared a b v u x
  flip_second a b u v x (same p q) = reversed q p
  flip_second a b u v x (reversed p q) = same q p
  flip_second a b u v x (at_vertex e h i p q) = at_vertex e h i p (flip_end q)

  -- two edges with a common point share an end there, or are one
  pub edges_meet : (a b u v : ℕ) (x : Fraction) → IsEdge a b → IsEdge u v → OnSide (at a) (at b) x
      → OnSide (at u) (at v) x → Shared a b u v x
  edges_meet a b u v x (inl f) (inl g) h o = faces_meet a b f.0 u v g.0 x f.1 g.1 h o
  edges_meet a b u v x (inl f) (inr g) h o = flip_second a b v u x
      (faces_meet a b f.0 v u g.0 x f.1 g.1 h (on_side-swapped (at u) (at v) x o))
  edges_meet a b u v x (inr f) (inl g) h o = flip_first b a u v x
      (faces_meet b a f.0 u v g.0 x f.1 g.1 (on_side-swapped (at a) (at b) x h) o)
  edges_meet a b u v x (inr f) (inr g) h o =
      flip_first b a u v x (flip_second b a v u x (faces_meet b a f.0 v u g.0 x f.1 g.1
      (on_side-swapped (at a) (at b) x h) (on_side-swapped (at u) (at v) x o)))

  -- a point of an edge is strictly inside no face
  pub edge_outside : (a b d e f : ℕ) (x : Fraction) → IsEdge a b → IsFace d e f
      → OnSide (at a) (at b) x → ¬ InOpen (at d) (at e) (at f) x
  edge_outside a b d e f x (inl s) g h =
      side_not_inside T a b s.0 d e f s.1 g x (on_side-closed (at a) (at b) (at s.0) x h
      (T.turns a b s.0 s.1)) (on_side-none (at a) (at b) x h)
  edge_outside a b d e f x (inr s) g h = let h' = on_side-swapped (at a) (at b) x h in
      side_not_inside T b a s.0 d e f s.1 g x (on_side-closed (at b) (at a) (at s.0) x h'
      (T.turns b a s.0 s.1)) (on_side-none (at b) (at a) x h')
