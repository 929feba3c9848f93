-- The edges that meet a convex set are connected through faces: from one of them a flood finds all.
-- Notions: InShape, IsFlooded; on_side-first, swapped_above, swapped_below, star, through_point,
-- flood_finds.
use Prim.Native.Nat.{ℕ, zero, suc, ◌+◌, ◌<◌}
use lib.IntN.{ℤ, pos, ◌+ℤ◌, ◌-ℤ◌, ◌*ℤ◌}
use lib.Signed.{◌<ℤ◌, ◌≤ℤ◌}
use mathlib.Core.Path.{◌≡◌, sym, ◌∙◌, ap, subst, subst₂}
use mathlib.Core.Logic.{◌⊎◌, inl, inr}
use native.Mathlib.Omega.{arith}
use borrow.Author.Differences.{ints}
use Rattle.std.specs.Prelude.{sum_by}
use Rattle.std.proofs.Math.Nat.{lt-suc_self}
use Rattle.{plane.specs.Fraction, plane_theorems.proofs.Delaunay.Points.Numbers.stays_below}
use Rattle.plane.proofs.{above, below, index_not_negative, left_not_zero, none, product_zero_left}
use Rattle.plane.proofs.{right_not_above, right_not_zero, Sign, sign, weak, weak_right, zero-mul_ℤ}
use Rattle.plane.proofs.{Segments.start_part, zero_of_mul-zero_ℤ, zero_weak_left}
use Rattle.plane_theorems.proofs.Delaunay.Points.Bracket.{bracket, bracket-first, bracket-second}
use Rattle.plane_theorems.proofs.Delaunay.Points.Bracket.{bracket-swapped, bracket-turned, pluecker}
use Rattle.plane_theorems.proofs.Delaunay.Points.Members.{Member, member-le-sum_by}
use Rattle.plane_theorems.proofs.Delaunay.Points.Nudges.{bracket-nudge, Closed, closed-turned}
use Rattle.plane_theorems.proofs.Delaunay.Points.Nudges.{nudge, nudge-above, nudge-on, size}
use Rattle.plane_theorems.proofs.Delaunay.Points.Numbers.{less_again, none_before, stays_above}
use Rattle.plane_theorems.proofs.Delaunay.Tilings.Faces.{corner_2, Germ, germ, germ-closed}
use Rattle.plane_theorems.proofs.Delaunay.Tilings.Faces.{germ-turned, StartsFrom, Tiling}
use Rattle.plane_theorems.proofs.Delaunay.Tilings.Meets.{at_here, at_vertex, edge-swapped}
use Rattle.plane_theorems.proofs.Delaunay.Tilings.Meets.{edge_outside, edges_meet, IsAt, IsEdge}
use Rattle.plane_theorems.proofs.Delaunay.Tilings.Meets.{on_side-swapped, on_side_of_closed, OnSide}
use Rattle.plane_theorems.proofs.Delaunay.Tilings.Meets.{reversed, same, Shared}
use Rattle.plane_theorems.proofs.Delaunay.Tilings.Walk.{leave, leaves_first, leaves_second}
use Rattle.plane_theorems.proofs.Delaunay.Tilings.Walk.{leaves_third, OnWay, reached, separation}
use Rattle.plane_theorems.proofs.Delaunay.Tilings.Walk.{Step, step}

-- an end is on the side
pub on_side-first : (a b : Fraction) → OnSide a b a
on_side-first a b = record {
  n = pos 1;
  k = pos 1;
  l = pos 0;
  n_above = record { lt = tt };
  k_least = record { le = tt };
  l_least = record { le = tt };
  along = λ u v. start_part (bracket u v a) (bracket u v b);
  weight = start_part a.w b.w;
}

nudged_sum : (n : ℕ) (s x m : ℤ) → s ≡ pos n *ℤ x +ℤ m → pos 1 *ℤ s ≡ pos n *ℤ x +ℤ pos 1 *ℤ m
nudged_sum n s x m e = omega (arith, ints)

same_weight : (n : ℕ) (v d : ℤ) → pos 1 *ℤ (pos n *ℤ v +ℤ pos 1 *ℤ d) ≡ pos n *ℤ v +ℤ pos 1 *ℤ d
same_weight n v d = omega (arith, ints)

-- a nudged end is on the side
on_side-nudge : (n : ℕ) (a b : Fraction) → OnSide a b (nudge n a b)
unfolding nudge
on_side-nudge n a b = record {
  n = pos 1;
  k = pos n;
  l = pos 1;
  n_above = record { lt = tt };
  k_least = index_not_negative n;
  l_least = record { le = tt };
  along = λ u v. nudged_sum n _ (bracket u v a) (bracket u v b) (bracket-nudge u v n a b);
  weight = same_weight n a.w b.w;
}

-- right of a line, so left of it turned round
pub swapped_above : (u v q : Fraction) → bracket u v q <ℤ pos 0 → pos 0 <ℤ bracket v u q
swapped_above u v q h = let e = bracket-swapped u v q in omega (arith, ints)

-- left of a line, so right of it turned round
pub swapped_below : (u v q : Fraction) → pos 0 <ℤ bracket u v q → bracket v u q <ℤ pos 0
swapped_below u v q h = let e = bracket-swapped u v q in omega (arith, ints)

module _ (T : Tiling) where
  open T use {at, IsVertex, IsFace, InHull}

  -- x is on the same side of each face's sides as v, where v is on none
  record IsNear (v x : Fraction) : Type 0 where
    keeps_right : (i j : ℕ) → Member (i, j) T.sides → bracket (at i) (at j) v <ℤ pos 0
        → bracket (at i) (at j) x <ℤ pos 0
    keeps_left : (i j : ℕ) → Member (i, j) T.sides → pos 0 <ℤ bracket (at i) (at j) v
        → pos 0 <ℤ bracket (at i) (at j) x

  abbrev both_sizes : Fraction → ℕ × ℕ → ℕ
  both_sizes m s = size (bracket (at s.0) (at s.1) m) + size (bracket (at s.1) (at s.0) m)

  near-nudge : (v m : Fraction) (n : ℕ) → sum_by (both_sizes m) T.sides < n → IsNear v (nudge n v m)
  near-nudge v m n h = record {
    keeps_right = λ i j s r. swapped_below (at j) (at i) (nudge n v m)
        (nudge-above (at j) (at i) n v m (swapped_above (at i) (at j) v r) (second i j s));
    keeps_left = λ i j s l. nudge-above (at i) (at j) n v m l (first i j s);
  }
    where
      first : (i j : ℕ) → Member (i, j) T.sides → size (bracket (at i) (at j) m) < n
      first i j s = omega (arith, member-le-sum_by (both_sizes m) (i, j) T.sides s)

      second : (i j : ℕ) → Member (i, j) T.sides → size (bracket (at j) (at i) m) < n
      second i j s = omega (arith, member-le-sum_by (both_sizes m) (i, j) T.sides s)

  near-on_way : (v x p x' : Fraction) → OnWay x p x' → IsNear v x → IsNear v p → IsNear v x'
  near-on_way v x p x' w h k = record {
    keeps_right = λ i j s r. stays_below w.k w.l _ _ _ w.k_above w.l_above (w.along (at i) (at j))
        (h.keeps_right i j s r) (weak_right (k.keeps_right i j s r));
    keeps_left = λ i j s l. stays_above w.k w.l _ _ _ w.k_above w.l_above (w.along (at i) (at j))
        (h.keeps_left i j s l) (weak (k.keeps_left i j s l));
  }

  module _ (K : Fraction → Type 0) (mean : (x p x' : Fraction) → OnWay x p x' → K x → K p → K x')
      (moved : (v x : Fraction) → IsAt v x → K x → K v) (S : ℕ → ℕ → Type 0) where
    -- an edge that has a point of the set
    abbrev pub InShape : ℕ → ℕ → Type 0
    InShape a b = (x : Fraction) × K x × OnSide (at a) (at b) x

    -- through each face, from each of its sides in S to each other that meets the set
    pub record IsFlooded : Type 0 where
      pub turned : (a b : ℕ) → S a b → S b a
      pub next : (a b c : ℕ) → IsFace a b c → S a b → InShape b c → S b c
      pub last : (a b c : ℕ) → IsFace a b c → S a b → InShape c a → S c a

    module _ (F : IsFlooded) where
      -- an edge at v, other than v's own place, is told by a point
      same_end : (v e c : ℕ) (y : Fraction) → IsEdge T v e → IsEdge T v c → ¬ (c ≡ v)
          → ¬ IsAt (at v) y → OnSide (at v) (at e) y → OnSide (at v) (at c) y → e ≡ c
      same_end v e c y he hc other off o o' = go (edges_meet T v e v c y he hc o o')
        where
          go : Shared T v e v c y → e ≡ c
          go (same p q) = sym q
          go (reversed p q) = absurd (other q)
          go (at_vertex w hw i (inl p) q) = absurd (off (subst (λ n. IsAt (at n) y) p i))
          go (at_vertex w hw i (inr p) (inl q)) = absurd (off (subst (λ n. IsAt (at n) y) q i))
          go (at_vertex w hw i (inr p) (inr q)) = sym p ∙ q

      from_vertex_shape : (v c : ℕ) → K (at v) → InShape v c
      from_vertex_shape v c k = (at v, k, on_side-first (at v) (at c))

      to_vertex_shape : (v c : ℕ) → K (at v) → InShape c v
      to_vertex_shape v c k =
          (at v, k, on_side-swapped (at v) (at c) (at v) (on_side-first (at v) (at c)))

      module _ (v : ℕ) (hv : IsVertex v) (kv : K (at v)) (d : ℕ) (hd : IsEdge T v d) (z : Fraction)
          (near_z : IsNear (at v) z) (hz : InHull z) (on_z : OnSide (at v) (at d) z)
          (off_z : ¬ IsAt (at v) z) (line_z : bracket (at v) (at d) z ≡ pos 0) where
        record Here (y : Fraction) : Type 0 where
          e : ℕ
          edge : IsEdge T v e
          found : S v e
          on_edge : OnSide (at v) (at e) y
          near : IsNear (at v) y
          hull : InHull y
          off : ¬ (bracket (at v) (at d) y ≡ pos 0)

        off_vertex : (y : Fraction) → ¬ (bracket (at v) (at d) y ≡ pos 0) → ¬ IsAt (at v) y
        off_vertex y n i = n (at_here (at v) y (at v) (at d) i (bracket-first (at v) (at d)))

        not_degenerate : (a b c : ℕ) → IsFace a b c → ¬ (b ≡ a)
        not_degenerate a b c f e =
            left_not_zero (T.turns a b c f) (sym (bracket-turned (at a) (at b) (at c))
            ∙ ap (λ i. bracket (at b) (at c) (at i)) (sym e) ∙ bracket-first (at b) (at c))

        -- at a face v a b whose two sides at v are found
        onwards : (m : ℕ) → ((y : Fraction) → Here y → separation T y z < m → S v d)
            → (a b : ℕ) (y : Fraction) → IsFace v a b → Germ T y z v a b → Here y
            → separation T y z < suc m → S v a → S b v → S v d
        onwards m goes a b y f g h less sa sb =
            go (step y z (at v) (at a) (at b) (germ-closed T y z v a b g))
          where
            f₂ : IsFace a b v
            f₂ = T.turned v a b f

            f₃ : IsFace b v a
            f₃ = T.turned a b v f₂

            opposite : pos 0 <ℤ bracket (at a) (at b) z
            opposite = near_z.keeps_left a b (T.listed a b v f₂) (T.turns a b v f₂)

            a_other : ¬ (a ≡ v)
            a_other = not_degenerate v a b f

            b_other : ¬ (b ≡ v)
            b_other e = not_degenerate b v a f₃ (sym e)

            left_of : (i j : ℕ) → StartsFrom T y z i j → bracket (at i) (at j) z <ℤ pos 0
                → pos 0 <ℤ bracket (at i) (at j) y
            left_of i j s r = from s.starts
              where
                from : (pos 0 <ℤ bracket (at i) (at j) y)
                    ⊎ ((bracket (at i) (at j) y ≡ pos 0) × (pos 0 ≤ℤ bracket (at i) (at j) z))
                    → pos 0 <ℤ bracket (at i) (at j) y
                from (inl p) = p
                from (inr p) = absurd (right_not_above r p.1)

            stays_off : (y' : Fraction) → OnWay y z y' → ¬ (bracket (at v) (at d) y' ≡ pos 0)
            stays_off y' w e = h.off (none_before w.k w.l (bracket (at v) (at d) y)
                (bracket (at v) (at d) z) _ w.k_above (w.along (at v) (at d)) line_z e)

            arrived : Closed (at v) (at a) (at b) z → Sign (bracket (at v) (at a) z)
                → Sign (bracket (at b) (at v) z) → S v d
            arrived c (below p) q = absurd (right_not_above p c.first)
            arrived c p (below q) = absurd (right_not_above q c.third)
            arrived c (none p) q = subst (λ n. S v n) (sym (same_end v d a z hd (inl (b, f)) a_other
                off_z on_z (on_side_of_closed (at v) (at a) (at b) z (T.turns v a b f) c p))) sa
            arrived c (above p) (none q) =
                subst (λ n. S v n) (sym (same_end v d b z hd (inr (a, f₃)) b_other off_z on_z
                (on_side-swapped (at b) (at v) z (on_side_of_closed (at b) (at v) (at a) z (T.turns
                b v a f₃) (record { first = c.third; second = c.first; third = c.second }) q))))
                (F.turned b v sb)
            arrived c (above p) (above q) = absurd (edge_outside T v d v a b z hd f on_z
                (record { first = p; second = opposite; third = q }))

            go : Step y z (at v) (at a) (at b) → S v d
            go (reached c) =
                arrived c (sign (bracket (at v) (at a) z)) (sign (bracket (at b) (at v) z))
            go (leaves_first l) = next (leave T v a b y z f (left_of v a g.first l.right) l)
              where
                next : (y' : Fraction) × OnWay y z y' × (bracket (at v) (at a) y' ≡ pos 0) × Closed
                    (at v) (at a) (at b) y' × (separation T y' z < separation T y z) → S v d
                next r = goes r.0 (record {
                  e = a;
                  edge = inl (b, f);
                  found = sa;
                  on_edge = on_side_of_closed (at v) (at a) (at b) r.0 (T.turns v a b f) r.3 r.2;
                  near = near-on_way (at v) y z r.0 r.1 h.near near_z;
                  hull = T.closed_in_hull v a b f r.0 r.3;
                  off = stays_off r.0 r.1;
                }) (less_again (separation T r.0 z) (separation T y z) m r.4 less)
            go (leaves_second l) = absurd (right_not_above l.right (weak opposite))
            go (leaves_third l) = next (leave T b v a y z f₃ (left_of b v g.third l.right) l)
              where
                next : (y' : Fraction) × OnWay y z y' × (bracket (at b) (at v) y' ≡ pos 0) × Closed
                    (at b) (at v) (at a) y' × (separation T y' z < separation T y z) → S v d
                next r = goes r.0 (record {
                  e = b;
                  edge = inr (a, f₃);
                  found = F.turned b v sb;
                  on_edge = on_side-swapped (at b) (at v) r.0
                      (on_side_of_closed (at b) (at v) (at a) r.0 (T.turns b v a f₃) r.3 r.2);
                  near = near-on_way (at v) y z r.0 r.1 h.near near_z;
                  hull = T.closed_in_hull b v a f₃ r.0 r.3;
                  off = stays_off r.0 r.1;
                }) (less_again (separation T r.0 z) (separation T y z) m r.4 less)

        -- y is on one of the two sides at v of the face
        in_face : (m : ℕ) → ((y : Fraction) → Here y → separation T y z < m → S v d)
            → (a b : ℕ) (y : Fraction) → IsFace v a b → Germ T y z v a b → Here y
            → separation T y z < suc m → S v d
        in_face m goes a b y f g h less =
            go (sign (bracket (at v) (at a) y)) (sign (bracket (at b) (at v) y))
          where
            f₂ : IsFace a b v
            f₂ = T.turned v a b f

            f₃ : IsFace b v a
            f₃ = T.turned a b v f₂

            c : Closed (at v) (at a) (at b) y
            c = germ-closed T y z v a b g

            opposite : pos 0 <ℤ bracket (at a) (at b) y
            opposite = h.near.keeps_left a b (T.listed a b v f₂) (T.turns a b v f₂)

            by_a : S v a → S v d
            by_a s = onwards m goes a b y f g h less s (F.last v a b f s (to_vertex_shape v b kv))

            by_b : S b v → S v d
            by_b s =
                onwards m goes a b y f g h less (F.next b v a f₃ s (from_vertex_shape v a kv)) s

            go : Sign (bracket (at v) (at a) y) → Sign (bracket (at b) (at v) y) → S v d
            go (below p) q = absurd (right_not_above p c.first)
            go p (below q) = absurd (right_not_above q c.third)
            go (none p) q = by_a (subst (λ n. S v n) (same_end v h.e a y h.edge (inl (b, f))
                (not_degenerate v a b f) (off_vertex y h.off) h.on_edge
                (on_side_of_closed (at v) (at a) (at b) y (T.turns v a b f) c p)) h.found)
            go (above p) (none q) = by_b (F.turned v b (subst (λ n. S v n)
                (same_end v h.e b y h.edge (inr (a, f₃)) (λ e. not_degenerate b v a f₃ (sym e))
                (off_vertex y h.off) h.on_edge (on_side-swapped (at b) (at v) y
                (on_side_of_closed (at b) (at v) (at a) y (T.turns b v a f₃)
                (record { first = c.third; second = c.first; third = c.second }) q))) h.found))
            go (above p) (above q) = absurd (edge_outside T v h.e v a b y h.edge f h.on_edge
                (record { first = p; second = opposite; third = q }))

        at_least_near : (y : Fraction) → IsNear (at v) y → (i j : ℕ) → Member (i, j) T.sides
            → pos 0 ≤ℤ bracket (at i) (at j) y → pos 0 ≤ℤ bracket (at i) (at j) (at v)
        at_least_near y n i j s h = go (sign (bracket (at i) (at j) (at v)))
          where
            go : Sign (bracket (at i) (at j) (at v)) → pos 0 ≤ℤ bracket (at i) (at j) (at v)
            go (below p) = absurd (right_not_above (n.keeps_right i j s p) h)
            go (none p) = zero_weak_left p
            go (above p) = weak p

        -- a closed face that has y has v as a corner
        at_v : (m : ℕ) → ((y : Fraction) → Here y → separation T y z < m → S v d) → (y : Fraction)
            → Here y → separation T y z < suc m
            → (i j k : ℕ) × IsFace i j k × Germ T y z i j k → S v d
        at_v m goes y h less (i, j, k, f, g) = go (T.empty i j k v f hv (record {
          first = at_least_near y h.near i j (T.listed i j k f) c.first;
          second = at_least_near y h.near j k (T.listed j k i f₂) c.second;
          third = at_least_near y h.near k i (T.listed k i j (T.turned j k i f₂)) c.third;
        }))
          where
            c : Closed (at i) (at j) (at k) y
            c = germ-closed T y z i j k g

            f₂ : IsFace j k i
            f₂ = T.turned i j k f

            from : (i j k : ℕ) → IsFace i j k → Germ T y z i j k → v ≡ i → S v d
            from i j k f g e = in_face m goes j k y (subst (λ n. IsFace n j k) (sym e) f)
                (subst (λ n. Germ T y z n j k) (sym e) g) h less

            go : (v ≡ i) ⊎ ((v ≡ j) ⊎ (v ≡ k)) → S v d
            go (inl e) = from i j k f g e
            go (inr (inl e)) = from j k i f₂ (germ-turned T y z i j k g) e
            go (inr (inr e)) = from k i j (T.turned j k i f₂)
                (germ-turned T y z j k i (germ-turned T y z i j k g)) e

        -- where fewer than m sides separate y, on a found edge at v, from z: v d is found too
        goes : (m : ℕ) (y : Fraction) → Here y → separation T y z < m → S v d
        goes zero y h less = absurd (omega arith)
        goes (suc m) y h less = at_v m (goes m) y h less (germ T y z h.hull hz)

      edge_vertices : (a b : ℕ) → IsEdge T a b → IsVertex a × IsVertex b
      edge_vertices a b (inl s) = (T.corner a b s.0 s.1, corner_2 T a b s.0 s.1)
      edge_vertices a b (inr s) = (corner_2 T b a s.0 s.1, T.corner b a s.0 s.1)

      -- from one edge at a vertex of the set to another, off its line
      star_off : (v b d : ℕ) → K (at v) → IsEdge T v b → S v b → IsEdge T v d
          → ¬ (bracket (at v) (at b) (at d) ≡ pos 0) → S v d
      star_off v b d kv hb sb hd off =
          let hv = (edge_vertices v b hb).0 in
          goes v hv kv d hd z (near-nudge (at v) (at d) n (omega arith)) (T.nudge_in_hull n (at v)
          (at d) (T.vertex_in_hull v hv) (T.vertex_in_hull d (edge_vertices v d hd).1))
          (on_side-nudge n (at v) (at d))
          (λ i. off (sym (nudge-on (at v) (at b) n (at v) (at d) (bracket-first (at v) (at b)))
          ∙ at_here (at v) z (at v) (at b) i (bracket-first (at v) (at b))))
          (nudge-on (at v) (at d) n (at v) (at d) (bracket-first (at v) (at d))
          ∙ bracket-second (at v) (at d))
          (suc (separation T y z)) y
          (record {
            e = b;
            edge = hb;
            found = sb;
            on_edge = on_side-nudge n (at v) (at b);
            near = near-nudge (at v) (at b) n (omega arith);
            hull = T.nudge_in_hull n (at v) (at b) (T.vertex_in_hull v hv)
                (T.vertex_in_hull b (edge_vertices v b hb).1);
            off = λ e. off (other_side
                (sym (nudge-on (at v) (at d) n (at v) (at b) (bracket-first (at v) (at d))) ∙ e));
          })
          (lt-suc_self (separation T y z))
        where
          n : ℕ
          n = suc (sum_by (both_sizes (at b)) T.sides + sum_by (both_sizes (at d)) T.sides)

          y : Fraction
          y = nudge n (at v) (at b)

          z : Fraction
          z = nudge n (at v) (at d)

          other_side : bracket (at v) (at d) (at b) ≡ pos 0 → bracket (at v) (at b) (at d) ≡ pos 0
          other_side e = let p = bracket-swapped (at d) (at v) (at b) in
              let q = bracket-turned (at d) (at v) (at b) in omega (arith, ints)

      product_none : (x y a b c d : ℤ) → x *ℤ y -ℤ a *ℤ b +ℤ c *ℤ d ≡ pos 0 → a ≡ pos 0 → d ≡ pos 0
          → ¬ (x ≡ pos 0) → y ≡ pos 0
      product_none x y a b c d e p q n = zero_of_mul-zero_ℤ {k = x} {x = y} n
          (let r = product_zero_left b p in let s = zero-mul_ℤ c q in omega (arith, ints))

      not_flat : (v b : ℕ) → (h : IsEdge T v b)
          → (c : ℕ) × (¬ (bracket (at v) (at b) (at c) ≡ pos 0))
      not_flat v b (inl s) = (s.0, λ e. left_not_zero (T.turns v b s.0 s.1) e)
      not_flat v b (inr s) =
          (s.0, λ e. right_not_zero (swapped_below (at b) (at v) (at s.0) (T.turns b v s.0 s.1)) e)

      not_both : (v b c d : ℕ) → ¬ (bracket (at v) (at b) (at c) ≡ pos 0) → IsEdge T v d
          → bracket (at v) (at b) (at d) ≡ pos 0 → ¬ (bracket (at v) (at c) (at d) ≡ pos 0)
      not_both v b c d n hd p q = let g = not_flat v d hd in
          g.1 (product_none (bracket (at v) (at b) (at c)) (bracket (at v) (at d) (at g.0))
          (bracket (at v) (at b) (at d)) (bracket (at v) (at c) (at g.0))
          (bracket (at v) (at b) (at g.0)) (bracket (at v) (at c) (at d))
          (pluecker (at v) (at b) (at c) (at d) (at g.0)) p q n)

      -- all edges at a vertex of the set, from one of them
      pub star : (v b d : ℕ) → K (at v) → IsEdge T v b → S v b → IsEdge T v d → S v d
      star v b d kv hb sb hd = go hb (sign (bracket (at v) (at b) (at d)))
        where
          go : IsEdge T v b → Sign (bracket (at v) (at b) (at d)) → S v d
          go h (below p) = star_off v b d kv hb sb hd (right_not_zero p)
          go h (above p) = star_off v b d kv hb sb hd (λ e. left_not_zero p e)
          go (inl s) (none p) =
              star_off v s.0 d kv (inr (b, T.turned b s.0 v (T.turned v b s.0 s.1)))
              (F.turned s.0 v (F.last v b s.0 s.1 sb (to_vertex_shape v s.0 kv))) hd
              (not_both v b s.0 d (λ e. left_not_zero (T.turns v b s.0 s.1) e) hd p)
          go (inr s) (none p) = star_off v s.0 d kv (inl (b, T.turned b v s.0 s.1))
              (F.next b v s.0 s.1 (F.turned v b sb) (from_vertex_shape v s.0 kv)) hd
              (not_both v b s.0 d (λ e. right_not_zero
              (swapped_below (at b) (at v) (at s.0) (T.turns b v s.0 s.1)) e) hd p)

      -- all edges through a point of the set, from one of them
      pub through_point : (a b u v : ℕ) (y : Fraction) → IsEdge T a b → S a b → IsEdge T u v → K y
          → OnSide (at a) (at b) y → OnSide (at u) (at v) y → S u v
      through_point a b u v y ha sa hu ky o o' = go (edges_meet T a b u v y ha hu o o')
        where
          ends : (e : ℕ) → K (at e) → (c : ℕ) → IsEdge T e c → S e c → (e ≡ u) ⊎ (e ≡ v) → S u v
          ends e ke c hc sc (inl p) =
              subst (λ n. S n v) p (star e c v ke hc sc (subst (λ n. IsEdge T n v) (sym p) hu))
          ends e ke c hc sc (inr p) = F.turned v u (subst (λ n. S n u) p
              (star e c u ke hc sc (subst (λ n. IsEdge T n u) (sym p) (edge-swapped T u v hu))))

          go : Shared T a b u v y → S u v
          go (same p q) = subst₂ (λ i j. S i j) (sym p) (sym q) sa
          go (reversed p q) = subst₂ (λ i j. S i j) (sym p) (sym q) (F.turned a b sa)
          go (at_vertex e he i (inl p) q) = ends e (moved (at e) y i ky) b
              (subst (λ n. IsEdge T n b) (sym p) ha) (subst (λ n. S n b) (sym p) sa) q
          go (at_vertex e he i (inr p) q) =
              ends e (moved (at e) y i ky) a (subst (λ n. IsEdge T n a) (sym p)
              (edge-swapped T a b ha)) (subst (λ n. S n a) (sym p) (F.turned a b sa)) q

      module _ (u v : ℕ) (hu : IsEdge T u v) (z : Fraction) (kz : K z) (oz : OnSide (at u) (at v) z)
          (hz : InHull z) where
        record Reached (y : Fraction) : Type 0 where
          a : ℕ
          b : ℕ
          edge : IsEdge T a b
          found : S a b
          on_edge : OnSide (at a) (at b) y
          is_in : K y
          hull : InHull y

        -- at a face with y, whose side i j is found and carries y
        from_side : (m : ℕ) → ((y : Fraction) → Reached y → separation T y z < m → S u v)
            → (i j k : ℕ) (y : Fraction) → IsFace i j k → Germ T y z i j k → K y → S i j
            → separation T y z < suc m → S u v
        from_side m finds i j k y f g ky s less =
            go (step y z (at i) (at j) (at k) (germ-closed T y z i j k g))
          where
            f₂ : IsFace j k i
            f₂ = T.turned i j k f

            f₃ : IsFace k i j
            f₃ = T.turned j k i f₂

            left_of : (i j : ℕ) → StartsFrom T y z i j → bracket (at i) (at j) z <ℤ pos 0
                → pos 0 <ℤ bracket (at i) (at j) y
            left_of i j s r = from s.starts
              where
                from : (pos 0 <ℤ bracket (at i) (at j) y)
                    ⊎ ((bracket (at i) (at j) y ≡ pos 0) × (pos 0 ≤ℤ bracket (at i) (at j) z))
                    → pos 0 <ℤ bracket (at i) (at j) y
                from (inl p) = p
                from (inr p) = absurd (right_not_above r p.1)

            arrived : Closed (at i) (at j) (at k) z → Sign (bracket (at i) (at j) z)
                → Sign (bracket (at j) (at k) z) → Sign (bracket (at k) (at i) z) → S u v
            arrived c (below p) q r = absurd (right_not_above p c.first)
            arrived c p (below q) r = absurd (right_not_above q c.second)
            arrived c p q (below r) = absurd (right_not_above r c.third)
            arrived c (none p) q r = through_point i j u v z (inl (k, f)) s hu kz
                (on_side_of_closed (at i) (at j) (at k) z (T.turns i j k f) c p) oz
            arrived c (above p) (none q) r = let o =
                on_side_of_closed (at j) (at k) (at i) z (T.turns j k i f₂) (closed-turned c) q in
                through_point j k u v z (inl (i, f₂)) (F.next i j k f s (z, kz, o)) hu kz o oz
            arrived c (above p) (above q) (none r) = let o = on_side_of_closed (at k) (at i)
                (at j) z (T.turns k i j f₃) (closed-turned (closed-turned c)) r in
                through_point k i u v z (inl (j, f₃)) (F.last i j k f s (z, kz, o)) hu kz o oz
            arrived c (above p) (above q) (above r) = absurd
                (edge_outside T u v i j k z hu f oz (record { first = p; second = q; third = r }))

            onto : (a b c : ℕ) → IsFace a b c → (InShape a b → S a b)
                → (y' : Fraction) × OnWay y z y' × (bracket (at a) (at b) y' ≡ pos 0)
                × Closed (at a) (at b) (at c) y' × (separation T y' z < separation T y z) → S u v
            onto a b c h found r =
                let k' = mean y z r.0 r.1 ky kz in
                let o = on_side_of_closed (at a) (at b) (at c) r.0 (T.turns a b c h) r.3 r.2 in
                finds r.0 (record {
                  a = a;
                  b = b;
                  edge = inl (c, h);
                  found = found (r.0, k', o);
                  on_edge = o;
                  is_in = k';
                  hull = T.closed_in_hull a b c h r.0 r.3;
                }) (less_again (separation T r.0 z) (separation T y z) m r.4 less)

            go : Step y z (at i) (at j) (at k) → S u v
            go (reached c) = arrived c (sign (bracket (at i) (at j) z))
                (sign (bracket (at j) (at k) z)) (sign (bracket (at k) (at i) z))
            go (leaves_first l) =
                onto i j k f (λ _. s) (leave T i j k y z f (left_of i j g.first l.right) l)
            go (leaves_second l) = onto j k i f₂ (F.next i j k f s)
                (leave T j k i y z f₂ (left_of j k g.second l.right) l)
            go (leaves_third l) = onto k i j f₃ (F.last i j k f s)
                (leave T k i j y z f₃ (left_of k i g.third l.right) l)

        from_face : (m : ℕ) → ((y : Fraction) → Reached y → separation T y z < m → S u v)
            → (y : Fraction) → Reached y → separation T y z < suc m
            → (i j k : ℕ) × IsFace i j k × Germ T y z i j k → S u v
        from_face m finds y h less (i, j, k, f, g) = go (sign (bracket (at i) (at j) y))
            (sign (bracket (at j) (at k) y)) (sign (bracket (at k) (at i) y))
          where
            c : Closed (at i) (at j) (at k) y
            c = germ-closed T y z i j k g

            side : (i j k : ℕ) → IsFace i j k → Germ T y z i j k
                → bracket (at i) (at j) y ≡ pos 0 → S u v
            side i j k f g e = from_side m finds i j k y f g h.is_in (through_point h.a h.b i j y
                h.edge h.found (inl (k, f)) h.is_in h.on_edge (on_side_of_closed (at i) (at j)
                (at k) y (T.turns i j k f) (germ-closed T y z i j k g) e)) less

            go : Sign (bracket (at i) (at j) y) → Sign (bracket (at j) (at k) y)
                → Sign (bracket (at k) (at i) y) → S u v
            go (below p) q r = absurd (right_not_above p c.first)
            go p (below q) r = absurd (right_not_above q c.second)
            go p q (below r) = absurd (right_not_above r c.third)
            go (none p) q r = side i j k f g p
            go (above p) (none q) r = side j k i (T.turned i j k f) (germ-turned T y z i j k g) q
            go (above p) (above q) (none r) = side k i j (T.turned j k i (T.turned i j k f))
                (germ-turned T y z j k i (germ-turned T y z i j k g)) r
            go (above p) (above q) (above r) = absurd (edge_outside T h.a h.b i j k y h.edge f
                h.on_edge (record { first = p; second = q; third = r }))

        finds : (m : ℕ) (y : Fraction) → Reached y → separation T y z < m → S u v
        finds zero y h less = absurd (omega arith)
        finds (suc m) y h less = from_face m (finds m) y h less (germ T y z h.hull hz)

      edge_in_hull : (a b : ℕ) (y : Fraction) → IsEdge T a b → OnSide (at a) (at b) y → InHull y
      edge_in_hull a b y (inl s) o =
          T.closed_in_hull a b s.0 s.1 y (Rattle.plane_theorems.proofs.Delaunay.Tilings.Meets.on_side-closed
          (at a) (at b) (at s.0) y o (T.turns a b s.0 s.1))
      edge_in_hull a b y (inr s) o =
          T.closed_in_hull b a s.0 s.1 y (Rattle.plane_theorems.proofs.Delaunay.Tilings.Meets.on_side-closed
          (at b) (at a) (at s.0) y (on_side-swapped (at a) (at b) y o) (T.turns b a s.0 s.1))

      -- a flood from one edge that meets the set finds each other
      pub flood_finds : (a b u v : ℕ) → IsEdge T a b → S a b → InShape a b → IsEdge T u v
          → InShape u v → S u v
      flood_finds a b u v ha sa (y, ky, oy) hu (z, kz, oz) =
          finds u v hu z kz oz (edge_in_hull u v z hu oz) (suc (separation T y z)) y (record {
            a = a;
            b = b;
            edge = ha;
            found = sa;
            on_edge = oy;
            is_in = ky;
            hull = edge_in_hull a b y ha oy;
          }) (lt-suc_self (separation T y z))
