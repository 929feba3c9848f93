-- Where a flood starts: beside a point of a convex set, inside a face or beyond an outer edge, is
-- an edge that meets the set, if any edge does.
-- Notions: Border, BorderIn, MeetsSide; border_of_outside, side_of_inside.
use Prim.Native.Nat.{ℕ, zero, suc, ◌<◌}
use lib.IntN.{ℤ, pos, ◌+ℤ◌, ◌*ℤ◌, neg_ℤ}
use lib.Signed.{◌<ℤ◌, ◌≤ℤ◌}
use mathlib.Core.Path.{◌≡◌, sym, ◌∙◌, ap, subst}
use mathlib.Core.Logic.{◌⊎◌, inl, inr}
use mathlib.Core.List.{[], ◌∷◌}
use native.Mathlib.Omega.{arith}
use borrow.Author.Differences.{ints}
use Rattle.std.proofs.Math.Nat.{lt-suc_self}
use Rattle.{plane.specs.Fraction, plane_theorems.proofs.Delaunay.Tilings.Where.vertices_apart}
use Rattle.plane.proofs.{◌⊕◌, ◌⊗◌, balanced, left_not_zero, lt_or_ge_ℤ, mul-nonneg_ℤ, mul-pos_ℤ}
use Rattle.plane.proofs.{neg-pos_ℤ, pos-ne-zero_ℤ, product_zero_left, ring_in_from, weak}
use Rattle.plane.proofs.{zero-mul_ℤ, zero_of_mul-zero_ℤ, zero_or_left, zero_weak_left}
use Rattle.plane.proofs.{Signs.last_of_three, Steps.sum_first}
use Rattle.plane_theorems.proofs.Delaunay.Floods.Flood.{on_side-first}
use Rattle.plane_theorems.proofs.Delaunay.Points.Bracket.{bracket, bracket-mixed, bracket-swapped}
use Rattle.plane_theorems.proofs.Delaunay.Points.Bracket.{cramer, cramer-w, mixed}
use Rattle.plane_theorems.proofs.Delaunay.Points.Nudges.{Closed, closed-turned, closed_of_inside}
use Rattle.plane_theorems.proofs.Delaunay.Points.Nudges.{InOpen}
use Rattle.plane_theorems.proofs.Delaunay.Points.Numbers.{less_again, mix_positive}
use Rattle.plane_theorems.proofs.Delaunay.Tilings.Cones.{Cone, cone}
use Rattle.plane_theorems.proofs.Delaunay.Tilings.Faces.{corner_2, Tiling}
use Rattle.plane_theorems.proofs.Delaunay.Tilings.Meets.{edge_outside, IsEdge, on_side-swapped}
use Rattle.plane_theorems.proofs.Delaunay.Tilings.Meets.{on_side_of_closed, OnSide}
use Rattle.plane_theorems.proofs.Delaunay.Tilings.Walk.{far_end_nearer, leave, Leaves, leaves_first}
use Rattle.plane_theorems.proofs.Delaunay.Tilings.Walk.{leaves_second, leaves_third, OnWay, reached}
use Rattle.plane_theorems.proofs.Delaunay.Tilings.Walk.{separation, Step, step}
use Rattle.plane_theorems.proofs.Delaunay.Tilings.Where.{covered_or_beyond, IsBeyond, IsCovered}
use Rattle.plane_theorems.proofs.Delaunay.Tilings.Where.{not_covered_and_beyond, vertex_not_beyond}

-- ---- numbers
-- three numbers that are not below 0 and sum to 0
all_none : (d x a b c : ℤ) → d *ℤ x ≡ a +ℤ b +ℤ c → x ≡ pos 0 → pos 0 ≤ℤ a → pos 0 ≤ℤ b → pos 0 ≤ℤ c
    → (a ≡ pos 0) × (b ≡ pos 0) × (c ≡ pos 0)
all_none d x a b c e z ha hb hc = let s : d *ℤ x ≡ pos 0 = zero-mul_ℤ d z in
    (omega (arith, ints), omega (arith, ints), omega (arith, ints))

none_second : (a b : ℤ) → a *ℤ b ≡ pos 0 → pos 0 <ℤ a → b ≡ pos 0
none_second a b e h = zero_of_mul-zero_ℤ {k = a} {x = b} (pos-ne-zero_ℤ h) e

none_first : (a b : ℤ) → a *ℤ b ≡ pos 0 → pos 0 <ℤ b → a ≡ pos 0
none_first a b e h = zero_of_mul-zero_ℤ {k = b} {x = a} (pos-ne-zero_ℤ h) (lib.IntN.*ℤ_comm b a ∙ e)

-- d x = m y with x and y not below 0, d above and m below 0
none_of_opposite : (d x m n y : ℤ) → d *ℤ x ≡ m *ℤ y → m ≡ neg_ℤ n → pos 0 <ℤ d → pos 0 ≤ℤ x
    → pos 0 <ℤ n → pos 0 ≤ℤ y → y ≡ pos 0
none_of_opposite d x m n y e o hd hx hn hy = go (zero_or_left hy)
  where
    crossed : pos 0 <ℤ y → ⊥
    crossed h = let p = mul-nonneg_ℤ {a = d} {b = x} (weak hd) hx in
        let q = mul-pos_ℤ {a = n} {b = y} hn h in
        let s : m *ℤ y ≡ neg_ℤ n *ℤ y = ap (λ z. z *ℤ y) o in
        omega (arith, ints, Rattle.plane.proofs.IntegerLaws.neg-mul_ℤ n y)

    go : (y ≡ pos 0) ⊎ (pos 0 <ℤ y) → y ≡ pos 0
    go (inl z) = z
    go (inr h) = absurd (crossed h)

no_weights : (d w a p b q c r : ℤ) → d *ℤ w ≡ a *ℤ p +ℤ b *ℤ q +ℤ c *ℤ r → a ≡ pos 0 → b ≡ pos 0
    → c ≡ pos 0 → pos 0 <ℤ d → pos 0 <ℤ w → ⊥
no_weights d w a p b q c r e ha hb hc hd hw =
    let s = mul-pos_ℤ {a = d} {b = w} hd hw in
    let x = product_zero_left p ha in let y = product_zero_left q hb in
    let z = product_zero_left r hc in omega (arith, ints)

composed : (n y k p m u a v b : ℤ) → n *ℤ y ≡ k *ℤ p → m *ℤ p ≡ a *ℤ u +ℤ b *ℤ v
    → n *ℤ m *ℤ y ≡ k *ℤ a *ℤ u +ℤ k *ℤ b *ℤ v
composed n y k p m u a v b e d = ring_in_from (n ∷ y ∷ k ∷ p ∷ m ∷ u ∷ a ∷ v ∷ b ∷ [])
    (λ n y k p m u a v b. n ⊗ m ⊗ y) (λ n y k p m u a v b. k ⊗ a ⊗ u ⊕ k ⊗ b ⊗ v)
    (λ n y k p m u a v b. (m, n ⊗ y, k ⊗ p) ∷ (k, m ⊗ p, a ⊗ u ⊕ b ⊗ v) ∷ []) (e, (d, tt)) tt

same_value : (d x k y : ℤ) → d *ℤ x ≡ k *ℤ y → d ≡ k → pos 0 <ℤ d → x ≡ y
same_value d x k y e o h = Rattle.plane.proofs.IntegerOrder.mul_cancel_ℤ {k = d} (pos-ne-zero_ℤ h)
    (e ∙ ap (λ z. z *ℤ y) (sym o))

equal_weights : (d w k v a b : ℤ) → d *ℤ w ≡ k *ℤ v +ℤ a +ℤ b → a ≡ pos 0 → b ≡ pos 0 → w ≡ pos 1
    → v ≡ pos 1 → d ≡ k
equal_weights d w k v a b e p q ew ev = let s : d *ℤ w ≡ d *ℤ pos 1 = ap (λ z. d *ℤ z) ew in
    let r : k *ℤ v ≡ k *ℤ pos 1 = ap (λ z. k *ℤ z) ev in omega (arith, ints)

-- where p is on the side and y is at p, y is on the side
on_side_at : (a b p y : Fraction) (n k : ℤ) → pos 0 <ℤ n → pos 0 ≤ℤ k
    → ((u v : Fraction) → n *ℤ bracket u v y ≡ k *ℤ bracket u v p) → n *ℤ y.w ≡ k *ℤ p.w
    → OnSide a b p → OnSide a b y
on_side_at a b p y n k hn hk e w o = record {
  n = n *ℤ o.n;
  k = k *ℤ o.k;
  l = k *ℤ o.l;
  n_above = mul-pos_ℤ hn o.n_above;
  k_least = mul-nonneg_ℤ {a = k} {b = o.k} hk o.k_least;
  l_least = mul-nonneg_ℤ {a = k} {b = o.l} hk o.l_least;
  along = λ u v. composed n (bracket u v y) k (bracket u v p) o.n (bracket u v a) o.k
      (bracket u v b) o.l (e u v) (o.along u v);
  weight = composed n y.w k p.w o.n a.w o.k b.w o.l w o.weight;
}

module _ (T : Tiling) where
  open T use {at, IsVertex, IsFace, InHull}

  -- a side with no face across it that has y
  pub record Border (y : Fraction) : Type 0 where
    pub a : ℕ
    pub b : ℕ
    pub c : ℕ
    pub is_face : IsFace a b c
    pub alone : (d : ℕ) → ¬ IsFace b a d
    pub on_side : OnSide (at a) (at b) y

  module _ (a b c : ℕ) (f : IsFace a b c) (alone : (d : ℕ) → ¬ IsFace b a d) where
    abbrev height : Fraction → ℤ
    height x = bracket (at a) (at b) x

    -- no vertex is beyond the side
    high : (v : ℕ) → IsVertex v → pos 0 ≤ℤ height (at v)
    high v hv = vertex_not_beyond T a b c v f alone hv

    -- not all corners of a face are on the line
    not_flat : (p q r : ℕ) → IsFace p q r → height (at p) ≡ pos 0 → height (at q) ≡ pos 0
        → ¬ (height (at r) ≡ pos 0)
    not_flat p q r g ep eq er = left_not_zero (T.turns a b c f)
        (Rattle.plane_theorems.proofs.Delaunay.Tilings.Across.none_of_sum (bracket (at p) (at q) (at r))
        (height (at c)) _ _ _ (T.turns p q r g) (cramer (at p) (at q) (at r) (at c) (at a) (at b))
        (zero-mul_ℤ _ ep) (zero-mul_ℤ _ eq) (zero-mul_ℤ _ er))

    -- a side on the line has no face across it
    side_alone : (p q r : ℕ) → IsFace p q r → height (at p) ≡ pos 0 → height (at q) ≡ pos 0
        → (s : ℕ) → ¬ IsFace q p s
    side_alone p q r g ep eq s h = not_flat p q r g ep eq
        (none_of_opposite (bracket (at p) (at q) (at r)) (height (at s))
        (bracket (at p) (at q) (at s)) (bracket (at q) (at p) (at s)) (height (at r))
        (last_of_three _ _ _ _ (cramer (at p) (at q) (at r) (at s) (at a) (at b)) (zero-mul_ℤ _ ep)
        (zero-mul_ℤ _ eq)) (bracket-swapped (at q) (at p) (at s))
        (T.turns p q r g) (high s (T.corner s q p (T.turned p s q (T.turned q p s h))))
        (T.turns q p s h) (high r (T.corner r p q (T.turned q r p (T.turned p q r g)))))

    -- the side at a vertex on the line
    at_vertex : (u : ℕ) → IsVertex u → height (at u) ≡ pos 0 → Border (at u)
    at_vertex u hu e = go (cone T u (at a) hu (T.vertex_in_hull a (T.corner a b c f)))
      where
        go : Cone T u (at a) → Border (at u)
        go o = pick (zero_or_left o.second) (zero_or_left o.first)
          where
            g₂ : IsFace o.b o.c u
            g₂ = T.turned u o.b o.c o.is_face

            g₃ : IsFace o.c u o.b
            g₃ = T.turned o.b o.c u g₂

            nones : (bracket (at o.b) (at o.c) (at a) *ℤ height (at u) ≡ pos 0)
                × (bracket (at o.c) (at u) (at a) *ℤ height (at o.b) ≡ pos 0)
                × (bracket (at u) (at o.b) (at a) *ℤ height (at o.c) ≡ pos 0)
            nones = all_none (bracket (at u) (at o.b) (at o.c)) (height (at a)) _ _ _
                (cramer (at u) (at o.b) (at o.c) (at a) (at a) (at b))
                (Rattle.plane_theorems.proofs.Delaunay.Points.Bracket.bracket-first (at a) (at b))
                (zero_weak_left (zero-mul_ℤ (bracket (at o.b) (at o.c) (at a)) e))
                (mul-nonneg_ℤ {a = bracket (at o.c) (at u) (at a)} {b = height (at o.b)} o.second
                (high o.b (T.corner o.b o.c u g₂)))
                (mul-nonneg_ℤ {a = bracket (at u) (at o.b) (at a)} {b = height (at o.c)} o.first
                (high o.c (T.corner o.c u o.b g₃)))

            pick : (bracket (at o.c) (at u) (at a) ≡ pos 0)
                ⊎ (pos 0 <ℤ bracket (at o.c) (at u) (at a))
                → (bracket (at u) (at o.b) (at a) ≡ pos 0)
                ⊎ (pos 0 <ℤ bracket (at u) (at o.b) (at a)) → Border (at u)
            pick (inr p) q = record {
              a = u;
              b = o.b;
              c = o.c;
              is_face = o.is_face;
              alone = side_alone u o.b o.c o.is_face e (none_second _ _ nones.1 p);
              on_side = on_side-first (at u) (at o.b);
            }
            pick (inl p) (inr q) = record {
              a = o.c;
              b = u;
              c = o.b;
              is_face = g₃;
              alone = side_alone o.c u o.b g₃ (none_second _ _ nones.2 q) e;
              on_side = on_side-swapped (at u) (at o.c) (at u) (on_side-first (at u) (at o.c));
            }
            pick (inl p) (inl q) = subst (λ n. Border (at n))
                (vertices_apart T a u (T.corner a b c f) hu same) (record {
                  a = a;
                  b = b;
                  c = c;
                  is_face = f;
                  alone = alone;
                  on_side = on_side-first (at a) (at b);
                })
              where
                weights : bracket (at u) (at o.b) (at o.c) ≡ bracket (at o.b) (at o.c) (at a)
                weights = equal_weights _ (at a).w _ (at u).w _ _
                    (cramer-w (at u) (at o.b) (at o.c) (at a)) (product_zero_left (at o.b).w p)
                    (product_zero_left (at o.c).w q) (T.whole a) (T.whole u)

                same : (s z : Fraction) → bracket s z (at a) ≡ bracket s z (at u)
                same s z = same_value _ _ _ _ (sum_first _ _ _ _ (cramer (at u) (at o.b) (at o.c)
                    (at a) s z) (product_zero_left (bracket s z (at o.b)) p) (product_zero_left
                    (bracket s z (at o.c)) q)) weights (T.turns u o.b o.c o.is_face)

    -- a point of a closed face on the line is on a side with no face across it
    on_line : (y : Fraction) → IsCovered T y → height y ≡ pos 0 → Border y
    on_line y m e = go (zero_or_left (high m.a (T.corner m.a m.b m.c m.is_face)))
        (zero_or_left (high m.b (corner_2 T m.a m.b m.c m.is_face)))
        (zero_or_left (high m.c (corner_2 T m.b m.c m.a (T.turned m.a m.b m.c m.is_face))))
      where
        g₂ : IsFace m.b m.c m.a
        g₂ = T.turned m.a m.b m.c m.is_face

        g₃ : IsFace m.c m.a m.b
        g₃ = T.turned m.b m.c m.a g₂

        -- two corners on the line, and one off it
        two : (p q r : ℕ) → IsFace p q r → Closed (at p) (at q) (at r) y → height (at p) ≡ pos 0
            → height (at q) ≡ pos 0 → pos 0 <ℤ height (at r) → Border y
        two p q r g k ep eq hr = record {
          a = p;
          b = q;
          c = r;
          is_face = g;
          alone = side_alone p q r g ep eq;
          on_side = on_side_of_closed (at p) (at q) (at r) y (T.turns p q r g) k off;
        }
          where
            off : bracket (at p) (at q) y ≡ pos 0
            off = none_first _ _ (sym (last_of_three _ _ _ _ (cramer (at p) (at q) (at r) y (at a)
                (at b)) (zero-mul_ℤ _ ep) (zero-mul_ℤ _ eq)) ∙ zero-mul_ℤ _ e) hr

        nones : (p q r : ℕ) → IsFace p q r → Closed (at p) (at q) (at r) y
            → (bracket (at q) (at r) y *ℤ height (at p) ≡ pos 0)
            × (bracket (at r) (at p) y *ℤ height (at q) ≡ pos 0)
            × (bracket (at p) (at q) y *ℤ height (at r) ≡ pos 0)
        nones p q r g k = all_none (bracket (at p) (at q) (at r)) (height y) _ _ _
            (cramer (at p) (at q) (at r) y (at a) (at b)) e
            (mul-nonneg_ℤ {a = bracket (at q) (at r) y} {b = height (at p)} k.second
            (high p (T.corner p q r g)))
            (mul-nonneg_ℤ {a = bracket (at r) (at p) y} {b = height (at q)} k.third
            (high q (corner_2 T p q r g)))
            (mul-nonneg_ℤ {a = bracket (at p) (at q) y} {b = height (at r)} k.first
            (high r (corner_2 T q r p (T.turned p q r g))))

        -- one corner on the line, and two off it
        one : (p q r : ℕ) → IsFace p q r → Closed (at p) (at q) (at r) y → height (at p) ≡ pos 0
            → pos 0 <ℤ height (at q) → pos 0 <ℤ height (at r) → Border y
        one p q r g k ep hq hr = record {
          a = s.a;
          b = s.b;
          c = s.c;
          is_face = s.is_face;
          alone = s.alone;
          on_side = on_side_at (at s.a) (at s.b) (at p) y (bracket (at p) (at q) (at r))
              (bracket (at q) (at r) y) (T.turns p q r g) k.second
              (λ u v. sum_first _ _ _ _ (cramer (at p) (at q) (at r) y u v) (product_zero_left
              (bracket u v (at q)) zq) (product_zero_left (bracket u v (at r)) zr))
              (sum_first _ _ _ _ (cramer-w (at p) (at q) (at r) y) (product_zero_left (at q).w zq)
              (product_zero_left (at r).w zr)) s.on_side;
        }
          where
            s : Border (at p)
            s = at_vertex p (T.corner p q r g) ep

            zq : bracket (at r) (at p) y ≡ pos 0
            zq = none_first _ _ (nones p q r g k).1 hq

            zr : bracket (at p) (at q) y ≡ pos 0
            zr = none_first _ _ (nones p q r g k).2 hr

        k₂ : Closed (at m.b) (at m.c) (at m.a) y
        k₂ = closed-turned m.closed

        k₃ : Closed (at m.c) (at m.a) (at m.b) y
        k₃ = closed-turned k₂

        go : (height (at m.a) ≡ pos 0) ⊎ (pos 0 <ℤ height (at m.a))
            → (height (at m.b) ≡ pos 0) ⊎ (pos 0 <ℤ height (at m.b))
            → (height (at m.c) ≡ pos 0) ⊎ (pos 0 <ℤ height (at m.c)) → Border y
        go (inl p) (inl q) (inl r) = absurd (not_flat m.a m.b m.c m.is_face p q r)
        go (inl p) (inl q) (inr r) = two m.a m.b m.c m.is_face m.closed p q r
        go (inr p) (inl q) (inl r) = two m.b m.c m.a g₂ k₂ q r p
        go (inl p) (inr q) (inl r) = two m.c m.a m.b g₃ k₃ r p q
        go (inl p) (inr q) (inr r) = one m.a m.b m.c m.is_face m.closed p q r
        go (inr p) (inl q) (inr r) = one m.b m.c m.a g₂ k₂ q r p
        go (inr p) (inr q) (inl r) = one m.c m.a m.b g₃ k₃ r p q
        go (inr p) (inr q) (inr r) = let z = nones m.a m.b m.c m.is_face m.closed in
            absurd (no_weights (bracket (at m.a) (at m.b) (at m.c)) y.w _ (at m.a).w _ (at m.b).w _
            (at m.c).w (cramer-w (at m.a) (at m.b) (at m.c) y) (none_first _ _ z.0 p) (none_first _
            _ z.1 q) (none_first _ _ z.2 r) (T.turns m.a m.b m.c m.is_face) y.positive)

  -- ---- from a point of the set, to an edge that meets it at x
  module _ (K : Fraction → Type 0) (mean : (x p x' : Fraction) → OnWay x p x' → K x → K p → K x')
      (x : Fraction) (kx : K x) where
    -- an outer edge has a point of the set
    abbrev pub BorderIn : Type 0
    BorderIn = (y : Fraction) × K y × Border y

    -- from a point beyond an outer edge
    from_outside : (m : ℕ) (c : Fraction) → IsCovered T x → K c → IsBeyond T c
        → separation T x c < m → BorderIn
    from_outside zero c covered kc o less = absurd (omega arith)
    from_outside (suc m) c covered kc o less =
        go (from_outside m) (lt_or_ge_ℤ (bracket (at o.a) (at o.b) x) (pos 0))
      where
        Finds : Type 0
        Finds = (c : Fraction) → IsCovered T x → K c → IsBeyond T c
            → separation T x c < m → BorderIn

        go : Finds → (bracket (at o.a) (at o.b) x <ℤ pos 0)
            ⊎ (pos 0 ≤ℤ bracket (at o.a) (at o.b) x) → BorderIn
        go finds (inl h) = absurd (not_covered_and_beyond T x covered
            (record { a = o.a; b = o.b; c = o.c; is_face = o.is_face; alone = o.alone; right = h }))
        go finds (inr h) = next (zero_or_left h)
          where
            next : (bracket (at o.a) (at o.b) x ≡ pos 0)
                ⊎ (pos 0 <ℤ bracket (at o.a) (at o.b) x) → BorderIn
            next (inl z) = (x, kx, on_line o.a o.b o.c o.is_face o.alone x covered z)
            next (inr l) = found (covered_or_beyond T o.a o.b o.c o.is_face y)
              where
                s : ℤ
                s = bracket (at o.a) (at o.b) x

                r : ℤ
                r = neg_ℤ (bracket (at o.a) (at o.b) c)

                positive : pos 0 <ℤ (s *ℤ c.w +ℤ r *ℤ x.w)
                positive =
                    mix_positive s r c.w x.w l (weak (neg-pos_ℤ o.right)) c.positive x.positive

                y : Fraction
                y = mixed s c r x positive

                way : OnWay c x y
                way = record {
                  k = s;
                  l = r;
                  k_above = l;
                  l_above = neg-pos_ℤ o.right;
                  along = λ u v. bracket-mixed u v s c r x positive;
                }

                on : bracket (at o.a) (at o.b) y ≡ pos 0
                on = bracket-mixed (at o.a) (at o.b) s c r x positive
                    ∙ turned_line s (bracket (at o.a) (at o.b) c)
                  where
                    turned_line : (s t : ℤ) → s *ℤ t +ℤ neg_ℤ t *ℤ s ≡ pos 0
                    turned_line s t = lib.IntN.+ℤ_comm (s *ℤ t) (neg_ℤ t *ℤ s) ∙ balanced s t

                ky : K y
                ky = mean c x y way kc kx

                found : IsCovered T y ⊎ IsBeyond T y → BorderIn
                found (inl k) = (y, ky, on_line o.a o.b o.c o.is_face o.alone y k on)
                found (inr b) = finds y covered ky b
                    (less_again (separation T x y) (separation T x c) m (far_end_nearer T o.a o.b
                    o.c x c y o.is_face way (zero_weak_left on) l o.right) less)

    -- a set with a covered point and one beyond the hull has a point of an outer edge
    pub border_of_outside : (c : Fraction) → IsCovered T x → K c → IsBeyond T c → BorderIn
    border_of_outside c covered kc o =
        from_outside (suc (separation T x c)) c covered kc o (lt-suc_self (separation T x c))

    -- from a point strictly inside a face
    abbrev pub MeetsSide : ℕ → ℕ → Type 0
    MeetsSide i j = (y : Fraction) × K y × OnSide (at i) (at j) y

    -- a set with a point inside a face and one on an edge has a point of a side of the face
    pub side_of_inside : (i j k u v : ℕ) (c : Fraction) → IsFace i j k
        → InOpen (at i) (at j) (at k) c → K c → IsEdge T u v → OnSide (at u) (at v) x
        → MeetsSide i j ⊎ (MeetsSide j k ⊎ MeetsSide k i)
    side_of_inside i j k u v c f h kc e o = go (step c x (at i) (at j) (at k) (closed_of_inside h))
      where
        f₂ : IsFace j k i
        f₂ = T.turned i j k f

        f₃ : IsFace k i j
        f₃ = T.turned j k i f₂

        through : (a b d : ℕ) → IsFace a b d → pos 0 <ℤ bracket (at a) (at b) c
            → Leaves c x (at a) (at b) (at d) → MeetsSide a b
        through a b d g l w = let r = leave T a b d c x g l w in (
          r.0,
          mean c x r.0 r.1 kc kx,
          on_side_of_closed (at a) (at b) (at d) r.0 (T.turns a b d g) r.3 r.2,
        )

        stays : Closed (at i) (at j) (at k) x → (bracket (at i) (at j) x ≡ pos 0)
            ⊎ (pos 0 <ℤ bracket (at i) (at j) x) → (bracket (at j) (at k) x ≡ pos 0)
            ⊎ (pos 0 <ℤ bracket (at j) (at k) x) → (bracket (at k) (at i) x ≡ pos 0)
            ⊎ (pos 0 <ℤ bracket (at k) (at i) x) → MeetsSide i j ⊎ (MeetsSide j k ⊎ MeetsSide k i)
        stays s (inl p) q r =
            inl (x, kx, on_side_of_closed (at i) (at j) (at k) x (T.turns i j k f) s p)
        stays s (inr p) (inl q) r = inr (inl (
          x,
          kx,
          on_side_of_closed (at j) (at k) (at i) x (T.turns j k i f₂) (closed-turned s) q,
        ))
        stays s (inr p) (inr q) (inl r) = inr (inr (
          x,
          kx,
          on_side_of_closed (at k) (at i) (at j) x
              (T.turns k i j f₃) (closed-turned (closed-turned s)) r,
        ))
        stays s (inr p) (inr q) (inr r) =
            absurd (edge_outside T u v i j k x e f o (record { first = p; second = q; third = r }))

        go : Step c x (at i) (at j) (at k) → MeetsSide i j ⊎ (MeetsSide j k ⊎ MeetsSide k i)
        go (reached s) =
            stays s (zero_or_left s.first) (zero_or_left s.second) (zero_or_left s.third)
        go (leaves_first w) = inl (through i j k f h.first w)
        go (leaves_second w) = inr (inl (through j k i f₂ h.second w))
        go (leaves_third w) = inr (inr (through k i j f₃ h.third w))
