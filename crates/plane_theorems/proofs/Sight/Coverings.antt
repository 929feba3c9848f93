-- Closed faces, some of them free, at the points of a segment.
-- Notions: HasBeside; nudge_on_segment, nudge_between, nudge_back, not_right_along,
-- covered_between, near_side, free_turned, free_where_shared, free_beside, at_side.
use Rattle.std.proofs.Common.{◌≡◌, ◌<◌, ◌+◌, ℕ, suc, [], ◌∷◌, arith, sym, subst, subst₂}
use mathlib.Core.Logic.{◌⊎◌, inl, inr}
use Rattle.std.specs.Prelude.{ℤ, pos, ◌<ℤ◌, ◌≤ℤ◌, ◌+ℤ◌, ◌*ℤ◌}
use Rattle.std.proofs.lemmas.Int.{ints}
use Rattle.plane.specs.{Fraction, IsFace, OnSegment, TilesHull, Triangulation, vertex}
use Rattle.plane.proofs.{◌⊕◌, ◌⊗◌, above, below, index_not_negative, IsTurned, lt_or_ge_ℤ}
use Rattle.plane.proofs.{mul-nonneg_ℤ, mul-pos_ℤ, none, nonneg_of_mul-nonneg_ℤ, not_right_strict}
use Rattle.plane.proofs.{right_not_above, ring_in_from, Sign, sign, weak}
use Rattle.plane_theorems.proofs.Delaunay.Floods.Flooded.{segment_from, side_of_segment}
use Rattle.plane_theorems.proofs.Delaunay.Points.Bracket.{above_if_left, bracket}
use Rattle.plane_theorems.proofs.Delaunay.Points.Nudges.{bracket-nudge, Closed, closed-turned}
use Rattle.plane_theorems.proofs.Delaunay.Points.Nudges.{closed_of_inside, InOpen, nudge}
use Rattle.plane_theorems.proofs.Delaunay.Points.Nudges.{nudge-above, nudge-on, size}
use Rattle.plane_theorems.proofs.Delaunay.Segments.LineItems.{turned_segment}
use Rattle.plane_theorems.proofs.Delaunay.Tilings.Across.{IsClear, sides_same}
use Rattle.plane_theorems.proofs.Delaunay.Tilings.Beyond.{between-halfway, halfway, not_second}
use Rattle.plane_theorems.proofs.Delaunay.Tilings.Faces.{Between, between-closed, between-on}
use Rattle.plane_theorems.proofs.Delaunay.Tilings.Faces.{between-second, between-third, both_inside}
use Rattle.plane_theorems.proofs.Delaunay.Tilings.Faces.{none_within, side_not_inside}
use Rattle.plane_theorems.proofs.Delaunay.Tilings.Ground.{faces_same, tiling}
use Rattle.plane_theorems.proofs.Delaunay.Tilings.Where.{covered_or_beyond, IsBeyond, IsCovered}
use Rattle.plane_theorems.proofs.Delaunay.Tilings.Where.{not_covered_and_beyond}

-- ---- a point of a segment, moved a little towards its end
-- a point of the segment from p to q, moved towards q, is one of it
pub nudge_on_segment : (p q r : Fraction) (n : ℕ) → OnSegment p q r → OnSegment p q (nudge n r q)
nudge_on_segment p q r n m =
    let o = side_of_segment p q r m in
    segment_from o.n (pos n *ℤ o.k) (pos n *ℤ o.l +ℤ o.n) p q (nudge n r q) o.n_above
    (mul-nonneg_ℤ {a = pos n} {b = o.k} (index_not_negative n) o.k_least)
    (sum_least (pos n *ℤ o.l) o.n (mul-nonneg_ℤ {a = pos n} {b = o.l} (index_not_negative n)
    o.l_least) o.n_above)
    (λ u v. moved (pos n) o.n o.k o.l (bracket u v r) (bracket u v p) (bracket u v q)
    (bracket u v (nudge n r q)) (o.along u v) (bracket-nudge u v n r q))
  where
    sum_least : (a b : ℤ) → pos 0 ≤ℤ a → pos 0 <ℤ b → pos 0 ≤ℤ (a +ℤ b)
    sum_least a b h k = omega (arith, ints)

    moved : (n o k l r p q z : ℤ) → o *ℤ r ≡ k *ℤ p +ℤ l *ℤ q → z ≡ n *ℤ r +ℤ q
        → o *ℤ z ≡ (n *ℤ k) *ℤ p +ℤ (n *ℤ l +ℤ o) *ℤ q
    moved n o k l r p q z e d =
        ring_in_from (n ∷ o ∷ k ∷ l ∷ r ∷ p ∷ q ∷ z ∷ []) (λ n o k l r p q z. o ⊗ z)
        (λ n o k l r p q z. (n ⊗ k) ⊗ p ⊕ (n ⊗ l ⊕ o) ⊗ q)
        (λ n o k l r p q z. (n, o ⊗ r, k ⊗ p ⊕ l ⊗ q) ∷ (o, z, n ⊗ r ⊕ q) ∷ []) (e, (d, tt)) tt

-- a point of a segment, moved towards another of it, is one of it
pub nudge_between : (p q x y : Fraction) (n : ℕ) → OnSegment p q x → OnSegment p q y
    → OnSegment p q (nudge n x y)
nudge_between p q x y n hx hy =
    let a = side_of_segment p q x hx in
    let b = side_of_segment p q y hy in
    segment_from (a.n *ℤ b.n) (pos n *ℤ (b.n *ℤ a.k) +ℤ a.n *ℤ b.k)
    (pos n *ℤ (b.n *ℤ a.l) +ℤ a.n *ℤ b.l) p q (nudge n x y) (mul-pos_ℤ a.n_above b.n_above)
    (least a.n b.n a.k b.k a.n_above b.n_above a.k_least b.k_least)
    (least a.n b.n a.l b.l a.n_above b.n_above a.l_least b.l_least)
    (λ u v. moved (pos n) a.n b.n a.k a.l b.k b.l (bracket u v x) (bracket u v y) (bracket u v p)
    (bracket u v q) (bracket u v (nudge n x y)) (a.along u v) (b.along u v)
    (bracket-nudge u v n x y))
  where
    least : (c d k l : ℤ) → pos 0 <ℤ c → pos 0 <ℤ d → pos 0 ≤ℤ k → pos 0 ≤ℤ l
        → pos 0 ≤ℤ (pos n *ℤ (d *ℤ k) +ℤ c *ℤ l)
    least c d k l hc hd hk hl =
        let i = mul-nonneg_ℤ {a = pos n} {b = d *ℤ k} (index_not_negative n)
        (mul-nonneg_ℤ {a = d} {b = k} (weak hd) hk) in
        let j = mul-nonneg_ℤ {a = c} {b = l} (weak hc) hl in omega (arith, ints)

    moved : (n c d k l i j x y p q z : ℤ) → c *ℤ x ≡ k *ℤ p +ℤ l *ℤ q → d *ℤ y ≡ i *ℤ p +ℤ j *ℤ q
        → z ≡ n *ℤ x +ℤ y → (c *ℤ d) *ℤ z
        ≡ (n *ℤ (d *ℤ k) +ℤ c *ℤ i) *ℤ p +ℤ (n *ℤ (d *ℤ l) +ℤ c *ℤ j) *ℤ q
    moved n c d k l i j x y p q z e f g =
        ring_in_from (n ∷ c ∷ d ∷ k ∷ l ∷ i ∷ j ∷ x ∷ y ∷ p ∷ q ∷ z ∷ [])
        (λ n c d k l i j x y p q z. (c ⊗ d) ⊗ z)
        (λ n c d k l i j x y p q z. (n ⊗ (d ⊗ k) ⊕ c ⊗ i) ⊗ p ⊕ (n ⊗ (d ⊗ l) ⊕ c ⊗ j) ⊗ q)
        (λ n c d k l i j x y p q z. (n ⊗ d, c ⊗ x, k ⊗ p ⊕ l ⊗ q) ∷ (c, d ⊗ y, i ⊗ p ⊕ j ⊗ q)
        ∷ (c ⊗ d, z, n ⊗ x ⊕ y) ∷ []) (e, (f, (g, tt))) tt

-- and moved towards p
pub nudge_back : (p q r : Fraction) (n : ℕ) → OnSegment p q r → OnSegment p q (nudge n r p)
nudge_back p q r n m = turned_segment q p (nudge n r p)
    (nudge_on_segment q p r n (turned_segment p q r m))

-- not on the right of a line at both ends: so at each point
pub not_right_along : (p q r : Fraction) → OnSegment p q r → (u v : Fraction)
    → pos 0 ≤ℤ bracket u v p → pos 0 ≤ℤ bracket u v q → pos 0 ≤ℤ bracket u v r
not_right_along p q r m u v hp hq =
    let o = side_of_segment p q r m in
    least o.n o.k o.l _ _ _ o.n_above o.k_least o.l_least hp hq (o.along u v)
  where
    least : (n k l x a b : ℤ) → pos 0 <ℤ n → pos 0 ≤ℤ k → pos 0 ≤ℤ l → pos 0 ≤ℤ a → pos 0 ≤ℤ b
        → n *ℤ x ≡ k *ℤ a +ℤ l *ℤ b → pos 0 ≤ℤ x
    least n k l x a b hn hk hl ha hb e = nonneg_of_mul-nonneg_ℤ {k = n} {x = x} hn
        (let i = mul-nonneg_ℤ {a = k} {b = a} hk ha in
        let j = mul-nonneg_ℤ {a = l} {b = b} hl hb in omega (arith, ints))

-- ---- faces
module _ (t : Triangulation) (h : TilesHull t) where
  -- between two points in closed faces each point is in one
  pub covered_between : (p q r : Fraction) → OnSegment p q r → IsCovered (tiling t h) p
      → IsCovered (tiling t h) q → IsCovered (tiling t h) r
  unfolding tiling
  covered_between p q r m cp cq =
      go (covered_or_beyond (tiling t h) cp.a cp.b cp.c cp.is_face r)
    where
      go : IsCovered (tiling t h) r ⊎ IsBeyond (tiling t h) r → IsCovered (tiling t h) r
      go (inl c) = c
      go (inr b) = absurd (right_not_above b.right
          (not_right_along p q r m (vertex t b.a) (vertex t b.b) (at_end p cp) (at_end q cq)))
        where
          at_end : (x : Fraction) → IsCovered (tiling t h) x
              → pos 0 ≤ℤ bracket (vertex t b.a) (vertex t b.b) x
          at_end x c = elim (lt_or_ge_ℤ (bracket (vertex t b.a) (vertex t b.b) x) (pos 0)) [
            | inl k ↦ absurd (not_covered_and_beyond (tiling t h) x c (record {
              a = b.a;
              b = b.b;
              c = b.c;
              is_face = b.is_face;
              alone = b.alone;
              right = k;
            }))
            | inr k ↦ k
          ]

  -- near the middle of a side of a face, towards a point on its left: strictly inside
  pub near_side : (a b c : ℕ) (x : Fraction) (n : ℕ) → IsFace t a b c
      → pos 0 <ℤ bracket (vertex t a) (vertex t b) x
      → size (bracket (vertex t b) (vertex t c) x) < n
      → size (bracket (vertex t c) (vertex t a) x) < n
      → InOpen (vertex t a) (vertex t b) (vertex t c)
      (nudge n (halfway (vertex t a) (vertex t b)) x)
  near_side a b c x n f left i j =
      let A = vertex t a in
      let B = vertex t b in
      let C = vertex t c in
      let y = halfway A B in
      let m = between-halfway A B in
      let turns = above_if_left A B C (h.turning a b c f) in
      record {
        first = subst (λ z. pos 0 <ℤ z) (sym (nudge-on A B n y x (between-on A B y m))) left;
        second = nudge-above B C n y x (between-second A B C y m turns) i;
        third = nudge-above C A n y x (between-third A B C y m turns) j;
      }

  -- some faces, named from any of their corners
  module _ (Free : ℕ → ℕ → ℕ → Type 0) (is_face : (i j k : ℕ) → Free i j k → IsFace t i j k)
      (turned : (i j k : ℕ) → Free i j k → Free j k i) where
    free_named : (d e f a b c : ℕ) → a ≡ d → b ≡ e → c ≡ f → Free d e f → Free a b c
    free_named d e f a b c p q r x = subst (λ i. Free i b c) (sym p)
        (subst (λ j. Free d j c) (sym q) (subst (λ k. Free d e k) (sym r) x))

    pub free_turned : (d e f a b c : ℕ) → IsTurned d e f a b c → Free d e f → Free a b c
    free_turned d e f a b c (inl s) x = free_named d e f a b c s.0 s.1 s.2 x
    free_turned d e f a b c (inr (inl s)) x = free_named e f d a b c s.0 s.1 s.2 (turned d e f x)
    free_turned d e f a b c (inr (inr s)) x =
        free_named f d e a b c s.0 s.1 s.2 (turned e f d (turned d e f x))

    -- a face with a point strictly inside that is in a closed free face is free
    pub free_where_shared : (a b c d e f : ℕ) → IsFace t a b c → Free d e f → (x : Fraction)
        → InOpen (vertex t a) (vertex t b) (vertex t c) x
        → Closed (vertex t d) (vertex t e) (vertex t f) x → Free a b c
    free_where_shared a b c d e f g free x inside closed =
        go (both_inside (vertex t d) (vertex t e) (vertex t f) (vertex t a) (vertex t b)
        (vertex t c) x (above_if_left _ _ _ (h.turning d e f (is_face d e f free))) closed inside)
      where
        go : (y : Fraction) × InOpen (vertex t d) (vertex t e) (vertex t f) y
            × InOpen (vertex t a) (vertex t b) (vertex t c) y → Free a b c
        go y = free_turned d e f a b c
            (faces_same t h d e f a b c (is_face d e f free) g y.0 y.1 y.2) free

    -- a face on the left of a way that has a free face there is free
    pub free_beside : (a b c k : ℕ) → IsFace t a b c → Free a b k → Free a b c
    free_beside a b c k f free =
        let A = vertex t a in
        let B = vertex t b in
        let C = vertex t c in
        let K = vertex t k in
        let left = above_if_left A B C (h.turning a b c f) in
        let n = suc (size (bracket B C C) + size (bracket C A C) + size (bracket B K C)
        + size (bracket K A C)) in
        free_where_shared a b c a b k f free (nudge n (halfway A B) C)
        (near_side a b c C n f left (omega arith) (omega arith))
        (closed_of_inside
        (near_side a b k C n (is_face a b k free) left (omega arith) (omega arith)))

    -- a free face on one side of the way from a to b
    abbrev pub HasBeside : ℕ → ℕ → Type 0
    HasBeside a b = (e : ℕ) × Free a b e

    -- a closed free face at a point strictly within a side has the side
    pub at_side : (a b c : ℕ) → IsFace t a b c → (x : Fraction)
        → Between (vertex t a) (vertex t b) x → (u v w : ℕ) → Free u v w
        → Closed (vertex t u) (vertex t v) (vertex t w) x → HasBeside a b ⊎ HasBeside b a
    unfolding tiling
    at_side a b c f x m u v w free closed =
        go u v w free closed (sign (bracket (vertex t u) (vertex t v) x))
        (sign (bracket (vertex t v) (vertex t w) x)) (sign (bracket (vertex t w) (vertex t u) x))
      where
        clear : IsClear (tiling t h) a b
        clear n = none_within (tiling t h) a b c n f

        found : (u v w : ℕ) → Free u v w → Closed (vertex t u) (vertex t v) (vertex t w) x
            → bracket (vertex t u) (vertex t v) x ≡ pos 0 → HasBeside a b ⊎ HasBeside b a
        found u v w free closed z =
            pick (sides_same (tiling t h) a b c u v w x f g m z
            (not_right_strict closed.second (not_second (tiling t h) a b u v w x clear g m z))
            (not_right_strict closed.third (λ y. not_second (tiling t h) a b w u v x clear
            (is_face w u v (turned v w u (turned u v w free))) m y z)))
          where
            g : IsFace t u v w
            g = is_face u v w free

            pick : ((u ≡ a) × (v ≡ b)) ⊎ ((u ≡ b) × (v ≡ a)) → HasBeside a b ⊎ HasBeside b a
            pick (inl e) = inl (w, subst₂ (λ i j. Free i j w) e.0 e.1 free)
            pick (inr e) = inr (w, subst₂ (λ i j. Free i j w) e.0 e.1 free)

        go : (u v w : ℕ) → Free u v w → Closed (vertex t u) (vertex t v) (vertex t w) x
            → Sign (bracket (vertex t u) (vertex t v) x)
            → Sign (bracket (vertex t v) (vertex t w) x)
            → Sign (bracket (vertex t w) (vertex t u) x) → HasBeside a b ⊎ HasBeside b a
        go u v w free closed (none z) q r = found u v w free closed z
        go u v w free closed p (none z) r =
            found v w u (turned u v w free) (closed-turned closed) z
        go u v w free closed p q (none z) =
            found w u v (turned v w u (turned u v w free)) (closed-turned (closed-turned closed)) z
        go u v w free closed (below p) q r = absurd (right_not_above p closed.first)
        go u v w free closed p (below q) r = absurd (right_not_above q closed.second)
        go u v w free closed p q (below r) = absurd (right_not_above r closed.third)
        go u v w free closed (above p) (above q) (above r) =
            absurd (side_not_inside (tiling t h) a b c u v w f (is_face u v w free) x
            (between-closed (vertex t a) (vertex t b) (vertex t c) x m
            (above_if_left _ _ _ (h.turning a b c f)))
            (between-on (vertex t a) (vertex t b) x m)
            (record { first = p; second = q; third = r }))
