-- A face that a segment enters is free: an end is strictly inside, or a side of the face is
-- crossed.
-- Notions: IsCoveredFree, FreeAtItems; entered_is_free.
use Rattle.std.proofs.Common.{◌≡◌, ℕ, arith, ap, sym, ◌∙◌, subst}
use mathlib.Core.Logic.{◌⊎◌, inl, inr}
use Rattle.std.specs.Prelude.{◌≢◌, ℤ, pos, ◌<ℤ◌, ◌≤ℤ◌, ◌+ℤ◌, ◌*ℤ◌}
use Rattle.std.proofs.lemmas.Int.{ints}
use Rattle.plane.specs.{Fraction, IsFace, IsSame, left, Meets, OnSegment, side, TilesHull}
use Rattle.plane.proofs.{drop_zero_last, left_not_below, mul-neg_of_pos_neg_ℤ, mul-pos_ℤ}
use Rattle.plane.proofs.{neg_of_mul-neg_ℤ, negated_left, negated_right, not_positive_or_positive}
use Rattle.plane.proofs.{opposite_of_not_positive, pos-ne-zero_ℤ, pos_of_mul-pos_ℤ, same-sym}
use Rattle.plane.proofs.{trichotomy_ℤ, turned_face, weak, weak_right, zero-mul_ℤ}
use Rattle.{plane.proofs.zero_of_mul-zero_ℤ, plane.specs.Triangulation, plane.specs.vertex}
use Rattle.plane_theorems.proofs.Delaunay.Floods.Flooded.{side_of_segment}
use Rattle.plane_theorems.proofs.Delaunay.Points.Bracket.{above_if_left, bracket, bracket-first}
use Rattle.plane_theorems.proofs.Delaunay.Points.Bracket.{bracket-swapped, bracket-turned, cramer}
use Rattle.plane_theorems.proofs.Delaunay.Points.Nudges.{Closed, InOpen, inside-turned}
use Rattle.plane_theorems.proofs.Delaunay.Segments.LineItems.{same_place, turned_segment}
use Rattle.plane_theorems.proofs.Delaunay.Tilings.Faces.{Between, between-on, between-swapped}
use Rattle.plane_theorems.proofs.Delaunay.Tilings.Faces.{turned-above}
use Rattle.plane_theorems.proofs.Delaunay.Tilings.Ground.{triangle_of_inside}
use Rattle.plane_theorems.proofs.Delaunay.Tilings.Meets.{at_first, at_second, Place, place_of}
use Rattle.plane_theorems.proofs.{Delaunay.Tilings.Meets.within, Segments.Items.Slopes.left_before}
use Rattle.plane_theorems.proofs.Segments.First.FaceStarts.{ends_inside, first_from_a_face}
use Rattle.plane_theorems.proofs.Segments.Items.Begins.{above-same, met_if}
use Rattle.plane_theorems.proofs.{Segments.Items.SideSigns.not_left, Sight.SharedPoints.decide_same}
use Rattle.plane_theorems.proofs.Sight.Coverings.{free_beside, free_where_shared, HasBeside}
use Rattle.plane.specs.Line as L

-- ---- sides seen from a point strictly within a segment
-- towards its end a side has the sign that it has along the segment
to_end : (p q z x : Fraction) (m : Between p q z)
    → m.n *ℤ bracket z q x ≡ m.k *ℤ bracket p q x
to_end p q z x m = scaled m.n m.k m.l (bracket z q x) (bracket q x z) (bracket p q x)
    (bracket q x p) (bracket q x q) (bracket-turned z q x) (bracket-turned p q x)
    (bracket-first q x) (m.along q x)
  where
    scaled : (n k l zq z' pq p' q' : ℤ) → z' ≡ zq → p' ≡ pq → q' ≡ pos 0
        → n *ℤ z' ≡ k *ℤ p' +ℤ l *ℤ q' → n *ℤ zq ≡ k *ℤ pq
    scaled n k l zq z' pq p' q' e d c s =
        ap (λ i. n *ℤ i) (sym e)
        ∙ drop_zero_last (n *ℤ z') (k *ℤ p') (l *ℤ q') s (zero-mul_ℤ l c)
        ∙ ap (λ i. k *ℤ i) d

positive_scaled : (n k x y : ℤ) → pos 0 <ℤ n → pos 0 <ℤ k → n *ℤ x ≡ k *ℤ y → pos 0 <ℤ y
    → pos 0 <ℤ x
positive_scaled n k x y hn hk e h = pos_of_mul-pos_ℤ {k = n} {x = x} hn
    (subst (λ s. pos 0 <ℤ s) (sym e) (mul-pos_ℤ {a = k} {b = y} hk h))

negative_scaled : (n k x y : ℤ) → pos 0 <ℤ n → pos 0 <ℤ k → n *ℤ x ≡ k *ℤ y → y <ℤ pos 0
    → x <ℤ pos 0
negative_scaled n k x y hn hk e h =
    neg_of_mul-neg_ℤ {k = n} {x = x} hn
    (subst (λ s. s <ℤ pos 0) (sym e)
    (mul-neg_of_pos_neg_ℤ {a = k} {b = y} hk h))

zero_scaled : (n k x y : ℤ) → pos 0 <ℤ n → n *ℤ x ≡ k *ℤ y → y ≡ pos 0 → x ≡ pos 0
zero_scaled n k x y hn e h = zero_of_mul-zero_ℤ {k = n} {x = x}
    (pos-ne-zero_ℤ hn) (e ∙ zero-mul_ℤ k h)

-- of three numbers that have sum 0 under positive weights, one 0 and one positive, the third is
-- negative
third_below : (d s x y z a b c : ℤ) → d *ℤ s ≡ x *ℤ a +ℤ y *ℤ b +ℤ z *ℤ c → s ≡ pos 0 → a ≡ pos 0
    → pos 0 <ℤ y → pos 0 <ℤ b → pos 0 <ℤ z → c <ℤ pos 0
third_below d s x y z a b c e hs ha hy hb hz =
    neg_of_mul-neg_ℤ {k = z} {x = c} hz
    (low (d *ℤ s) (x *ℤ a) (y *ℤ b) (z *ℤ c) e (zero-mul_ℤ d hs) (zero-mul_ℤ x ha)
    (mul-pos_ℤ {a = y} {b = b} hy hb))
  where
    low : (s a b c : ℤ) → s ≡ a +ℤ b +ℤ c → s ≡ pos 0 → a ≡ pos 0 → pos 0 <ℤ b → c <ℤ pos 0
    low s a b c e h k l = omega (arith, ints)

module _ (t : Triangulation) (h : TilesHull t) (Free : ℕ → ℕ → ℕ → Type 0)
    (is_face : (i j k : ℕ) → Free i j k → IsFace t i j k)
    (turned : (i j k : ℕ) → Free i j k → Free j k i) where
  -- a point of a closed free face
  pub record IsCoveredFree (x : Fraction) : Type 0 where
    pub a : ℕ
    pub b : ℕ
    pub c : ℕ
    pub is_free : Free a b c
    pub closed : Closed (vertex t a) (vertex t b) (vertex t c) x

  -- the faces at the items of a segment are free
  pub record FreeAtItems (p q : Fraction) : Type 0 where
    pub start : IsCoveredFree p
    pub end : IsCoveredFree q
    pub entered : (a b : ℕ) → Meets t p q (L.across a b)
        → pos 0 <ℤ bracket (vertex t a) (vertex t b) q → HasBeside t h Free is_face turned a b
    pub left_behind : (a b : ℕ) → Meets t p q (L.across a b)
        → bracket (vertex t a) (vertex t b) p <ℤ pos 0 → HasBeside t h Free is_face turned b a
    pub along : (a b : ℕ) → Meets t p q (L.along a b)
        → HasBeside t h Free is_face turned a b ⊎ HasBeside t h Free is_face turned b a

  module _ (p q : Fraction) (apart : ¬ IsSame p q) (items : FreeAtItems p q) (z : Fraction)
      (on : OnSegment p q z) where
    -- a face with a covered point strictly inside is free
    inside_free : (a b c : ℕ) (x : Fraction) → IsFace t a b c → IsCoveredFree x
        → InOpen (vertex t a) (vertex t b) (vertex t c) x → Free a b c
    inside_free a b c x f o i =
        free_where_shared t h Free is_face turned a b c o.a o.b o.c f o.is_free x i o.closed

    from_beside : (a b c : ℕ) → IsFace t a b c → HasBeside t h Free is_face turned a b → Free a b c
    from_beside a b c f s = free_beside t h Free is_face turned a b c s.0 f s.1

    at_place : (x : Fraction) (a b c : ℕ) → IsSame x z → IsCoveredFree x → IsFace t a b c
        → InOpen (vertex t a) (vertex t b) (vertex t c) z → Free a b c
    at_place x a b c e o f i =
        let s = same-sym x z e in
        inside_free a b c x f o (record {
          first = above-same (vertex t a) (vertex t b) z x s i.first;
          second = above-same (vertex t b) (vertex t c) z x s i.second;
          third = above-same (vertex t c) (vertex t a) z x s i.third;
        })

    module _ (zp : ¬ IsSame z p) (zq : ¬ IsSame z q) (m : Between p q z) where
      -- the side from a to b starts not on the left of the segment and ends there
      by_side : (a b c : ℕ) → IsFace t a b c → InOpen (vertex t a) (vertex t b) (vertex t c) z
          → bracket z q (vertex t a) ≤ℤ pos 0 → pos 0 <ℤ bracket z q (vertex t b) → Free a b c
      by_side a b c f i low high = go (not_positive_or_positive (bracket A B q))
        where
          A : Fraction
          A = vertex t a

          B : Fraction
          B = vertex t b

          C : Fraction
          C = vertex t c

          turning : pos 0 <ℤ bracket A B C
          turning = above_if_left A B C (h.turning a b c f)

          high_along : pos 0 <ℤ bracket p q B
          high_along = positive_scaled m.k m.n (bracket p q B) (bracket z q B) m.k_above m.n_above
              (sym (to_end p q z B m)) high

          crossed : bracket A B q ≤ℤ pos 0 → bracket z q A <ℤ pos 0 → Free a b c
          crossed past down =
              let started = left_before p q apart A B z on i.first past in
              let start = negated_right (bracket-swapped A B p) started in
              from_beside a b c f (items.left_behind b a
              (met_if t p q apart b a ((h.sides b a).1 (inr (c, f))) (record {
                left = high_along;
                right = negative_scaled m.k m.n (bracket p q A) (bracket z q A) m.k_above m.n_above
                    (sym (to_end p q z A m)) down;
                start = weak_right start;
                end = opposite_of_not_positive _ _ (bracket-swapped A B q) past;
              })) start)

          -- through the corner a: backwards to p
          back : bracket z q A ≡ pos 0 → Free a b c
          back level = turned c a b (turned b c a (pick (not_positive_or_positive (bracket B C p))))
            where
              level_along : bracket p q A ≡ pos 0
              level_along = zero_scaled m.k m.n (bracket p q A) (bracket z q A) m.k_above
                  (sym (to_end p q z A m)) level

              down_along : bracket p q C <ℤ pos 0
              down_along = third_below (bracket A B C) (bracket p q z) (bracket B C z)
                  (bracket C A z) (bracket A B z) (bracket p q A) (bracket p q B) (bracket p q C)
                  (cramer A B C z p q) (between-on p q z m) level_along i.third high_along i.first

              opposite : Between q p z
              opposite = between-swapped p q z m

              face_next : IsFace t b c a
              face_next = turned_face t a b c f

              pick : (bracket B C p ≤ℤ pos 0) ⊎ (pos 0 <ℤ bracket B C p) → Free b c a
              pick (inr up) = inside_free b c a p face_next items.start (ends_inside z p zp B C A
                  (turned-above A B C turning) (inside-turned i)
                  (weak_right (negative_scaled opposite.n opposite.k (bracket z p B) (bracket q p B)
                  opposite.n_above opposite.k_above (to_end q p z B opposite)
                  (negated_right (bracket-swapped p q B) high_along)))
                  (positive_scaled opposite.n opposite.k (bracket z p C) (bracket q p C)
                  opposite.n_above opposite.k_above (to_end q p z C opposite)
                  (negated_left (bracket-swapped p q C) down_along)) up)
              pick (inl under) =
                  let end = left_before q p (λ e. apart (same-sym q p
                  e)) B C z (turned_segment p q z on) i.second under in
                  from_beside b c a face_next (items.entered b c
                  (met_if t p q apart b c ((h.sides b c).1 (inl (a, face_next))) (record {
                    left = high_along;
                    right = down_along;
                    start = under;
                    end = weak end;
                  })) end)

          go : (bracket A B q ≤ℤ pos 0) ⊎ (pos 0 <ℤ bracket A B q) → Free a b c
          go (inr up) = inside_free a b c q f items.end (ends_inside z q zq A B C turning i low high
              up)
          go (inl past) = split (trichotomy_ℤ (bracket z q A))
            where
              split : (bracket z q A <ℤ pos 0) ⊎ ((bracket z q A ≡ pos 0)
                  ⊎ (pos 0 <ℤ bracket z q A)) → Free a b c
              split (inl down) = crossed past down
              split (inr (inl level)) = back level
              split (inr (inr up)) = absurd (left_not_below up low)

      strictly : (a b c : ℕ) → IsFace t a b c → InOpen (vertex t a) (vertex t b) (vertex t c) z
          → Free a b c
      strictly a b c f i = go (first_from_a_face t h z q zq a b c f
          (triangle_of_inside _ _ _ z (h.turning a b c f) i)).1
        where
          at : (a b c : ℕ) → IsFace t a b c → InOpen (vertex t a) (vertex t b) (vertex t c) z
              → side z q (vertex t a) ≢ left → side z q (vertex t b) ≡ left → Free a b c
          at a b c f i low high = by_side a b c f i (not_left z q (vertex t a) low)
              (above_if_left z q (vertex t b) high)

          next : (a b c : ℕ) → IsFace t a b c → IsFace t b c a
          next a b c f = turned_face t a b c f

          go : ((side z q (vertex t a) ≢ left) × (side z q (vertex t b) ≡ left)) ⊎
              (((side z q (vertex t b) ≢ left) × (side z q (vertex t c) ≡ left)) ⊎
              ((side z q (vertex t c) ≢ left) × (side z q (vertex t a) ≡ left))) → Free a b c
          go (inl s) = at a b c f i s.0 s.1
          go (inr (inl s)) =
              turned c a b (turned b c a (at b c a (next a b c f) (inside-turned i) s.0 s.1))
          go (inr (inr s)) = turned c a b (at c a b (next b c a (next a b c f))
              (inside-turned (inside-turned i)) s.0 s.1)

    -- a face that has a point of the segment strictly inside is free
    pub entered_is_free : (a b c : ℕ) → IsFace t a b c
        → InOpen (vertex t a) (vertex t b) (vertex t c) z → Free a b c
    entered_is_free a b c f i =
        go (decide_same z p)
        (decide_same z q)
      where
        go : IsSame z p ⊎ (¬ IsSame z p) → IsSame z q ⊎ (¬ IsSame z q) → Free a b c
        go (inl e) d = at_place p a b c (same-sym z p e) items.start f i
        go (inr n) (inl e) = at_place q a b c (same-sym z q e) items.end f i
        go (inr n) (inr k) = placed (place_of p q z (side_of_segment p q z on))
          where
            placed : Place p q z → Free a b c
            placed (at_first s) = absurd (n (same-sym p z (same_place p z s)))
            placed (at_second s) = absurd (k (same-sym q z (same_place q z s)))
            placed (within m) = strictly n k m a b c f i
