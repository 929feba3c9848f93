-- Where the items that a segment meets begin, by the sides of an edge that it crosses.
-- Notions: Signs; above-same, edge_flipped, on_line, rising, begins_once, signs_of, met_if,
-- after_crossing, before_crossing, bare_inside.
use Rattle.std.proofs.Common.{◌≡◌, ℕ, arith, subst}
use mathlib.Core.Logic.{◌⊎◌, inl, inr}
use lib.IntN.{neg_ℤ}
use Rattle.std.specs.Prelude.{ℤ, pos, ◌<ℤ◌, ◌≤ℤ◌, ◌-ℤ◌, ◌*ℤ◌}
use Rattle.std.proofs.lemmas.Int.{ints}
use Rattle.plane.specs.{BeginsAt, Fraction, IsBefore, IsEdge, IsFace, IsNearer, IsPointOf, IsSame}
use Rattle.plane.specs.{IsVertexThenOverlap, Item, Meets, MeetsWithin, OnSegment, right, side}
use Rattle.plane.specs.{TilesHull, Triangulation, TurnsLeft, vertex}
use Rattle.plane.proofs.{AreOpposite, end_on_segment, if_right, left_not_below, left_not_zero}
use Rattle.plane.proofs.{mul-nonpos_of_nonneg_nonpos_ℤ, mul-pos_ℤ, neg-mul_ℤ, not_left_strict}
use Rattle.plane.proofs.{on_segment-same, opposite_of_negative, pos_of_mul-pos_ℤ, product_zero_left}
use Rattle.plane.proofs.{right_if, right_not_above, trichotomy_ℤ, weak, weak_right, zero_weak_left}
use Rattle.plane.proofs.Lines.{bracket_of_line}
use Rattle.plane.proofs.Meetings.{AreParted, meets_within_if, meets_within_is}
use Rattle.plane_theorems.proofs.Delaunay.Floods.Flooded.{edge_of, side_of_segment}
use Rattle.plane_theorems.proofs.Delaunay.Points.AlongSegment.{as_soon, later, order_along}
use Rattle.plane_theorems.proofs.Delaunay.Points.AlongSegment.{OrderAlong, sooner}
use Rattle.plane_theorems.proofs.Delaunay.Points.Bracket.{above_if_left, bracket, bracket-swapped}
use Rattle.plane_theorems.proofs.Delaunay.Points.Bracket.{left_if_above, meeting-w}
use Rattle.plane_theorems.proofs.{Delaunay.Points.Nudges.InOpen, Delaunay.Tilings.Ground.tiling}
use Rattle.plane_theorems.proofs.Delaunay.Tilings.Generic.{same_bracket}
use Rattle.plane_theorems.proofs.Delaunay.Tilings.Meets.{edge_outside}
use Rattle.plane_theorems.proofs.Delaunay.Tilings.Where.{vertex_not_inside}
use Rattle.plane_theorems.proofs.Segments.Items.Slopes.{later_is_higher, slope}
use Rattle.plane.specs.Line as L

-- ---- a number and its negative

-- one point is on one side
pub above-same : (u v y x : Fraction) → IsSame y x → pos 0 <ℤ bracket u v y → pos 0 <ℤ bracket u v x
above-same u v y x e h =
    pos_of_mul-pos_ℤ {k = y.w} {x = bracket u v x} y.positive (subst (λ n. pos 0 <ℤ n)
    (same_bracket u v y x e) (mul-pos_ℤ {a = x.w} {b = bracket u v y} x.positive h))

-- the ends of an edge can be named in either order
pub edge_flipped : (t : Triangulation) (i j : ℕ) → IsEdge t i j → IsEdge t j i
edge_flipped t i j (inl e) = inr e
edge_flipped t i j (inr e) = inl e

-- the bracket of a segment's ends and a point of it is 0
pub on_line : (a b x : Fraction) → OnSegment a b x → bracket a b x ≡ pos 0
unfolding bracket
on_line a b x m = bracket_of_line a b x (inl m)

-- the segment from p to q crosses the edge from a, on its left, to b, on its right, or ends on it
pub record Signs (p q a b : Fraction) : Type 0 where
  pub left : pos 0 <ℤ bracket p q a
  pub right : bracket p q b <ℤ pos 0
  pub start : bracket a b p ≤ℤ pos 0
  pub end : pos 0 ≤ℤ bracket a b q

-- then the side of that edge rises along the segment
pub rising : (p q a b : Fraction) → pos 0 <ℤ bracket p q a → bracket p q b <ℤ pos 0
    → pos 0 <ℤ slope a b p q
unfolding slope
rising p q a b l r = above (bracket a b q *ℤ p.w -ℤ bracket a b p *ℤ q.w) (bracket q p b)
    (bracket q p a) a.w b.w (bracket p q a) (bracket p q b) (meeting-w a b p q)
    (bracket-swapped p q b) (bracket-swapped p q a) l r a.positive b.positive
  where
    above : (s x y aw bw l r : ℤ) → s ≡ x *ℤ aw -ℤ y *ℤ bw → x ≡ neg_ℤ r → y ≡ neg_ℤ l → pos 0 <ℤ l
        → r <ℤ pos 0 → pos 0 <ℤ aw → pos 0 <ℤ bw → pos 0 <ℤ s
    above s x y aw bw l r e d c hl hr ha hb =
        let m = mul-pos_ℤ {a = x} {b = aw} (omega (arith, ints)) ha in
        let n = mul-pos_ℤ {a = neg_ℤ y} {b = bw} (omega (arith, ints)) hb in
        let o : neg_ℤ y *ℤ bw ≡ neg_ℤ (y *ℤ bw) = neg-mul_ℤ y bw in
        omega (arith, ints)

module _ (t : Triangulation) (p q : Fraction) (apart : ¬ IsSame p q) where
  -- an item begins at one point
  pub begins_once : (m : Item) (x y : Fraction) → BeginsAt t p q m x
      → BeginsAt t p q m y → IsSame x y
  begins_once m x y bx by = go (order_along p q apart x y bx.shared by.shared)
    where
      go : OrderAlong p x y → IsSame x y
      go (sooner n) = absurd (by.first x bx.shared bx.of_item n)
      go (as_soon s) = s
      go (later n) = absurd (bx.first y by.shared by.of_item n)

  -- a crossed edge, by signs
  pub signs_of : (a b : ℕ) → ¬ IsSame (vertex t a) (vertex t b) → Meets t p q (L.across a b)
      → Signs p q (vertex t a) (vertex t b)
  unfolding bracket slope
  signs_of a b two m = go ((meets_within_is p q (vertex t a) (vertex t b) apart two).0 m.1) m.2
    where
      A : Fraction
      A = vertex t a

      B : Fraction
      B = vertex t b

      ends : AreParted (bracket A B p) (bracket A B q)
          → TurnsLeft A B q ⊎ (OnSegment A B q × (side A B p ≡ right))
          → (bracket A B p ≤ℤ pos 0) × (pos 0 ≤ℤ bracket A B q) × (pos 0 <ℤ slope A B p q)
      ends (inl h) (inl l) = (
        h.0,
        h.1,
        rise (bracket A B q) (bracket A B p) p.w q.w
            (above_if_left A B q l) h.0 p.positive q.positive,
      )
        where
          rise : (f g pw qw : ℤ) → pos 0 <ℤ f → g ≤ℤ pos 0 → pos 0 <ℤ pw → pos 0 <ℤ qw
              → pos 0 <ℤ (f *ℤ pw -ℤ g *ℤ qw)
          rise f g pw qw hf hg hp hq = let m = mul-pos_ℤ {a = f} {b = pw} hf hp in
              let n = mul-nonpos_of_nonneg_nonpos_ℤ {a = qw} {b = g} (weak hq) hg in
              let c = lib.IntN.*ℤ_comm g qw in omega (arith, ints)
      ends (inr h) (inl l) = absurd (left_not_below (above_if_left A B q l) h.1)
      ends o (inr k) = let on = on_line A B q k.0 in let r = if_right A B p k.1 in (
        weak_right r,
        zero_weak_left on,
        fall (bracket A B q) (bracket A B p) p.w q.w on r p.positive q.positive,
      )
        where
          fall : (f g pw qw : ℤ) → f ≡ pos 0 → g <ℤ pos 0 → pos 0 <ℤ pw → pos 0 <ℤ qw
              → pos 0 <ℤ (f *ℤ pw -ℤ g *ℤ qw)
          fall f g pw qw e hg hp hq = let m = product_zero_left {a = f} pw e in
              let n = mul-pos_ℤ {a = neg_ℤ g} {b = qw} (omega (arith, ints)) hq in
              let c = neg-mul_ℤ g qw in omega (arith, ints)

      go : AreOpposite (bracket p q A) (bracket p q B) × AreParted (bracket A B p) (bracket A B q)
          → TurnsLeft A B q ⊎ (OnSegment A B q × (side A B p ≡ right)) → Signs p q A B
      go (inr o, d) w = let e = ends d w in
          record { left = o.0; right = o.1; start = e.0; end = e.1 }
      go (inl o, d) w = absurd (against (slope A B p q) (ends d w).2)
        where
          against : (s : ℤ) → pos 0 <ℤ slope A B p q → ⊥
          against s h = wrong (bracket A B q *ℤ p.w -ℤ bracket A B p *ℤ q.w) (bracket q p B)
              (bracket q p A) A.w B.w (bracket p q A) (bracket p q B) (meeting-w A B p q)
              (bracket-swapped p q B) (bracket-swapped p q A) o.0 o.1 A.positive B.positive h
            where
              wrong : (s x y aw bw l r : ℤ) → s ≡ x *ℤ aw -ℤ y *ℤ bw → x ≡ neg_ℤ r → y ≡ neg_ℤ l
                  → l <ℤ pos 0 → pos 0 <ℤ r → pos 0 <ℤ aw → pos 0 <ℤ bw → pos 0 <ℤ s → ⊥
              wrong s x y aw bw l r e d c hl hr ha hb hs =
                  let m = mul-pos_ℤ {a = neg_ℤ x} {b = aw} (omega (arith, ints)) ha in
                  let n = mul-pos_ℤ {a = y} {b = bw} (omega (arith, ints)) hb in
                  let o : neg_ℤ x *ℤ aw ≡ neg_ℤ (x *ℤ aw) = neg-mul_ℤ x aw in
                  omega (arith, ints)

  -- an edge whose ends are on both sides, and which the segment reaches, is crossed
  pub met_if : (a b : ℕ) → IsEdge t a b → Signs p q (vertex t a) (vertex t b)
      → Meets t p q (L.across a b)
  unfolding bracket slope
  met_if a b e s = (e, met, go (trichotomy_ℤ (bracket A B q)))
    where
      A : Fraction
      A = vertex t a

      B : Fraction
      B = vertex t b

      met : MeetsWithin p q A B
      met = meets_within_if p q A B (inr (s.left, s.right)) (inl (s.start, s.end))

      up : pos 0 <ℤ slope A B p q
      up = rising p q A B s.left s.right

      at_end : bracket A B q ≡ pos 0 → OnSegment A B q
      at_end z = pick (order_along p q apart met.at q met.meet.first (end_on_segment p q))
        where
          pick : OrderAlong p met.at q → OnSegment A B q
          pick (sooner n) =
              absurd (left_not_zero (later_is_higher p q apart A B met.at q met.meet.first
              (end_on_segment p q) n up (zero_weak_left (on_line A B met.at met.meet.second))) z)
          pick (as_soon i) = on_segment-same A B met.at q i met.meet.second
          pick (later n) =
              absurd (left_not_zero (later_is_higher p q apart A B q met.at (end_on_segment p q)
              met.meet.first n up (zero_weak_left z)) (on_line A B met.at met.meet.second))

      before : bracket A B q ≡ pos 0 → bracket A B p <ℤ pos 0
      before z = low (bracket A B q) (bracket A B p) p.w q.w z q.positive s.start up
        where
          low : (f g pw qw : ℤ) → f ≡ pos 0 → pos 0 <ℤ qw → g ≤ℤ pos 0
              → pos 0 <ℤ (f *ℤ pw -ℤ g *ℤ qw) → g <ℤ pos 0
          low f g pw qw e hq hg h =
              not_left_strict hg (λ d. let m = product_zero_left {a = f} pw e in
              let n = product_zero_left {a = g} qw d in omega (arith, ints))

      go : (bracket A B q <ℤ pos 0) ⊎ ((bracket A B q ≡ pos 0) ⊎ (pos 0 <ℤ bracket A B q))
          → TurnsLeft A B q ⊎ (OnSegment A B q × (side A B p ≡ right))
      go (inl h) = absurd (right_not_above h s.end)
      go (inr (inl h)) = inr (at_end h, right_if A B p (before h))
      go (inr (inr h)) = inl (left_if_above A B q h)

  -- what comes after a crossed edge begins on its left
  pub after_crossing : (a b : ℕ) → Signs p q (vertex t a) (vertex t b)
      → (k : Item) (o : IsBefore t p q (L.across a b) k)
      → pos 0 <ℤ bracket (vertex t a) (vertex t b) o.second
  after_crossing a b s k o = go o.order
    where
      go : IsNearer p o.first o.second
          ⊎ (IsSame o.first o.second × IsVertexThenOverlap (L.across a b) k)
          → pos 0 <ℤ bracket (vertex t a) (vertex t b) o.second
      go (inl n) =
          later_is_higher p q apart (vertex t a) (vertex t b) o.first o.second o.first_begins.shared
          o.second_begins.shared n (rising p q (vertex t a) (vertex t b) s.left s.right)
          (zero_weak_left (on_line (vertex t a) (vertex t b) o.first o.first_begins.of_item))
      go (inr w) = absurd w.1

  -- and what comes before it, on its right
  pub before_crossing : (a b : ℕ) → Signs p q (vertex t a) (vertex t b)
      → (k : Item) (o : IsBefore t p q k (L.across a b))
      → pos 0 <ℤ bracket (vertex t b) (vertex t a) o.first
  before_crossing a b s k o = go k o.order
    where
      near : IsNearer p o.first o.second → pos 0 <ℤ bracket (vertex t b) (vertex t a) o.first
      near n = pick (trichotomy_ℤ (bracket (vertex t a) (vertex t b) o.first))
        where
          on : bracket (vertex t a) (vertex t b) o.second ≡ pos 0
          on = on_line (vertex t a) (vertex t b) o.second o.second_begins.of_item

          not_high : ¬ (pos 0 ≤ℤ bracket (vertex t a) (vertex t b) o.first)
          not_high h = left_not_zero (later_is_higher p q apart (vertex t a)
              (vertex t b) o.first o.second o.first_begins.shared o.second_begins.shared n
              (rising p q (vertex t a) (vertex t b) s.left s.right) h) on

          pick : (bracket (vertex t a) (vertex t b) o.first <ℤ pos 0)
              ⊎ ((bracket (vertex t a) (vertex t b) o.first ≡ pos 0)
              ⊎ (pos 0 <ℤ bracket (vertex t a) (vertex t b) o.first))
              → pos 0 <ℤ bracket (vertex t b) (vertex t a) o.first
          pick (inl h) =
              opposite_of_negative _ _ (bracket-swapped (vertex t a) (vertex t b) o.first) h
          pick (inr (inl h)) = absurd (not_high (zero_weak_left h))
          pick (inr (inr h)) = absurd (not_high (weak h))

      go : (k : Item) → IsNearer p o.first o.second
          ⊎ (IsSame o.first o.second × IsVertexThenOverlap k (L.across a b))
          → pos 0 <ℤ bracket (vertex t b) (vertex t a) o.first
      go k (inl n) = near n
      go (L.at_vertex i) (inr w) = absurd w.1
      go (L.across i j) (inr w) = absurd w.1
      go (L.along i j) (inr w) = absurd w.1

-- no item has a point strictly inside a face
pub bare_inside : (t : Triangulation) (h : TilesHull t) (p q : Fraction) (m : Item) → Meets t p q m
    → (z : Fraction) → IsPointOf t m z → (i j k : ℕ) → IsFace t i j k
    → ¬ InOpen (vertex t i) (vertex t j) (vertex t k) z
unfolding tiling
bare_inside t h p q (L.at_vertex n) met z s i j k f inside =
    vertex_not_inside (tiling t h) n i j k met.0 f (record {
      first = above-same _ _ z (vertex t n) s inside.first;
      second = above-same _ _ z (vertex t n) s inside.second;
      third = above-same _ _ z (vertex t n) s inside.third;
    })
bare_inside t h p q (L.across a b) met z s i j k f inside =
    edge_outside (tiling t h) a b i j k z (edge_of t h a b met.0) f (side_of_segment _ _ z s) inside
bare_inside t h p q (L.along a b) met z s i j k f inside =
    edge_outside (tiling t h) a b i j k z (edge_of t h a b met.0) f (side_of_segment _ _ z s) inside
