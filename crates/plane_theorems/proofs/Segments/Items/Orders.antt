-- The order of the items that a segment meets: none is before itself, and what is before what is
-- before is before.
-- Lemmas: through, through_weak, nearer_through, nearer-same_first, nearer-same_second,
-- not_both_before, before_through.
use Rattle.std.proofs.Common.{◌≡◌, arith}
use mathlib.Core.Logic.{◌⊎◌, inl, inr}
use Rattle.std.specs.Prelude.{ℤ, pos, ◌<ℤ◌, ◌≤ℤ◌, ◌*ℤ◌}
use Rattle.std.proofs.lemmas.Int.{ints}
use Rattle.plane.specs.{Fraction, IsBefore, IsNearer, IsSame, IsVertexThenOverlap, Item, OnSegment}
use Rattle.{plane.specs.Triangulation, plane_theorems.proofs.Segments.Items.Begins.begins_once}
use Rattle.plane.proofs.{lt_of_mul-lt-mul_ℤ, mul-le-mul_ℤ, mul-lt-mul_ℤ, reach, same-sym}
use Rattle.plane.proofs.{Centre.swap_first, same-trans, same_not_nearer, weak}
use Rattle.plane_theorems.proofs.Delaunay.Points.AlongSegment.{as_soon, later, nearer_if}
use Rattle.plane_theorems.proofs.Delaunay.Points.AlongSegment.{not_both_nearer, order_along}
use Rattle.plane_theorems.proofs.Delaunay.Points.AlongSegment.{OrderAlong, reach_less, sooner}
use Rattle.plane.specs.Line as L

-- a / u, b / v and c / w rise
pub through : (a u b v c w : ℤ) → (a *ℤ v) <ℤ (b *ℤ u) → (b *ℤ w) <ℤ (c *ℤ v) → pos 0 <ℤ u
    → pos 0 <ℤ v → pos 0 <ℤ w → (a *ℤ w) <ℤ (c *ℤ u)
through a u b v c w h k hu hv hw = lt_of_mul-lt-mul_ℤ {k = v} hv (chain (mul-lt-mul_ℤ {k = w} hw h)
    (mul-lt-mul_ℤ {k = u} hu k) (swap_first v a w) (swap_first w b u) (swap_first v c u))
  where
    chain : {x y z x' y' z' : ℤ} → x <ℤ y → y' <ℤ z → x' ≡ x → y ≡ y' → z' ≡ z → x' <ℤ z'
    chain h k e d c = omega (arith, ints)

-- where a / u is at most b / v, and b / v is below c / w, a / u is below c / w
pub through_weak : (a u b v c w : ℤ) → (a *ℤ v) ≤ℤ (b *ℤ u) → (b *ℤ w) <ℤ (c *ℤ v) → pos 0 <ℤ u
    → pos 0 <ℤ v → pos 0 <ℤ w → (a *ℤ w) <ℤ (c *ℤ u)
through_weak a u b v c w h k hu hv hw =
    lt_of_mul-lt-mul_ℤ {k = v} hv (chain (mul-le-mul_ℤ {k = w} (weak hw) h)
    (mul-lt-mul_ℤ {k = u} hu k) (swap_first v a w) (swap_first w b u) (swap_first v c u))
  where
    chain : {x y z x' y' z' : ℤ} → x ≤ℤ y → y' <ℤ z → x' ≡ x → y ≡ y' → z' ≡ z → x' <ℤ z'
    chain h k e d c = omega (arith, ints)

module _ (p q : Fraction) (apart : ¬ IsSame p q) where
  -- of three points of the segment the order passes on
  pub nearer_through : (x y z : Fraction) → OnSegment p q x → OnSegment p q y → OnSegment p q z
      → IsNearer p x y → IsNearer p y z → IsNearer p x z
  nearer_through x y z hx hy hz h k = nearer_if p q apart x z hx hz (through (reach p q x) x.w
      (reach p q y) y.w (reach p q z) z.w (reach_less p q apart x y hx hy h)
      (reach_less p q apart y z hy hz k) x.positive y.positive z.positive)

  -- the same point in the first place has the same order
  pub nearer-same_first : (x x' y : Fraction) → OnSegment p q x → OnSegment p q x' → OnSegment p q y
      → IsSame x x' → IsNearer p x y → IsNearer p x' y
  nearer-same_first x x' y hx hx' hy e h = go (order_along p q apart x' y hx' hy)
    where
      go : OrderAlong p x' y → IsNearer p x' y
      go (sooner n) = n
      go (as_soon s) = absurd (same_not_nearer p x y (same-trans x x' y e s) h)
      go (later n) = absurd (same_not_nearer p x x' e (nearer_through x y x' hx hy hx' h n))

  -- the same point in the second place has the same order
  pub nearer-same_second : (x y y' : Fraction) → OnSegment p q x → OnSegment p q y
      → OnSegment p q y' → IsSame y y' → IsNearer p x y → IsNearer p x y'
  nearer-same_second x y y' hx hy hy' e h = go (order_along p q apart x y' hx hy')
    where
      go : OrderAlong p x y' → IsNearer p x y'
      go (sooner n) = n
      go (as_soon s) = absurd (same_not_nearer p x y (same-trans x y' y s (same-sym y y' e)) h)
      go (later n) =
          absurd (same_not_nearer p y' y (same-sym y y' e) (nearer_through y' x y hy' hx hy n h))

module _ (t : Triangulation) (p q : Fraction) (apart : ¬ IsSame p q) where
  vertex_or_overlap : (m n : Item) → IsVertexThenOverlap m n → ¬ IsVertexThenOverlap n m
  vertex_or_overlap (L.at_vertex i) (L.along j k) w v = v
  vertex_or_overlap (L.at_vertex i) (L.at_vertex j) w v = w
  vertex_or_overlap (L.at_vertex i) (L.across j k) w v = w
  vertex_or_overlap (L.across i j) n w v = w
  vertex_or_overlap (L.along i j) n w v = w

  vertex_and_overlap : (m n k : Item) → IsVertexThenOverlap m n → ¬ IsVertexThenOverlap n k
  vertex_and_overlap (L.at_vertex i) (L.along j k) l w v = v
  vertex_and_overlap (L.at_vertex i) (L.at_vertex j) l w v = w
  vertex_and_overlap (L.at_vertex i) (L.across j k) l w v = w
  vertex_and_overlap (L.across i j) n l w v = w
  vertex_and_overlap (L.along i j) n l w v = w

  -- no two items are each before the other
  pub not_both_before : (m n : Item) → IsBefore t p q m n → ¬ IsBefore t p q n m
  not_both_before m n o r = go o.order r.order
    where
      y_same : IsSame r.first o.second
      y_same = begins_once t p q apart n r.first o.second r.first_begins o.second_begins

      x_same : IsSame r.second o.first
      x_same = begins_once t p q apart m r.second o.first r.second_begins o.first_begins

      go : IsNearer p o.first o.second ⊎ (IsSame o.first o.second × IsVertexThenOverlap m n)
          → IsNearer p r.first r.second ⊎ (IsSame r.first r.second × IsVertexThenOverlap n m) → ⊥
      go (inl h) (inl k) = not_both_nearer p q apart o.first o.second h
          (nearer-same_second p q apart o.second r.second o.first o.second_begins.shared
          r.second_begins.shared o.first_begins.shared x_same
          (nearer-same_first p q apart r.first o.second r.second r.first_begins.shared
          o.second_begins.shared r.second_begins.shared y_same k))
      go (inl h) (inr k) = same_not_nearer p o.first o.second
          (same-sym o.second o.first (same-trans o.second r.first o.first
          (same-sym r.first o.second y_same) (same-trans r.first r.second o.first k.0 x_same))) h
      go (inr h) (inl k) = same_not_nearer p r.first r.second
          (same-trans r.first o.second r.second y_same (same-trans o.second o.first r.second
          (same-sym o.first o.second h.0) (same-sym r.second o.first x_same))) k
      go (inr h) (inr k) = vertex_or_overlap m n h.1 k.1

  -- the order of items passes on
  pub before_through : (m n k : Item) → IsBefore t p q m n → IsBefore t p q n k → IsBefore t p q m k
  before_through m n k o r = record {
    first = o.first;
    second = r.second;
    first_begins = o.first_begins;
    second_begins = r.second_begins;
    order = inl (go o.order r.order);
  }
    where
      same : IsSame o.second r.first
      same = begins_once t p q apart n o.second r.first o.second_begins r.first_begins

      go : IsNearer p o.first o.second ⊎ (IsSame o.first o.second × IsVertexThenOverlap m n)
          → IsNearer p r.first r.second ⊎ (IsSame r.first r.second × IsVertexThenOverlap n k)
          → IsNearer p o.first r.second
      go (inl h) (inl l) = nearer_through p q apart o.first r.first r.second o.first_begins.shared
          r.first_begins.shared r.second_begins.shared
          (nearer-same_second p q apart o.first o.second r.first o.first_begins.shared
          o.second_begins.shared r.first_begins.shared same h) l
      go (inl h) (inr l) = nearer-same_second p q apart o.first o.second r.second
          o.first_begins.shared o.second_begins.shared r.second_begins.shared
          (same-trans o.second r.first r.second same l.0) h
      go (inr h) (inl l) = nearer-same_first p q apart r.first o.first r.second
          r.first_begins.shared o.first_begins.shared r.second_begins.shared
          (same-sym o.first r.first (same-trans o.first o.second r.first h.0 same)) l
      go (inr h) (inr l) = absurd (vertex_and_overlap m n k h.1 l.1)
