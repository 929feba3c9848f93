-- What a segment meets next after an edge that it overlaps: the vertex at its end, or nothing.
-- Notions: A, B; next_at_end, last_before_end, reaches_end, next_unless_within, last_within.
use Rattle.std.proofs.Common.{◌≡◌, ℕ, arith, subst, subst₂}
use mathlib.Core.Logic.{◌⊎◌, inl, inr}
use Rattle.std.specs.Prelude.{ℤ, pos, ◌<ℤ◌, ◌≤ℤ◌, ◌*ℤ◌}
use Rattle.std.proofs.lemmas.Int.{ints}
use Rattle.plane.specs.{BeginsAt, Fraction, IsBefore, IsNearer, IsPointOf, IsSame}
use Rattle.plane.specs.{IsVertexThenOverlap, Item, Meets, OnSegment, Triangulation, vertex}
use Rattle.{plane.specs.WithinSegment, plane_theorems.specs.ComesNext, plane_theorems.specs.IsLast}
use Rattle.plane.proofs.{at_most_and_more, at_most_both_ways, difference_is_positive}
use Rattle.plane.proofs.{differences_both_positive, end_on_segment, lt_or_ge_ℤ, mul-nonneg_ℤ}
use Rattle.plane.proofs.{nonneg_of_mul-nonneg_ℤ, on_of_within, on_segment_is, reach, same-refl}
use Rattle.plane.proofs.{same_not_nearer, weak, within_segment-same}
use Rattle.plane_theorems.proofs.Delaunay.Points.AlongSegment.{as_soon, before, later, not_before}
use Rattle.plane_theorems.proofs.Delaunay.Points.AlongSegment.{not_from_end, not_past, on_line}
use Rattle.plane_theorems.proofs.Delaunay.Points.AlongSegment.{on_line_last, order_along}
use Rattle.plane_theorems.proofs.Delaunay.Points.AlongSegment.{OrderAlong, reach_less, same_on_line}
use Rattle.plane_theorems.proofs.Delaunay.Points.AlongSegment.{sooner, within_on_line}
use Rattle.plane_theorems.proofs.Delaunay.Segments.LineItems.{at_end, Begins, begins}
use Rattle.plane_theorems.proofs.Delaunay.Segments.LineItems.{crossing_and_overlap, Meeting}
use Rattle.plane_theorems.proofs.Delaunay.Segments.LineItems.{met_within, one_way, other_way}
use Rattle.plane_theorems.proofs.Delaunay.Segments.LineItems.{SharedAt}
use Rattle.plane_theorems.proofs.Segments.Items.Begins.{begins_once}
use Rattle.plane_theorems.proofs.Segments.Items.Orders.{nearer-same_second, nearer_through}
use Rattle.plane_theorems.proofs.Segments.Items.Orders.{not_both_before, through_weak}
use Rattle.plane.specs.Line as L

module _ (t : Triangulation) (c₀ : Meeting t) (p q : Fraction) (apart : ¬ IsSame p q) (a b : ℕ)
    (m : Meets t p q (L.along a b)) where
  -- the edge's first end
  abbrev pub A : Fraction
  A = vertex t a

  -- the edge's second end
  abbrev pub B : Fraction
  B = vertex t b

  -- a point of the overlap and a later one on the segment, before the end of the edge: the later is
  -- strictly within the edge
  within_overlap : (x z : Fraction) → OnSegment p q x → OnSegment p q z → OnSegment A B x
      → IsNearer p x z → (reach p q z *ℤ B.w) <ℤ (reach p q B *ℤ z.w) → WithinSegment A B z
  within_overlap x z hx hz ox near less = within_on_line p q apart A z B (on_line p q A B m.1)
      ((on_segment_is p q z apart).0 hz).0 (on_line_last p q A B m.1)
      (difference_is_positive _ _ (through_weak (reach p q A) A.w (reach p q x) x.w
      (reach p q z) z.w (not_before p q A B m.1 x ox)
      (reach_less p q apart x z hx hz near) A.positive x.positive z.positive))
      (difference_is_positive _ _ less)

  -- what has a point strictly within the edge is this overlap
  only_overlap : (k : Item) → Meets t p q k → (z : Fraction) → OnSegment p q z → IsPointOf t k z
      → WithinSegment A B z → k ≡ L.along a b
  only_overlap (L.at_vertex i) met z hz s w =
      absurd (c₀.none_within a b i m.0 met.0 (within_segment-same A B z (vertex t i) s w))
  only_overlap (L.across c d) met z hz s w = absurd (crossing_and_overlap t c₀ p q apart c d a b met
      m z (met_within t c₀ p q apart c d met z hz s) (on_of_within A B z w))
  only_overlap (L.along c d) met z hz s w =
      go (c₀.shared a b c d z m.0 met.0 (on_of_within A B z w) s)
    where
      go : SharedAt t a b c d z → L.along c d ≡ L.along a b
      go (one_way r s) = λ i. L.along (r i) (s i)
      go (other_way r s) = absurd
          (differences_both_positive (reach p q B *ℤ A.w) (reach p q A *ℤ B.w) (before p q A B m.1)
          (before p q B A (subst₂ (λ i j. L.OverlapAlong p q (vertex t i) (vertex t j)) r s met.1)))
      go (at_end e he i r s) =
          absurd (c₀.none_within a b e m.0 he (within_segment-same A B z (vertex t e) i w))

  -- nothing comes after the overlap and begins before the end of the edge
  none_there : (k : Item) → Meets t p q k → (o : IsBefore t p q (L.along a b) k) → (z : Fraction)
      → BeginsAt t p q k z → (reach p q z *ℤ B.w) <ℤ (reach p q B *ℤ z.w) → ⊥
  none_there k met o z bz less = go o.order
    where
      is_it : IsNearer p o.first o.second → k ≡ L.along a b
      is_it n = only_overlap k met z bz.shared bz.of_item
          (within_overlap o.first z o.first_begins.shared bz.shared o.first_begins.of_item
          (nearer-same_second p q apart o.first o.second z o.first_begins.shared
          o.second_begins.shared bz.shared
          (begins_once t p q apart k o.second z o.second_begins bz) n) less)

      go : IsNearer p o.first o.second
          ⊎ (IsSame o.first o.second × IsVertexThenOverlap (L.along a b) k) → ⊥
      go (inl n) = let e = subst (λ k. IsBefore t p q (L.along a b) k) (is_it n) o in
          not_both_before t p q apart (L.along a b) (L.along a b) e e
      go (inr w) = w.1

  -- the segment reaches the end of the edge: its vertex comes next
  pub next_at_end : OnSegment p q B → ComesNext t p q (L.along a b) (L.at_vertex b)
  next_at_end on = record {
    met = ((c₀.ends a b m.0).1, on);
    after = go (begins t p q (L.along a b) m);
    none_between = none;
  }
    where
      at_b : BeginsAt t p q (L.at_vertex b) B
      at_b = record { shared = on; of_item = same-refl B; first = λ r _ e. same_not_nearer p r B e }

      go : Begins t p q (L.along a b) → IsBefore t p q (L.along a b) (L.at_vertex b)
      go x = record {
        first = x.at;
        second = B;
        first_begins = x.begins;
        second_begins = at_b;
        order = inl (pick (order_along p q apart x.at B x.begins.shared on));
      }
        where
          pick : OrderAlong p x.at B → IsNearer p x.at B
          pick (sooner n) = n
          pick (as_soon e) = absurd
              (not_from_end p q A B m.1 x.at x.begins.shared (λ r h i. x.begins.first r h i) e)
          pick (later n) = absurd (at_most_and_more _ _ (not_past p q A B m.1 x.at x.begins.of_item)
              (reach_less p q apart B x.at on x.begins.shared n))

      none : (k : Item) → Meets t p q k → IsBefore t p q (L.along a b) k
          → ¬ IsBefore t p q k (L.at_vertex b)
      none k met o r = pick k met o r r.order
        where
          pick : (k : Item) → Meets t p q k → (o : IsBefore t p q (L.along a b) k)
              → (r : IsBefore t p q k (L.at_vertex b)) → IsNearer p r.first r.second
              ⊎ (IsSame r.first r.second × IsVertexThenOverlap k (L.at_vertex b)) → ⊥
          pick k met o r (inl n) = none_there k met o r.first r.first_begins
              (reach_less p q apart r.first B r.first_begins.shared on
              (nearer-same_second p q apart r.first r.second B r.first_begins.shared
              r.second_begins.shared on r.second_begins.of_item n))
          pick (L.at_vertex i) met o r (inr w) = w.1
          pick (L.across i j) met o r (inr w) = w.1
          pick (L.along i j) met o r (inr w) = w.1

  -- or it ends before
  pub last_before_end : (reach p q q *ℤ B.w) <ℤ (reach p q B *ℤ q.w) → IsLast t p q (L.along a b)
  last_before_end less = record {
    none_after = λ k met o. none_there k met o o.second o.second_begins
        (through_weak (reach p q o.second) o.second.w (reach p q q) q.w (reach p q B) B.w
        ((on_segment_is p q o.second apart).0 o.second_begins.shared).2 less o.second.positive
        q.positive B.positive);
  }

  -- one of the two
  pub reaches_end : (OnSegment p q B) ⊎ ((reach p q q *ℤ B.w) <ℤ (reach p q B *ℤ q.w))
  reaches_end = go (lt_or_ge_ℤ (reach p q q *ℤ B.w) (reach p q B *ℤ q.w))
    where
      go : ((reach p q q *ℤ B.w) <ℤ (reach p q B *ℤ q.w))
          ⊎ ((reach p q B *ℤ q.w) ≤ℤ (reach p q q *ℤ B.w))
          → OnSegment p q B ⊎ ((reach p q q *ℤ B.w) <ℤ (reach p q B *ℤ q.w))
      go (inl h) = inr h
      go (inr h) = inl ((on_segment_is p q B apart).1 (on_line_last p q A B m.1, high, h))
        where
          low : (rf fw rb bw : ℤ) → pos 0 ≤ℤ rf → (rf *ℤ bw) ≤ℤ (rb *ℤ fw) → pos 0 <ℤ bw
              → pos 0 <ℤ fw → pos 0 ≤ℤ rb
          low rf fw rb bw hr hl hb hf =
              nonneg_of_mul-nonneg_ℤ {k = fw} {x = rb} hf (let n = mul-nonneg_ℤ {a = rf} {b = bw} hr
              (weak hb) in let c = lib.IntN.*ℤ_comm fw rb in omega (arith, ints))

          high : pos 0 ≤ℤ reach p q B
          high = low (reach p q m.1.far) m.1.far.w (reach p q B) B.w
              ((on_segment_is p q m.1.far apart).0 m.1.far_first).1
              (not_past p q A B m.1 m.1.far m.1.far_second) B.positive m.1.far.positive

  at_last : (reach p q q *ℤ B.w) <ℤ (reach p q B *ℤ q.w) → WithinSegment A B q
  at_last less = within_overlap m.1.near q m.1.near_first (end_on_segment p q) m.1.near_second
      (go (order_along p q apart m.1.far q m.1.far_first (end_on_segment p q))) less
    where
      go : OrderAlong p m.1.far q → IsNearer p m.1.near q
      go (sooner n) = nearer_through p q apart m.1.near m.1.far q m.1.near_first m.1.far_first
          (end_on_segment p q) m.1.from_s n
      go (as_soon e) = nearer-same_second p q apart m.1.near m.1.far q m.1.near_first m.1.far_first
          (end_on_segment p q) e m.1.from_s
      go (later n) =
          absurd (at_most_and_more _ _ ((on_segment_is p q m.1.far apart).0 m.1.far_first).2
          (reach_less p q apart q m.1.far (end_on_segment p q) m.1.far_first n))

  -- after an overlap comes the edge's end, unless the segment ends within the edge
  pub next_unless_within : ¬ WithinSegment A B q → ComesNext t p q (L.along a b) (L.at_vertex b)
  next_unless_within n = go reaches_end
    where
      go : (OnSegment p q B) ⊎ ((reach p q q *ℤ B.w) <ℤ (reach p q B *ℤ q.w))
          → ComesNext t p q (L.along a b) (L.at_vertex b)
      go (inl on) = next_at_end on
      go (inr less) = absurd (n (at_last less))

  -- an overlap in which the segment ends is the last item
  pub last_within : WithinSegment A B q → IsLast t p q (L.along a b)
  last_within w = go reaches_end
    where
      go : (OnSegment p q B) ⊎ ((reach p q q *ℤ B.w) <ℤ (reach p q B *ℤ q.w))
          → IsLast t p q (L.along a b)
      go (inl on) = absurd (c₀.none_within a b b m.0 (c₀.ends a b m.0).1
          (within_segment-same A B q B (same_on_line p q apart q B
          ((on_segment_is p q q apart).0 (end_on_segment p q)).0 (on_line_last p q A B m.1)
          (at_most_both_ways _ _ (not_past p q A B m.1 q (on_of_within A B q w))
          ((on_segment_is p q B apart).0 on).2)) w))
      go (inr less) = last_before_end less
