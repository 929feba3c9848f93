-- What a segment meets next after a vertex: an edge that it overlaps, one across a face there, or
-- nothing.
-- Notions: V, IsPast, B, C; is_past, last_at_end, next_overlap, before_end, past_left,
-- last_inside, next_across.
use Rattle.std.proofs.Common.{◌≡◌, ℕ, suc, [], ◌∷◌, arith, ap, sym, subst}
use mathlib.Core.Logic.{◌⊎◌, inl, inr}
use lib.IntN.{neg_ℤ}
use Rattle.std.specs.Prelude.{ℤ, pos, ◌<ℤ◌, ◌≤ℤ◌}
use Rattle.std.proofs.lemmas.Int.{ints}
use Rattle.plane.specs.{BeginsAt, Fraction, IsBefore, IsEdge, IsFace, IsNearer, IsPointOf, IsSame}
use Rattle.plane.specs.{IsVertexThenOverlap, Item, Meets, OnSegment, TilesHull, Triangulation}
use Rattle.{plane.specs.vertex, plane_theorems.proofs.Delaunay.Points.Bracket.bracket-turned}
use Rattle.plane.proofs.{at_most_and_more, both_signs, end_on_segment, left_not_zero}
use Rattle.plane.proofs.{on_segment-same, on_segment_is, opposite_of_not_positive}
use Rattle.plane.proofs.{opposite_of_positive, same-refl, same-sym, same-trans, same_not_nearer}
use Rattle.plane.proofs.{start_on_segment, turned_face, weak_right, zero_weak, zero_weak_left}
use Rattle.plane_theorems.specs.{ComesNext, IsLast}
use Rattle.plane_theorems.proofs.Delaunay.Points.AlongSegment.{as_soon, later, not_before}
use Rattle.plane_theorems.proofs.Delaunay.Points.AlongSegment.{not_both_nearer, order_along}
use Rattle.plane_theorems.proofs.Delaunay.Points.AlongSegment.{OrderAlong, reach_less, sooner}
use Rattle.plane_theorems.proofs.Delaunay.Points.Bracket.{above_if_left, bracket, bracket-first}
use Rattle.plane_theorems.proofs.Delaunay.Points.Bracket.{bracket-second, bracket-swapped}
use Rattle.plane_theorems.proofs.Delaunay.Points.Hull.{nudge_in_hull}
use Rattle.plane_theorems.proofs.Delaunay.Points.Nudges.{InOpen, nudge, nudge-above, nudge-on, size}
use Rattle.plane_theorems.proofs.Delaunay.Segments.LineItems.{Begins, begins}
use Rattle.plane_theorems.proofs.Delaunay.Tilings.Faces.{turned-above}
use Rattle.plane_theorems.proofs.Segments.Items.Begins.{above-same, bare_inside, before_crossing}
use Rattle.plane_theorems.proofs.Segments.Items.Begins.{begins_once, met_if, on_line, rising, Signs}
use Rattle.plane_theorems.proofs.Segments.Items.Orders.{nearer-same_first, nearer-same_second}
use Rattle.plane_theorems.proofs.Segments.Items.Orders.{nearer_through}
use Rattle.plane_theorems.proofs.Segments.Items.Slopes.{later_is_higher, left_before, left_from}
use Rattle.plane_theorems.proofs.Segments.Items.Slopes.{slope_between}
use Rattle.plane.specs.Line as L

module _ (t : Triangulation) (p q : Fraction) (apart : ¬ IsSame p q) (v : ℕ)
    (m : Meets t p q (L.at_vertex v)) where
  -- the vertex's point
  abbrev pub V : Fraction
  V = vertex t v

  -- the item begins at the vertex's point
  at_v : BeginsAt t p q (L.at_vertex v) V
  at_v = record { shared = m.1; of_item = same-refl V; first = λ r _ e. same_not_nearer p r V e }

  -- what comes after a vertex has a point after it
  pub record IsPast (k : Item) : Type 0 where
    pub there : Fraction
    pub shared : OnSegment p q there
    pub of_item : IsPointOf t k there
    pub past : IsNearer p V there

  -- an overlap that the segment reaches at the vertex goes past it
  past_overlap : (i j : ℕ) (met : Meets t p q (L.along i j)) (y : Fraction)
      → BeginsAt t p q (L.along i j) y → IsSame V y → IsPast (L.along i j)
  past_overlap i j met y by e = record {
    there = met.1.far;
    shared = met.1.far_first;
    of_item = met.1.far_second;
    past = go (order_along p q apart V met.1.near m.1 met.1.near_first);
  }
    where
      go : OrderAlong p V met.1.near → IsNearer p V met.1.far
      go (sooner n) = nearer_through p q apart V met.1.near met.1.far m.1 met.1.near_first
          met.1.far_first n met.1.from_s
      go (as_soon s) = nearer-same_first p q apart met.1.near V met.1.far met.1.near_first m.1
          met.1.far_first (same-sym V met.1.near s) met.1.from_s
      go (later n) = absurd (by.first met.1.near met.1.near_first met.1.near_second
          (nearer-same_second p q apart met.1.near V y met.1.near_first m.1 by.shared e n))

  -- an item after the vertex has a point past it
  pub is_past : (k : Item) → Meets t p q k → IsBefore t p q (L.at_vertex v) k → IsPast k
  is_past k met o = go k met o o.order
    where
      go : (k : Item) → Meets t p q k → (o : IsBefore t p q (L.at_vertex v) k)
          → IsNearer p o.first o.second
          ⊎ (IsSame o.first o.second × IsVertexThenOverlap (L.at_vertex v) k) → IsPast k
      go k met o (inl n) = record {
        there = o.second;
        shared = o.second_begins.shared;
        of_item = o.second_begins.of_item;
        past = nearer-same_first p q apart o.first V o.second o.first_begins.shared m.1
            o.second_begins.shared o.first_begins.of_item n;
      }
      go (L.along i j) met o (inr w) = past_overlap i j met o.second o.second_begins
          (same-trans V o.first o.second (same-sym o.first V o.first_begins.of_item) w.0)
      go (L.at_vertex i) met o (inr w) = absurd w.1
      go (L.across i j) met o (inr w) = absurd w.1

  -- the segment ends at the vertex
  pub last_at_end : IsSame V q → IsLast t p q (L.at_vertex v)
  last_at_end e = record { none_after = λ k met o. none (is_past k met o) }
    where
      none : {k : Item} → IsPast k → ⊥
      none x = at_most_and_more _ _ ((on_segment_is p q x.there apart).0 x.shared).2
          (reach_less p q apart q x.there (end_on_segment p q) x.shared
          (nearer-same_first p q apart V q x.there m.1 (end_on_segment p q) x.shared e x.past))

  -- the edge that it overlaps from here on
  pub next_overlap : (b : ℕ) → Meets t p q (L.along v b)
      → ComesNext t p q (L.at_vertex v) (L.along v b)
  next_overlap b met = go (begins t p q (L.along v b) met)
    where
      starts : (y : Fraction) → BeginsAt t p q (L.along v b) y → IsSame V y
      starts y by = pick (order_along p q apart V y m.1 by.shared)
        where
          pick : OrderAlong p V y → IsSame V y
          pick (sooner n) = absurd (by.first V m.1 (start_on_segment V (vertex t b)) n)
          pick (as_soon s) = s
          pick (later n) =
              absurd (at_most_and_more _ _ (not_before p q V (vertex t b) met.1 y by.of_item)
              (reach_less p q apart y V by.shared m.1 n))

      none : (y : Fraction) → BeginsAt t p q (L.along v b) y → (k : Item)
          → IsBefore t p q (L.at_vertex v) k → ¬ IsBefore t p q k (L.along v b)
      none y by k o r = pick k o r o.order r.order
        where
          pick : (k : Item) → (o : IsBefore t p q (L.at_vertex v) k)
              → (r : IsBefore t p q k (L.along v b)) → IsNearer p o.first o.second
              ⊎ (IsSame o.first o.second × IsVertexThenOverlap (L.at_vertex v) k)
              → IsNearer p r.first r.second
              ⊎ (IsSame r.first r.second × IsVertexThenOverlap k (L.along v b)) → ⊥
          pick k o r (inl n) (inl l) =
              not_both_nearer p q apart V o.second (nearer-same_first p q apart o.first V o.second
              o.first_begins.shared m.1 o.second_begins.shared o.first_begins.of_item n)
              (nearer-same_second p q apart o.second r.second V o.second_begins.shared
              r.second_begins.shared m.1 (same-sym V r.second (starts r.second r.second_begins))
              (nearer-same_first p q apart r.first o.second r.second r.first_begins.shared
              o.second_begins.shared r.second_begins.shared
              (begins_once t p q apart k r.first o.second r.first_begins o.second_begins) l))
          pick k o r (inl n) (inr l) = same_not_nearer p o.first o.second (same-trans o.first V
              o.second o.first_begins.of_item (same-trans V r.second o.second (starts r.second
              r.second_begins) (same-trans r.second r.first o.second (same-sym r.first r.second l.0)
              (begins_once t p q apart k r.first o.second r.first_begins o.second_begins)))) n
          pick k o r (inr h) (inl l) =
              same_not_nearer p r.first r.second (same-trans r.first o.second r.second
              (begins_once t p q apart k r.first o.second r.first_begins o.second_begins)
              (same-trans o.second o.first r.second (same-sym o.first o.second h.0) (same-trans
              o.first V r.second o.first_begins.of_item (starts r.second r.second_begins)))) l
          pick (L.along i j) o r (inr h) (inr l) = l.1
          pick (L.at_vertex i) o r (inr h) (inr l) = h.1
          pick (L.across i j) o r (inr h) (inr l) = h.1

      go : Begins t p q (L.along v b) → ComesNext t p q (L.at_vertex v) (L.along v b)
      go y = record {
        met = met;
        after = record {
          first = V;
          second = y.at;
          first_begins = at_v;
          second_begins = y.begins;
          order = inr (starts y.at y.begins, tt);
        };
        none_between = λ k _ o. none y.at y.begins k o;
      }

  -- a vertex before the end
  pub before_end : ¬ IsSame V q → IsNearer p V q
  before_end two = go (order_along p q apart V q m.1 (end_on_segment p q))
    where
      go : OrderAlong p V q → IsNearer p V q
      go (sooner n) = n
      go (as_soon e) = absurd (two e)
      go (later n) = absurd (at_most_and_more _ _ ((on_segment_is p q V apart).0 m.1).2
          (reach_less p q apart q V (end_on_segment p q) m.1 n))

  -- where the side of a line through the vertex is left at one later point, it is so at each
  pub past_left : (u w : Fraction) → bracket u w V ≡ pos 0 → (y : Fraction) → OnSegment p q y
      → IsNearer p V y → pos 0 <ℤ bracket u w y → (z : Fraction) → OnSegment p q z → IsNearer p V z
      → pos 0 <ℤ bracket u w z
  past_left u w on y hy ny high z hz nz = later_is_higher p q apart u w V z m.1 hz nz
      (slope_between p q apart u w V y m.1 hy ny (zero_weak on) high) (zero_weak_left on)

  -- ---- through a face at the vertex, whose open cone the segment's end is in
  module _ (h : TilesHull t) (b c : ℕ) (f : IsFace t v b c)
      (first : pos 0 <ℤ bracket V (vertex t b) q) (third : pos 0 <ℤ bracket (vertex t c) V q) where
    -- the face's second corner
    abbrev pub B : Fraction
    B = vertex t b

    -- the face's third corner
    abbrev pub C : Fraction
    C = vertex t c

    turning : pos 0 <ℤ bracket V B C
    turning = above_if_left V B C (h.turning v b c f)

    opposite : pos 0 <ℤ bracket B C V
    opposite = turned-above V B C turning

    not_same_end : (u w : Fraction) → bracket u w V ≡ pos 0 → pos 0 <ℤ bracket u w q → ¬ IsSame V q
    not_same_end u w on high e = left_not_zero (above-same u w q V (same-sym V q e) high) on

    end_past : IsNearer p V q
    end_past = before_end (not_same_end V B (bracket-first V B) first)

    cone_first : (z : Fraction) → OnSegment p q z → IsNearer p V z → pos 0 <ℤ bracket V B z
    cone_first z hz near =
        past_left V B (bracket-first V B) q (end_on_segment p q) end_past first z hz near

    cone_third : (z : Fraction) → OnSegment p q z → IsNearer p V z → pos 0 <ℤ bracket C V z
    cone_third z hz near =
        past_left C V (bracket-second C V) q (end_on_segment p q) end_past third z hz near

    -- no overlap goes on from the vertex
    no_overlap : (i j : ℕ) → Meets t p q (L.along i j) → OnSegment (vertex t i) (vertex t j) V
        → (z : Fraction) → OnSegment p q z → OnSegment (vertex t i) (vertex t j) z
        → IsNearer p V z → ⊥
    no_overlap i j met on z hz oz near = bare_inside t h p q (L.along i j) met w
        (nudge_in_hull (vertex t i ∷ vertex t j ∷ []) n V z on oz) v b c f inside
      where
        n : ℕ
        n = suc (size (bracket B C z))

        w : Fraction
        w = nudge n V z

        inside : InOpen V B C w
        inside = record {
          first = subst (λ x. pos 0 <ℤ x) (sym (nudge-on V B n V z (bracket-first V B)))
              (cone_first z hz near);
          second = nudge-above B C n V z opposite (omega arith);
          third = subst (λ x. pos 0 <ℤ x) (sym (nudge-on C V n V z (bracket-second C V)))
              (cone_third z hz near);
        }

    -- what comes after the vertex and begins left of the far side
    none_inside : (k : Item) → Meets t p q k → (o : IsBefore t p q (L.at_vertex v) k)
        → (y : Fraction) → BeginsAt t p q k y → (IsNearer p V y → pos 0 <ℤ bracket B C y) → ⊥
    none_inside k met o y by second = go k met o by o.order
      where
        go : (k : Item) → Meets t p q k → (o : IsBefore t p q (L.at_vertex v) k)
            → BeginsAt t p q k y → IsNearer p o.first o.second
            ⊎ (IsSame o.first o.second × IsVertexThenOverlap (L.at_vertex v) k) → ⊥
        go k met o by (inl n) = bare_inside t h p q k met y by.of_item v b c f (record {
          first = cone_first y by.shared near;
          second = second near;
          third = cone_third y by.shared near;
        })
          where
            near : IsNearer p V y
            near = nearer-same_first p q apart o.first V y o.first_begins.shared m.1 by.shared
                o.first_begins.of_item
                (nearer-same_second p q apart o.first o.second y o.first_begins.shared
                o.second_begins.shared by.shared
                (begins_once t p q apart k o.second y o.second_begins by) n)
        go (L.along i j) met o by (inr w) =
            let e = same-trans o.second o.first V
            (same-sym o.first o.second w.0) o.first_begins.of_item in
            let x = past_overlap i j met o.second o.second_begins (same-sym o.second V e) in
            no_overlap i j met (on_segment-same (vertex t i)
            (vertex t j) o.second V e o.second_begins.of_item) x.there x.shared x.of_item x.past
        go (L.at_vertex i) met o by (inr w) = absurd w.1
        go (L.across i j) met o by (inr w) = absurd w.1

    -- the segment ends inside the face
    pub last_inside : pos 0 <ℤ bracket B C q → IsLast t p q (L.at_vertex v)
    last_inside ends = record {
      none_after = λ k met o. none_inside k met o o.second o.second_begins
          (λ n. left_from p q apart B C V o.second m.1 o.second_begins.shared n opposite ends);
    }

    -- or it crosses the far side
    module _ (past : bracket B C q ≤ℤ pos 0) where
      side_edge : IsEdge t c b
      side_edge = (h.sides c b).1 (inr (v, turned_face t v b c f))

      left_end : pos 0 <ℤ bracket p q C
      left_end = subst (λ n. pos 0 <ℤ n) (bracket-turned p q C) (left_before p q apart q C V m.1
          (subst (λ n. pos 0 <ℤ n) (bracket-turned q C V) third) (zero_weak (bracket-first q C)))

      right_end : bracket p q B <ℤ pos 0
      right_end = flipped (bracket-swapped p q B) (subst (λ n. pos 0 <ℤ n)
          (sym (bracket-turned B q p)) (left_before p q apart B q V m.1 (subst (λ n. pos 0 <ℤ n)
          (sym (bracket-turned V B q)) first) (zero_weak (bracket-second B q))))
        where
          flipped : {x y : ℤ} → x ≡ neg_ℤ y → pos 0 <ℤ x → y <ℤ pos 0
          flipped e h = omega (arith, ints)

      side_signs : Signs p q C B
      side_signs = record {
        left = left_end;
        right = right_end;
        start = weak_right (opposite_of_positive _ _ (bracket-swapped B C p)
            (left_before p q apart B C V m.1 opposite past));
        end = opposite_of_not_positive _ _ (bracket-swapped B C q) past;
      }

      side_met : Meets t p q (L.across c b)
      side_met = met_if t p q apart c b side_edge side_signs

      -- the edge opposite the vertex is crossed next
      pub next_across : ComesNext t p q (L.at_vertex v) (L.across c b)
      next_across = record {
        met = side_met;
        after = go (begins t p q (L.across c b) side_met);
        none_between = λ k met o r. none_inside k met o r.first r.first_begins
            (λ _. before_crossing t p q apart c b side_signs k r);
      }
        where
          go : Begins t p q (L.across c b) → IsBefore t p q (L.at_vertex v) (L.across c b)
          go y = record {
            first = V;
            second = y.at;
            first_begins = at_v;
            second_begins = y.begins;
            order = inl (pick (order_along p q apart V y.at m.1 y.begins.shared));
          }
            where
              on : bracket C B y.at ≡ pos 0
              on = on_line C B y.at y.begins.of_item

              pick : OrderAlong p V y.at → IsNearer p V y.at
              pick (sooner n) = n
              pick (as_soon e) = absurd (left_not_zero (subst (λ x. pos 0 <ℤ x)
                  (bracket-swapped C B y.at) (above-same B C V y.at e opposite)) (ap neg_ℤ on))
              pick (later n) = absurd (both_signs (later_is_higher p q apart C B y.at V
                  y.begins.shared m.1 n (rising p q C B left_end right_end) (zero_weak_left on))
                  (opposite_of_positive _ _ (bracket-swapped B C V) opposite))
