-- What a segment meets first, by where it starts.
-- Lemmas: first_vertex, first_crossing_here, first_overlap, first_from_outside, first_from_face.
use Rattle.std.proofs.Common.{ℕ}
use mathlib.Core.Logic.{◌⊎◌, inl, inr}
use Rattle.std.specs.Prelude.{pos, ◌<ℤ◌}
use Rattle.plane.specs.{BeginsAt, Fraction, IsBefore, IsEdge, IsFace, IsNearer, IsOuter, IsPointOf}
use Rattle.plane.specs.{IsSame, IsVertex, IsVertexThenOverlap, Item, Meets, OnSegment, TilesHull}
use Rattle.plane.specs.{Triangulation, vertex, WithinSegment}
use Rattle.plane.proofs.{nothing_nearer, on_of_within, on_segment-same, same-sym, same-trans}
use Rattle.plane.proofs.{start_on_segment, within_segment-same}
use Rattle.plane_theorems.specs.{IsFirst}
use Rattle.plane_theorems.proofs.Delaunay.Points.AlongSegment.{as_soon, later, order_along}
use Rattle.plane_theorems.proofs.Delaunay.Points.AlongSegment.{OrderAlong, sooner}
use Rattle.plane_theorems.proofs.Delaunay.Points.Bracket.{above_if_left, bracket}
use Rattle.plane_theorems.proofs.{Delaunay.Points.Nudges.InOpen, Segments.Items.Slopes.left_until}
use Rattle.plane_theorems.proofs.Delaunay.Segments.LineItems.{Begins, begins, between_of, Meeting}
use Rattle.plane_theorems.proofs.Delaunay.Segments.LineItems.{meeting_of_hull, met_within}
use Rattle.plane_theorems.proofs.Delaunay.Tilings.Faces.{Between, between-second, between-swapped}
use Rattle.plane_theorems.proofs.Delaunay.Tilings.Faces.{between-third}
use Rattle.plane_theorems.proofs.Segments.Items.Begins.{bare_inside, before_crossing, begins_once}
use Rattle.plane_theorems.proofs.Segments.Items.Begins.{edge_flipped, met_if, Signs}
use Rattle.plane_theorems.proofs.Segments.Items.Orders.{nearer-same_second}
use Rattle.plane_theorems.proofs.Segments.Next.Ends.{item_not_left_of_outer}
use Rattle.plane.specs.Line as L

module _ (t : Triangulation) (p q : Fraction) (apart : ¬ IsSame p q) where
  -- no item begins before an item that has the start
  at_start : (m : Item) → IsPointOf t m p → (y : Fraction) → BeginsAt t p q m y → IsSame y p
  at_start m here y by = go (order_along p q apart p y (start_on_segment p q) by.shared)
    where
      go : OrderAlong p p y → IsSame y p
      go (sooner n) = absurd (by.first p (start_on_segment p q) here n)
      go (as_soon e) = same-sym p y e
      go (later n) = absurd (nothing_nearer p y n)

  none_sooner : (m k : Item) → IsPointOf t m p → (o : IsBefore t p q k m)
      → IsNearer p o.first o.second → ⊥
  none_sooner m k here o n = nothing_nearer p o.first
      (nearer-same_second p q apart o.first o.second p o.first_begins.shared o.second_begins.shared
      (start_on_segment p q) (at_start m here o.second o.second_begins) n)

  -- from a vertex, the vertex itself comes first
  pub first_vertex : (v : ℕ) → IsVertex t v → IsSame p (vertex t v) → IsFirst t p q (L.at_vertex v)
  first_vertex v hv e = record {
    met = (hv, on_segment-same p q p (vertex t v) e (start_on_segment p q));
    none_before = λ k _ o. go k o o.order;
  }
    where
      go : (k : Item) → (o : IsBefore t p q k (L.at_vertex v)) → IsNearer p o.first o.second
          ⊎ (IsSame o.first o.second × IsVertexThenOverlap k (L.at_vertex v)) → ⊥
      go k o (inl n) = none_sooner (L.at_vertex v) k e o n
      go (L.at_vertex i) o (inr w) = w.1
      go (L.across i j) o (inr w) = w.1
      go (L.along i j) o (inr w) = w.1

  -- the edge that carries the start, crossed
  pub first_crossing_here : (a b : ℕ) → Meets t p q (L.across a b)
      → OnSegment (vertex t a) (vertex t b) p → IsFirst t p q (L.across a b)
  first_crossing_here a b met here = record { met = met; none_before = λ k _ o. go k o o.order }
    where
      go : (k : Item) → (o : IsBefore t p q k (L.across a b)) → IsNearer p o.first o.second
          ⊎ (IsSame o.first o.second × IsVertexThenOverlap k (L.across a b)) → ⊥
      go k o (inl n) = none_sooner (L.across a b) k here o n
      go (L.at_vertex i) o (inr w) = w.1
      go (L.across i j) o (inr w) = w.1
      go (L.along i j) o (inr w) = w.1

  -- or overlapped
  pub first_overlap : Meeting t → (a b : ℕ) → Meets t p q (L.along a b)
      → WithinSegment (vertex t a) (vertex t b) p → IsFirst t p q (L.along a b)
  first_overlap c a b met here = record { met = met; none_before = λ k m o. go k m o o.order }
    where
      go : (k : Item) → Meets t p q k → (o : IsBefore t p q k (L.along a b))
          → IsNearer p o.first o.second
          ⊎ (IsSame o.first o.second × IsVertexThenOverlap k (L.along a b)) → ⊥
      go k m o (inl n) = none_sooner (L.along a b) k (on_of_within _ _ p here) o n
      go (L.at_vertex i) m o (inr w) = c.none_within a b i met.0 m.0
          (within_segment-same (vertex t a) (vertex t b) p (vertex t i)
          (same-trans p o.second (vertex t i) (same-sym o.second p (at_start (L.along a b)
          (on_of_within _ _ p here) o.second o.second_begins)) (same-trans o.second o.first
          (vertex t i) (same-sym o.first o.second w.0) o.first_begins.of_item)) here)
      go (L.across i j) m o (inr w) = w.1
      go (L.along i j) m o (inr w) = w.1

  -- ---- from a face, or from outside, across the edge from a, on the right, to b
  module _ (h : TilesHull t) (a b : ℕ) (e : IsEdge t a b)
      (s : Signs p q (vertex t b) (vertex t a)) where
    side_met : Meets t p q (L.across b a)
    side_met = met_if t p q apart b a (edge_flipped t a b e) s

    -- from outside, a hull edge that is crossed inwards comes first
    pub first_from_outside : IsOuter t a b → IsFirst t p q (L.across b a)
    first_from_outside outer = record {
      met = side_met;
      none_before = λ k met o. item_not_left_of_outer t h p q a b outer k met o.first
          o.first_begins.of_item (before_crossing t p q apart b a s k o);
    }

    -- from inside a face, the side that is crossed comes first
    pub first_from_face : (c : ℕ) → IsFace t a b c → InOpen (vertex t a) (vertex t b) (vertex t c) p
        → IsFirst t p q (L.across b a)
    first_from_face c f inside = record {
      met = side_met;
      none_before = λ k met o. none k met o (begins t p q (L.across b a) side_met);
    }
      where
        turning : pos 0 <ℤ bracket (vertex t a) (vertex t b) (vertex t c)
        turning = above_if_left _ _ _ (h.turning a b c f)

        near_crossing : (k : Item) → (o : IsBefore t p q k (L.across b a)) → (y : Fraction)
            → BeginsAt t p q (L.across b a) y → IsNearer p o.first y
        near_crossing k o y by = go k o o.order
          where
            go : (k : Item) → (o : IsBefore t p q k (L.across b a)) → IsNearer p o.first o.second
                ⊎ (IsSame o.first o.second × IsVertexThenOverlap k (L.across b a))
                → IsNearer p o.first y
            go k o (inl n) = nearer-same_second p q apart o.first o.second y o.first_begins.shared
                o.second_begins.shared by.shared
                (begins_once t p q apart (L.across b a) o.second y o.second_begins by) n
            go (L.at_vertex i) o (inr w) = absurd w.1
            go (L.across i j) o (inr w) = absurd w.1
            go (L.along i j) o (inr w) = absurd w.1

        none : (k : Item) → Meets t p q k → IsBefore t p q k (L.across b a)
            → Begins t p q (L.across b a) → ⊥
        none k met o y = bare_inside t h p q k met o.first o.first_begins.of_item a b c f (record {
          first = before_crossing t p q apart b a s k o;
          second = left_until p q apart (vertex t b)
              (vertex t c) o.first y.at o.first_begins.shared y.begins.shared near inside.second
              (between-second (vertex t a) (vertex t b) (vertex t c) y.at within turning);
          third = left_until p q apart (vertex t c)
              (vertex t a) o.first y.at o.first_begins.shared y.begins.shared near inside.third
              (between-third (vertex t a) (vertex t b) (vertex t c) y.at within turning);
        })
          where
            near : IsNearer p o.first y.at
            near = near_crossing k o y.at y.begins

            within : Between (vertex t a) (vertex t b) y.at
            within = between-swapped (vertex t b) (vertex t a) y.at
                (between_of (vertex t b) (vertex t a) y.at (met_within t
                (meeting_of_hull t h) p q apart b a side_met y.at y.begins.shared y.begins.of_item))
