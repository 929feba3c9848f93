-- A segment's last crossing: where it ends on the edge, or leaves the hull there.
-- Lemmas: last_on_edge, edge_not_left, item_not_left_of_outer, last_at_outer.
use Rattle.std.proofs.Common.{◌≡◌, ℕ}
use mathlib.Core.Logic.{◌⊎◌, inl, inr}
use Rattle.std.specs.Prelude.{pos, ◌<ℤ◌}
use Rattle.plane.specs.{Fraction, HasFace, IsBefore, IsEdge, IsFace, IsOuter, IsPointOf, IsSame}
use Rattle.plane.specs.{Item, Meets, OnSegment, TilesHull, Triangulation, vertex}
use Rattle.plane.proofs.{at_most_and_more, end_on_segment, left_not_zero, on_segment_is}
use Rattle.{plane.proofs.start_on_segment, plane.proofs.weak, plane_theorems.specs.IsLast}
use Rattle.plane_theorems.proofs.Delaunay.Floods.Flooded.{side_of_segment}
use Rattle.plane_theorems.proofs.Delaunay.Points.AlongSegment.{as_soon, later, order_along}
use Rattle.plane_theorems.proofs.Delaunay.Points.AlongSegment.{OrderAlong, reach_less, sooner}
use Rattle.plane_theorems.proofs.Delaunay.Points.Bracket.{above_if_left, bracket, left_if_above}
use Rattle.plane_theorems.proofs.Delaunay.Segments.LineItems.{turned_segment}
use Rattle.plane_theorems.proofs.Delaunay.Tilings.Ground.{triangle_of_closed}
use Rattle.plane_theorems.proofs.Delaunay.Tilings.Meets.{on_side-closed}
use Rattle.plane_theorems.proofs.Delaunay.Tilings.OuterEdges.{edge_of_corner}
use Rattle.plane_theorems.proofs.Delaunay.Tilings.OuterEdges.{face_not_left_of_outer}
use Rattle.plane_theorems.proofs.Segments.Items.Begins.{above-same, after_crossing, rising, Signs}
use Rattle.plane_theorems.proofs.Segments.Items.Slopes.{later_is_higher, slope}
use Rattle.plane.specs.Line as L

-- the segment ends on the edge that it crosses
pub last_on_edge : (t : Triangulation) (p q : Fraction) (apart : ¬ IsSame p q) (a b : ℕ)
    → Signs p q (vertex t a) (vertex t b) → bracket (vertex t a) (vertex t b) q ≡ pos 0
    → IsLast t p q (L.across a b)
last_on_edge t p q apart a b s on = record { none_after = λ k _ o. none k o }
  where
    up : pos 0 <ℤ slope (vertex t a) (vertex t b) p q
    up = rising p q (vertex t a) (vertex t b) s.left s.right

    none : (k : Item) → ¬ IsBefore t p q (L.across a b) k
    none k o = go (order_along p q apart o.second q o.second_begins.shared (end_on_segment p q))
      where
        high : pos 0 <ℤ bracket (vertex t a) (vertex t b) o.second
        high = after_crossing t p q apart a b s k o

        go : OrderAlong p o.second q → ⊥
        go (sooner n) = left_not_zero (later_is_higher p q apart (vertex t a)
            (vertex t b) o.second q o.second_begins.shared (end_on_segment p q) n up (weak high)) on
        go (as_soon e) = left_not_zero (above-same (vertex t a) (vertex t b) o.second q e high) on
        go (later n) =
            at_most_and_more _ _ ((on_segment_is p q o.second apart).0 o.second_begins.shared).2
            (reach_less p q apart q o.second (end_on_segment p q) o.second_begins.shared n)

module _ (t : Triangulation) (h : TilesHull t) where
  -- no point of an edge is outside a hull edge
  pub edge_not_left : (a b i j : ℕ) (z : Fraction) → IsOuter t a b → IsEdge t i j
      → OnSegment (vertex t i) (vertex t j) z → ¬ (pos 0 <ℤ bracket (vertex t a) (vertex t b) z)
  edge_not_left a b i j z outer e on high = go ((h.sides i j).0 e)
    where
      at_face : (i j k : ℕ) → IsFace t i j k → OnSegment (vertex t i) (vertex t j) z → ⊥
      at_face i j k f on = face_not_left_of_outer t h a b i j k z outer f
          (triangle_of_closed (vertex t i) (vertex t j) (vertex t k) z (h.turning i j k f)
          (on_side-closed (vertex t i) (vertex t j) (vertex t k) z
          (side_of_segment (vertex t i) (vertex t j) z on)
          (above_if_left (vertex t i) (vertex t j) (vertex t k) (h.turning i j k f))))
          (left_if_above (vertex t a) (vertex t b) z high)

      go : HasFace t i j ⊎ HasFace t j i → ⊥
      go (inl f) = at_face i j f.0 f.1 on
      go (inr f) = at_face j i f.0 f.1 (turned_segment (vertex t i) (vertex t j) z on)

  -- no item is left of an outer edge
  pub item_not_left_of_outer : (p q : Fraction) (a b : ℕ) → IsOuter t a b → (k : Item)
      → Meets t p q k → (z : Fraction) → IsPointOf t k z
      → ¬ (pos 0 <ℤ bracket (vertex t a) (vertex t b) z)
  item_not_left_of_outer p q a b outer (L.at_vertex i) met z s high =
      let e = edge_of_corner t h i met.0 in
      edge_not_left a b i e.0 (vertex t i) outer e.1 (start_on_segment (vertex t i) (vertex t e.0))
      (above-same (vertex t a) (vertex t b) z (vertex t i) s high)
  item_not_left_of_outer p q a b outer (L.across i j) met z s high =
      edge_not_left a b i j z outer met.0 s high
  item_not_left_of_outer p q a b outer (L.along i j) met z s high =
      edge_not_left a b i j z outer met.0 s high

  -- the segment leaves the hull at the edge that it crosses
  pub last_at_outer : (p q : Fraction) (apart : ¬ IsSame p q) (a b : ℕ)
      → Signs p q (vertex t a) (vertex t b) → IsOuter t a b → IsLast t p q (L.across a b)
  last_at_outer p q apart a b s outer = record {
    none_after = λ k met o. item_not_left_of_outer p q a b outer k met o.second
        o.second_begins.of_item (after_crossing t p q apart a b s k o);
  }
