-- The steps of the walk, by sides.
-- Lemmas: edge_apart, items_follow, next_after_crossing, last_crossing, next_after_overlap,
-- next_after_vertex, last_vertex, overlap_ahead, right_if_below, crossing_sides,
-- crossing_by_sides, first_item, walk_is_line_list.
use Rattle.std.proofs.Common.{◌≡◌, ℕ}
use mathlib.Core.Logic.{◌⊎◌, ◌↔◌, inl, inr}
use Rattle.std.specs.Prelude.{◌≢◌, pos, ◌<ℤ◌, ◌≤ℤ◌}
use Rattle.plane.specs.{across, Fraction, HasFace, IsEdge, IsSame, left, Meets, right, side}
use Rattle.plane.specs.{TilesHull, Triangulation, vertex}
use Rattle.plane.proofs.{left_not_below, left_not_zero, on_of_within, right_if, right_not_above}
use Rattle.plane.proofs.{same-sym, weak_right}
use Rattle.plane_theorems.specs.Segments.LineLaws.{CrossingBySides, FirstItem, ItemsFollow}
use Rattle.plane_theorems.specs.Segments.LineLaws.{LastCrossing, LastVertex, NextAfterCrossing}
use Rattle.plane_theorems.specs.Segments.LineLaws.{NextAfterOverlap, NextAfterVertex, OverlapAhead}
use Rattle.plane_theorems.specs.Segments.LineLaws.{WalkIsLineList}
use Rattle.plane_theorems.proofs.Delaunay.Points.Bracket.{above_if_left, bracket, bracket-first}
use Rattle.plane_theorems.proofs.Delaunay.Points.Bracket.{left_if_above}
use Rattle.plane_theorems.proofs.Delaunay.Segments.LineItems.{meeting_of_hull}
use Rattle.plane_theorems.proofs.Delaunay.Tilings.Faces.{turned-above}
use Rattle.plane_theorems.proofs.{Delaunay.Tilings.Ground.inside_of, Segments.Items.Begins.signs_of}
use Rattle.plane_theorems.proofs.Segments.First.Firsts.{first_crossing_here, first_from_face}
use Rattle.plane_theorems.proofs.Segments.First.Firsts.{first_from_outside, first_overlap}
use Rattle.plane_theorems.proofs.Segments.First.Firsts.{first_vertex}
use Rattle.plane_theorems.proofs.Segments.Items.Begins.{above-same, edge_flipped, met_if, Signs}
use Rattle.plane_theorems.proofs.Segments.Items.Orders.{before_through, not_both_before}
use Rattle.plane_theorems.proofs.Segments.Items.SideSigns.{below_if_right, none_if_on, not_left}
use Rattle.plane_theorems.proofs.Segments.Items.SideSigns.{not_right}
use Rattle.plane_theorems.proofs.Segments.Next.Ends.{last_at_outer, last_on_edge}
use Rattle.plane_theorems.proofs.Segments.Next.NextItems.{last_left, last_right, next_left}
use Rattle.plane_theorems.proofs.Segments.Next.NextItems.{next_right, next_vertex}
use Rattle.plane_theorems.proofs.Segments.Next.Overlaps.{last_within, next_unless_within}
use Rattle.plane_theorems.proofs.Segments.Next.VertexEnds.{ahead_met, last_bare}
use Rattle.plane_theorems.proofs.Segments.Next.Vertices.{last_at_end, last_inside, next_across}
use Rattle.plane_theorems.proofs.Segments.Next.Vertices.{next_overlap}
use Rattle.plane_theorems.proofs.Segments.Walking.Walks.{walk_is_line_list as walked}

corners_apart : (u v w : Fraction) → pos 0 <ℤ bracket u v w → ¬ IsSame u v
corners_apart u v w h e =
    left_not_zero (above-same v w u v e (turned-above u v w h)) (bracket-first v w)

same-turned : (u v : Fraction) → ¬ IsSame v u → ¬ IsSame u v
same-turned u v n e = n (same-sym u v e)

-- the ends of an edge differ
pub edge_apart : (t : Triangulation) → TilesHull t → (i j : ℕ) → IsEdge t i j
    → ¬ IsSame (vertex t i) (vertex t j)
edge_apart t h i j e = go ((h.sides i j).0 e)
  where
    go : HasFace t i j ⊎ HasFace t j i → ¬ IsSame (vertex t i) (vertex t j)
    go (inl f) = corners_apart (vertex t i) (vertex t j) (vertex t f.0)
        (above_if_left _ _ _ (h.turning i j f.0 f.1))
    go (inr f) = same-turned (vertex t i) (vertex t j) (corners_apart (vertex t j) (vertex t i)
        (vertex t f.0) (above_if_left _ _ _ (h.turning j i f.0 f.1)))

-- none of the items that a segment meets is before itself, and the order goes through
pub items_follow : ItemsFollow
items_follow t p q apart = (not_both_before t p q apart, before_through t p q apart)

-- after a crossed edge comes a side or the third corner of the face on its left, or nothing
pub next_after_crossing : NextAfterCrossing
next_after_crossing t h p q apart a b d m f = (
  (λ x y. next_left t h p q apart a b d m s f (above_if_left p q D x) (not_left B D q y)),
  (λ x y. next_right t h p q apart a b d m s f (below_if_right p q D x) (not_left D A q y)),
  (λ x y. next_vertex t h p q apart a b d m s f (none_if_on p q D x) (not_left B D q y)),
  (λ x y. last_left t h p q apart a b d m s f (not_right p q D x) (above_if_left B D q y)),
  (λ x y. last_right t h p q apart a b d m s f (weak_right (below_if_right p q D x))
      (above_if_left D A q y)),
)
  where
    A : Fraction
    A = vertex t a

    B : Fraction
    B = vertex t b

    D : Fraction
    D = vertex t d

    s : Signs p q (vertex t a) (vertex t b)
    s = signs_of t p q apart a b (edge_apart t h a b m.0) m

-- a crossed edge comes last where the segment ends on it, or the outer face is on its left
pub last_crossing : LastCrossing
last_crossing t h p q apart a b m = (
  (λ e. last_on_edge t p q apart a b s (none_if_on (vertex t a) (vertex t b) q e)),
  (λ o. last_at_outer t h p q apart a b s o),
)
  where
    s : Signs p q (vertex t a) (vertex t b)
    s = signs_of t p q apart a b (edge_apart t h a b m.0) m

-- after an overlap comes the vertex at its end, unless the segment ends before
pub next_after_overlap : NextAfterOverlap
next_after_overlap t h p q apart a b m = (
  last_within t (meeting_of_hull t h) p q apart a b m,
  next_unless_within t (meeting_of_hull t h) p q apart a b m,
)

-- after a vertex comes the overlap from there, or the far side of a face that the segment goes into
pub next_after_vertex : NextAfterVertex
next_after_vertex t h p q apart v m = (
  last_at_end t p q apart v m,
  next_overlap t p q apart v m,
  λ b c f x y. (
    (λ z. last_inside t p q apart v m h b c f (above_if_left _ _ _ x) (above_if_left _ _ _ y)
        (above_if_left _ _ _ z)),
    (λ z. next_across t p q apart v m h b c f (above_if_left _ _ _ x) (above_if_left _ _ _ y)
        (not_left _ _ _ z)),
  ),
)

-- a vertex is the last where no edge there points to the segment's end, and no face there is
-- entered
pub last_vertex : LastVertex
last_vertex t h p q apart v m two no_edge no_face = last_bare t p q apart v m two h no_edge
    (λ b c f x y. no_face b c f (left_if_above _ _ _ x) (left_if_above _ _ _ y))

-- an edge at a vertex of the segment that points to the segment's end is overlapped
pub overlap_ahead : OverlapAhead
overlap_ahead t h p q apart v b m two e ahead =
    ahead_met t p q apart v m two b e (edge_apart t h v b e) ahead

not_left_if : (u v x : Fraction) → bracket u v x ≤ℤ pos 0 → side u v x ≢ left
not_left_if u v x h e = left_not_below (above_if_left u v x e) h

-- a negative bracket, so on the right
pub right_if_below : (u v x : Fraction) → bracket u v x <ℤ pos 0 → side u v x ≡ right
unfolding bracket
right_if_below u v x h = right_if u v x h

not_right_if_least : (u v x : Fraction) → pos 0 ≤ℤ bracket u v x → side u v x ≢ right
not_right_if_least u v x h e = right_not_above (below_if_right u v x e) h

-- an edge with two ends in different places
pub crossing_sides : (t : Triangulation) (p q : Fraction) → ¬ IsSame p q → (a b : ℕ) → IsEdge t a b
    → ¬ IsSame (vertex t a) (vertex t b) → Meets t p q (across a b)
    ↔ ((side p q (vertex t a) ≡ left) × (side p q (vertex t b) ≡ right)
    × (side (vertex t a) (vertex t b) p ≢ left) × (side (vertex t a) (vertex t b) q ≢ right))
crossing_sides t p q apart a b e two = (
  (λ m. let s = signs_of t p q apart a b two m in (
    left_if_above p q (vertex t a) s.left,
    right_if_below p q (vertex t b) s.right,
    not_left_if
        (vertex t a) (vertex t b) p s.start,
    not_right_if_least (vertex t a) (vertex t b) q s.end,
  )),
  (λ x. met_if t p q apart a b e (record {
    left = above_if_left p q (vertex t a) x.0;
    right = below_if_right p q (vertex t b) x.1;
    start = not_left (vertex t a) (vertex t b) p x.2;
    end = not_right (vertex t a) (vertex t b) q x.3;
  })),
)

-- an edge is crossed from the right of the segment to its left exactly if four sides say so
pub crossing_by_sides : CrossingBySides
crossing_by_sides t h p q apart a b e = crossing_sides t p q apart a b e (edge_apart t h a b e)

-- what carries the start comes first, or else the edge by which the segment leaves its face or the
-- outside
pub first_item : FirstItem
first_item t h p q apart = (
  first_vertex t p q apart,
  (λ a b w. (
    (λ m. first_crossing_here t p q apart a b m (on_of_within _ _ p w)),
    (λ m. first_overlap t p q apart (meeting_of_hull t h) a b m w),
  )),
  (λ a b c m f inside. first_from_face t p q apart h a b (edge_flipped t b a m.0) (signs_of t p q
      apart b a (edge_apart t h b a m.0) m) c f (inside_of _ _ _ p (h.turning a b c f) inside)),
  (λ a b m outer. first_from_outside t p q apart h a b (edge_flipped t b a m.0)
      (signs_of t p q apart b a (edge_apart t h b a m.0) m) outer),
)

-- a walk from the first item to the last gives the line list
pub walk_is_line_list : WalkIsLineList
walk_is_line_list t h p q apart = walked t (meeting_of_hull t h) p q apart
