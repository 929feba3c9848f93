-- The edges that cross a segment are those that it meets, as the walk along it has them.
-- Notions: crossed_twin; crosses_if_met, met_if_crosses.
use Rattle.std.proofs.Common.{◌≡◌, ◌⊎◌, ◌<◌, ◌∙◌}
use Rattle.std.proofs.Common.{ℕ, List, length, sym, subst, inl, inr}
use Rattle.plane.specs.{across, Cross, IsEdge, IsSame, Item, left, Meets, on, Parts, place, Point}
use Rattle.plane.specs.{right, side, WithinSegment}
use Rattle.plane.proofs.{Meetings.crossing_is_sides, same-sym, turned_join as edge_back}
use Rattle.half_edge_links.specs.{IsValidMesh, Mesh, origin, rev}
use Rattle.plane_theorems.specs.{ArePlacedApart, IsCrossing, IsFreeOfVertices, IsMesh}
use Rattle.plane_theorems.proofs.{mesh_tiles, no_edges_cross}
use Rattle.plane_theorems.proofs.Segments.Crossing.EitherWay.{crossing_is_either_way}
use Rattle.delaunay_legalization.specs.{drawn, edges_of, faces_of, outer_of}
use Rattle.delaunay_legalization.proofs.{edge_joins, own_edges}
use Rattle.delaunay_location.proofs.EitherWay.{crossed_either_way}
use Rattle.{delaunay_edit.specs.CrossesFromRight, half_edge_links.proofs.rev_within}
use Rattle.delaunay_edit.proofs.{InTheWay.meets_is_cross, Walking.placed_apart}
use Rattle.delaunay_edit.proofs.{Places.no_same_place, Towards.crossing, Towards.local_if_crossed}

-- the segment crosses the twin of directed edge h
abbrev pub crossed_twin : Mesh → ℕ → Item
crossed_twin m h = across (origin m (rev h)) (origin m h)

left_not_right : left ≡ right → ⊥
left_not_right e = cc

on_not_left : on ≡ left → ⊥
on_not_left e = cc

on_not_right : on ≡ right → ⊥
on_not_right e = cc

-- ---- what the segment meets
module _ (points : List Point) (m : Mesh) (s : IsValidMesh m) (i j : ℕ)
    (shape : IsMesh points (faces_of m) (outer_of m)) (count : length points ≡ length m.out_edges)
    (free : IsFreeOfVertices (drawn points m) i j) where
  distinct : ArePlacedApart points
  distinct = placed_apart points (faces_of m) (outer_of m) shape

  -- the ends of the segment are at two places
  two : ¬ IsSame (place points i) (place points j)
  two = no_same_place points distinct i j free.first free.second free.apart

  none_within : (a b k : ℕ) → k < length points → IsEdge (drawn points m) a b
      → ¬ WithinSegment (place points a) (place points b) (place points k)
  none_within a b k within edge =
      (no_edges_cross points (faces_of m) (outer_of m) (edges_of m) shape (own_edges m s)).0 a
      b k edge within

  -- an edge that is met does so from right to left, seen the other way
  module _ (h : ℕ) (within : h < length m.half_edges) where
    -- the edge starts at a vertex
    v_in : origin m h < length points
    v_in = subst (λ (n : ℕ). origin m h < n) (sym count) (s.sound.edges h within).origin_in

    -- and ends at one
    y_in : origin m (rev h) < length points
    y_in = subst (λ (n : ℕ). origin m (rev h) < n) (sym count)
        (s.sound.edges (rev h) (rev_within h (length m.half_edges) s.sound.even within)).origin_in

    -- its ends are not at one place
    ends : ¬ IsSame (place points (origin m h)) (place points (origin m (rev h)))
    ends =
        no_same_place points distinct (origin m h) (origin m (rev h)) v_in y_in (s.apart h within)

    -- it is an edge of the triangulation
    edge : IsEdge (drawn points m) (origin m h) (origin m (rev h))
    edge = edge_joins m s.sound h within

    -- and so it is in the other direction
    back : IsEdge (drawn points m) (origin m (rev h)) (origin m h)
    back = edge_back (edges_of m) (origin m h) (origin m (rev h)) edge

    by_way : IsCrossing (drawn points m) i j (origin m (rev h)) (origin m h)
        ⊎ IsCrossing (drawn points m) i j (origin m h) (origin m (rev h))
        → Meets (drawn points m) (place points i) (place points j) (crossed_twin m h)
        → CrossesFromRight points m i j h
    by_way (inl c) met = elim met.2 [
      | inl l ↦ absurd (left_not_right (sym l ∙ c.end))
      | inr o ↦ absurd (left_not_right (sym c.start ∙ o.1))
    ]
    by_way (inr c) met =
        record { from_right = c.from_right; to_left = c.to_left; start = c.start; end = c.end }

    on_line : ((a b c : ℕ) → a < length points → b < length points → c < length points
        → side (place points a) (place points b) (place points c) ≡ on) → Parts (place points i)
        (place points j) (place points (origin m (rev h))) (place points (origin m h)) → ⊥
    on_line straight (inl x) =
        on_not_right (sym (straight i j (origin m h) free.first free.second v_in) ∙ x.1)
    on_line straight (inr x) =
        on_not_left (sym (straight i j (origin m h) free.first free.second v_in) ∙ x.1)

    -- an edge whose twin the segment meets by crossing it crosses from the right
    pub crosses_if_met : Meets (drawn points m) (place points i) (place points j) (crossed_twin m h)
        → CrossesFromRight points m i j h
    crosses_if_met met = go shape
      where
        cross : Cross (place points i) (place points j) (place points (origin m (rev h)))
            (place points (origin m h))
        cross = meets_is_cross (place points i) (place points j) (place points (origin m (rev h)))
            (place points (origin m h)) (none_within (origin m (rev h)) (origin m h) i free.first
            back) (none_within (origin m (rev h)) (origin m h) j free.second back) met.1

        go : IsMesh points (faces_of m) (outer_of m) → CrossesFromRight points m i j h
        go (inl local) = by_way ((crossing_is_either_way (drawn points m) i j (origin m (rev h))
            (origin m h) (mesh_tiles points (faces_of m) (outer_of m) (edges_of m) local
            (own_edges m s)) free back).0 cross) met
        go (inr line) = absurd (on_line line.1.straight
            ((crossing_is_sides (place points i) (place points j) (place points (origin m (rev h)))
            (place points (origin m h)) two (λ e. ends (same-sym _ _ e))).0 cross).0)

    -- and an edge that does so is met
    pub met_if_crosses : CrossesFromRight points m i j h
        → Meets (drawn points m) (place points i) (place points j) (crossed_twin m h)
    met_if_crosses c = elim ways [
      | inl met ↦ absurd (elim met.2 as (λ _. ⊥) [
        | inl l ↦ left_not_right (sym l ∙ c.end)
        | inr o ↦ left_not_right (sym c.start ∙ o.1)
      ])
      | inr met ↦ met
    ]
      where
        cross : Cross (place points i) (place points j) (place points (origin m h))
            (place points (origin m (rev h)))
        cross = (crossing_is_either_way (drawn points m) i j (origin m h) (origin m (rev h))
            (mesh_tiles points (faces_of m) (outer_of m) (edges_of m)
            (local_if_crossed points m s i j shape count free h within c) (own_edges m s)) free
            edge).1 (inl (crossing points m s i j h within c))

        ways : Meets (drawn points m) (place points i) (place points j)
            (across (origin m h) (origin m (rev h)))
            ⊎ Meets (drawn points m) (place points i) (place points j) (crossed_twin m h)
        ways = crossed_either_way (drawn points m) (place points i) (place points j) two
            (origin m h) (origin m (rev h)) edge ends
            (record { at = cross.at; meet = cross.meet; within = cross.within_second })
