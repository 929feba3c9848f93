-- A flip on a path keeps the constraints; a subconstraint of a path is free of vertices, and on one
-- line it is an edge.
-- Lemmas: path_flip_keeps_constraints, subconstraint_is_free, subconstraint_on_line_is_edge.
use Rattle.std.proofs.Common.{ℕ, sym, subst₂}
use mathlib.Core.Logic.{inl, inr}
use Rattle.plane.specs.{Cross, IsEdge, IsSamePair, TilesHull, Triangulation, vertex}
use Rattle.plane.proofs.{turned_join}
use Rattle.plane_theorems.specs.{IsSideOfOne, Segments.PathSteps.SubconstraintOnLineIsEdge}
use Rattle.plane_theorems.specs.Segments.PathSteps.{PathFlipKeepsConstraints, SubconstraintIsFree}
use Rattle.plane_theorems.proofs.Edits.Legalization.FlipHistory.{side_stays}
use Rattle.plane_theorems.proofs.Segments.Crossing.EitherWay.{crossing_is_either_way}

side_of_edge : (t : Triangulation) → TilesHull t → (a b : ℕ) → IsEdge t a b
    → IsSideOfOne t.faces a b
side_of_edge t h a b e =
    elim ((h.sides a b).0 e) [ inl f ↦ (f.0, inl f.1) | inr f ↦ (f.0, inr f.1) ]

edge_of_side : (t : Triangulation) → TilesHull t → (a b : ℕ) → IsSideOfOne t.faces a b
    → IsEdge t a b
edge_of_side t h a b (k, inl f) = (h.sides a b).1 (inl (k, f))
edge_of_side t h a b (k, inr f) = (h.sides a b).1 (inr (k, f))

-- where an edge across a segment is flipped, constraints that do not cross the segment stay edges
pub path_flip_keeps_constraints : PathFlipKeepsConstraints
path_flip_keeps_constraints t after constraints i j v x y z h h' free c change edges clear a b k =
    elim (side_stays t.faces after.faces v x y z change a b (side_of_edge t h a b (edges a b k)))
    [ inl s ↦ edge_of_side after h' a b s | inr e ↦ absurd (clear a b k (crossed e)) ]
  where
    crossed : IsSamePair a b v y → Cross (vertex t i) (vertex t j) (vertex t a) (vertex t b)
    crossed (inl e) = subst₂ (λ c d. Cross (vertex t i) (vertex t j) (vertex t c) (vertex t d))
        (sym e.0) (sym e.1) ((crossing_is_either_way t i j v y h free c.edge).1 (inl c))
    crossed (inr e) = subst₂ (λ c d. Cross (vertex t i) (vertex t j) (vertex t c) (vertex t d))
        (sym e.0) (sym e.1)
        ((crossing_is_either_way t i j y v h free (turned_join t.edges v y c.edge)).1 (inr c))

-- a subconstraint of a path has no vertex strictly within
pub subconstraint_is_free : SubconstraintIsFree
subconstraint_is_free t i j a b n = record {
  apart = n.apart;
  first = n.first_index;
  second = n.second_index;
  none_between = n.none_between;
}

-- where all vertices are on one line, two with none strictly between them are joined by an edge
pub subconstraint_on_line_is_edge : SubconstraintOnLineIsEdge
subconstraint_on_line_is_edge t i j h free = (h.neighbours i j).1 (record {
  apart = free.apart;
  first = free.first;
  second = free.second;
  none_between = free.none_between;
})
