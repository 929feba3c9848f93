pub use Rattle.plane.specs as plane
pub use Rattle.plane_theorems.specs as plane_theorems
pub use Rattle.half_edge_links.specs as half_edge_links
pub use Rattle.half_edge_dcel.specs as half_edge_dcel
pub use Rattle.delaunay_core.specs as delaunay_core
pub mod Drawn
pub mod Stays
pub mod Legal
pub mod Between
pub mod State
pub mod Constraints
pub mod Shape
pub mod Known
pub mod Flips
pub mod CdtEdge
pub mod Bits
pub mod EdgeSet
pub mod Lending
pub mod Star
pub mod Around
pub mod Parts
pub mod Marking
pub mod Legalized
pub mod Pushing
pub mod Among
pub mod Sides
pub mod Embedding
pub use Among.{FailOnlyOf, IsQuiet}
pub use Bits.{has_bit}
pub use CdtEdge.{is_constraint, with_mark}
pub use Constraints.{constraint_pairs, constraints_by, marked_edges, marked_from, not_both}
pub use Constraints.{points_and_constraints_by}
pub use Drawn.{corners_of, drawn, edges_of, faces_of, outer_of, pair_of}
pub use Embedding.{IsEmbedding, Reading}
pub use Flips.{CountsFlips, FlipsFit}
pub use Known.{IsKnown, point_at}
pub use Legal.{AreEdges, Gains, GainsRound, IsFailing, IsPartlyLegal, pair_at, pairs_at, steps_left}
pub use Legalized.{Legalizes}
pub use Marking.{HasEdgeData}
pub use Parts.{IsApart, IsInsideFaceOf, IsMeshEdge, IsMeshFace, IsWithinEdge}
pub use Shape.{IsDelaunayTriangulation, IsTriangulated}
pub use Sides.{AreLeftToTest}
pub use Star.{MakesFacesAt}
pub use State.{points_and_constraints, state_of, triangulation_of}
pub use Stays.{GoSameDirection, HaveSameCorners, KeepsIndexes}
