pub use Rattle.plane.proofs as plane
pub use Rattle.plane_theorems.proofs as plane_theorems
pub use Rattle.half_edge_links.proofs as half_edge_links_lemmas
pub use Rattle.half_edge_dcel.proofs as half_edge_dcel_lemmas
pub use Rattle.delaunay_core.proofs as delaunay_core_lemmas
pub use Rattle.delaunay_legalization.proofs as delaunay_legalization_lemmas
pub use Rattle.delaunay_location.proofs as delaunay_location_lemmas
pub use Rattle.delaunay_vertices.proofs as delaunay_vertices_lemmas
-- What answers to tests say of points.
pub mod Places
pub mod Walking
-- The edges that cross a segment, listed.
pub mod MetEdges
pub mod Beginning
pub mod Listing
pub mod CrossingList
pub mod MovedEdges
pub mod Seeking
-- Edges are turned towards a segment until none crosses it.
pub mod Towards
pub mod OneTurn
pub mod Making
pub mod LeftToTest
-- The subconstraints of a path, one after another.
pub mod Passing
pub mod NextVertex
pub mod AddingSubconstraints
pub mod OneSubconstraint
pub mod InTheWay
pub mod PassedVertices
pub mod ListingPath
-- Marks, and constraints that are released.
pub mod Marks
pub mod JoinedPairs
pub mod Releasing
-- What each triangulation keeps, and what callers learn of it.
pub mod WellFormed
pub mod Delaunay
pub mod Edges
pub mod Counts
pub mod HullSizes
pub mod Vertices
pub mod Cases
-- Insertions, removals, and data that change.
pub mod Inserting
pub mod Overwriting
pub mod EmptyRound
pub mod Removing
pub mod FreeRemoval
pub mod OtherData
pub mod Copies
-- Constraints that are added and released.
pub mod Constrained
pub mod ConstraintEdges
pub mod EditingConstraints
pub mod JoinedPath
pub mod OneSubconstraintAdded
-- How many constraints there are.
pub mod PairCounts
pub mod EditCounts
pub mod DifferentConstraints
pub mod CountingAt
pub mod CountingPath
pub mod CountingWalk
pub mod CountingSplits
pub mod Recounted
-- Straight constraints whose middle goes.
pub mod SeekingEnds
pub mod FarEnds
pub mod JoinedHalves
pub mod JoiningData
pub mod Settling
