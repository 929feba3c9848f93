pub use Rattle.half_edge_links.proofs as half_edge_links_lemmas
-- Data beside the parts of a mesh: lists that grow, shrink or are turned.
pub mod Fits
pub mod FaceData
pub mod EdgeLists
pub mod Turning
pub mod TakenOut
pub mod TakenEdges
pub mod Filtered
-- The outer edges after a change.
pub mod Outlines
pub mod OuterSums
-- One edge gets other ends, and edges are turned away from a vertex.
pub mod Touching
pub mod TwoEdges
pub mod Hubs
pub mod TurnedEdge
-- A vertex loses its edges, on a line, on the hull and inside, and goes.
pub mod LineSteps
pub mod StripSteps
pub mod HoleSteps
pub mod HoleFilled
pub mod Dropped
pub mod Ranges
pub mod Walks
pub mod Loops
pub mod Joined
pub mod Taken
pub mod BothEnds
