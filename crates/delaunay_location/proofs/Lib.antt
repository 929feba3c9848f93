pub use Rattle.plane.proofs as plane
pub use Rattle.plane_theorems.proofs as plane_theorems
pub use Rattle.half_edge_links.proofs as half_edge_links_lemmas
pub use Rattle.half_edge_dcel.proofs as half_edge_dcel_lemmas
pub use Rattle.delaunay_core.proofs as delaunay_core_lemmas
pub use Rattle.delaunay_legalization.proofs as delaunay_legalization_lemmas
-- What answers to tests say.
pub mod Distances
pub mod Questions
pub mod Sides
-- Where a position is: the walk from face to face, and points on one line.
pub mod Walking
pub mod Locating
pub mod OneLine
-- The vertex nearest to a position.
pub mod Nearest
pub mod Neighbours
pub mod Candidates
pub mod BothWays
-- What a segment meets first.
pub mod SegmentTests
pub mod Located
pub mod FirstItems
pub mod OutsideItems
pub mod LineOutline
pub mod OutlineWalk
pub mod PastEnd
pub mod EitherWay
-- From one item to the next.
pub mod MeshSteps
pub mod Advance
pub mod Turn
-- The constraints that a segment meets.
pub mod ConflictSearch
pub mod Intersecting
