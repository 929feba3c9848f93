pub use Rattle.plane.specs as plane
pub use Rattle.plane_theorems.specs as plane_theorems
pub use Rattle.half_edge_links.specs as half_edge_links
pub use Rattle.half_edge_dcel.specs as half_edge_dcel
pub use Rattle.delaunay_core.specs as delaunay_core
pub use Rattle.delaunay_legalization.specs as delaunay_legalization
pub use Rattle.delaunay_location.specs as delaunay_location
pub use Rattle.delaunay_vertices.specs as delaunay_vertices
pub mod Crossing
pub mod Lists
pub mod Kept
pub mod Adding
pub mod Releasing
pub mod PathEdges
pub mod Leaving
pub mod Turning
pub mod Location
pub mod Elements
pub mod Data
pub mod Hull
pub mod Removal
pub mod Headline
pub mod Edits
pub mod Constrained
pub mod EdgeData
pub mod Writing
pub mod Storage
pub mod ConstraintEdits
pub mod Counting
pub mod Halves
pub use Adding.{AddsPath, HasFreeWay, MarksEdge, MarksSome, NoneCrosses}
pub use Constrained.{constrained, constraint_edges, constraints_of, none}
pub use ConstraintEdits.{AddsConstraint, AddsPathIfFree, ReleasesConstraint}
pub use Counting.{EndsAt, HasPairs, IsCounted, IsMissing}
pub use Crossing.{ahead, AreAllCrossing, behind, CrossesFromRight, GoesFromRight, TurnsNearer}
pub use Data.{HasOtherEdgeData}
pub use Edits.{InsertsVertex, RemovesVertex}
pub use Elements.{FindsLocation, GivesElements, HasElement}
pub use Halves.{AreHalvesAt}
pub use Headline.{AreSites, IsDelaunay, IsWellFormed}
pub use Kept.{KeepsUncrossed, KeepsUncrossedFaces}
pub use Leaving.{LeavesToTest}
pub use Lists.{AreToTurn, HasAsEdge, HaveRoom, IsOneSubconstraint, KeepRoom}
pub use PathEdges.{LeadAlong}
pub use Releasing.{AddsConstraints, ReleasesEdge}
pub use Storage.{IsCopy, KeepsImage}
pub use Writing.{with_face_data}
pub use declared.crossing.CrossingLists.{CrossingLists}
