pub mod Data
pub mod Growth
pub mod Edges
pub mod Constraints
pub mod RemovalData
pub mod Star
pub mod Hull
pub mod Freeing
pub mod Pairs
pub mod Lists
pub mod Removal
pub use Constraints.{SplitsConstraints}
pub use Data.{GrowsAround, KeepsData}
pub use Edges.{AddsOnly, SplitsAt}
pub use Freeing.{FreesEdgesAt}
pub use Growth.{CanTake, GainsVertex}
pub use Hull.{HasNoFlippableEdge, IsCornerAt, IsHullFan}
pub use Pairs.{FailOnlyAt, former_index, HasBorder, KeepsPairs, pairs_left}
pub use Removal.{TakesVertexOut}
pub use RemovalData.{HasDataOfEdge, HasDataOfFace, HasValueAt, KeepsDataBeside, KeepsDataOfOthers}
pub use RemovalData.{RenumbersEdges, StandsBeside}
pub use Star.{HasSpoke, IsConvexAt, IsInnerStar, IsolatesVertex, IsSpokeThat, MayTurnAway}
pub use Star.{TurnsAway}
