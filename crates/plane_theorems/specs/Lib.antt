pub mod Tiling
pub mod Edits
pub mod Delaunay
pub mod Segments
pub mod Sight
pub mod Parts
pub mod Ways
pub use Delaunay.Cells.{InCell}
pub use Delaunay.EdgeTests.{AreCornersOn, distance_2, factor, HasPointIn, MeetsRectangle}
pub use Delaunay.Flood.{circle, HasStart, InRegion, IsTried, rectangle, Region, start_point}
pub use Delaunay.History.{HaveOneCircle, IsHistoryFree, IsVisiblyEmpty}
pub use Delaunay.Nearer.{nearer_count}
pub use Edits.Away.{AreAway}
pub use Edits.Change.{FacesChange, IsFaceOf, IsTurnFree, OuterChange}
pub use Edits.EmptyRound.{IsEmptyRound}
pub use Edits.Extension.{fan, IsExtending, IsSeenRun, last_of, steps}
pub use Edits.Legal.{AllPassBut, IsSideOfOne, lifted_volume, Pass, point_of}
pub use Edits.Removal.{AreNeighboursBut, IsOther, IsStar, LineMeshWithout, LocalMeshWithout}
pub use Edits.Removal.{new_index}
pub use Edits.RemovalHull.{chain, IsHullStar, NoneTurnsLeft, strip}
pub use Edits.StarFlips.{IsStarFlip}
pub use Parts.Parts.{IsPartOfPlane}
pub use Segments.Constraints.{AreNextOn, ArePlacedApart}
pub use Segments.Measure.{crossing_sum}
pub use Segments.Path.{ComesAfterOnRight, IsCrossing, IsFreeOfVertices, IsLastLeft, IsLastRight}
pub use Segments.Steps.{ComesNext, GoesOn, IsAhead, IsFirst, IsLast, IsWalk}
pub use Segments.WalkLaws.{IsLaid}
pub use Sight.Sight.{face_at, HasFreeFace, IsInFree, IsInSight, PassesFree}
pub use Tiling.Laws.{EdgesMeetAtVertices, IsSameLocation, IsTurned}
pub use Tiling.Local.{alone, along, AreBalanced, AreEdgesOf, around, IsAntisymmetric, IsCorner}
pub use Tiling.Local.{IsMesh, LineMesh, LocalMesh, total}
