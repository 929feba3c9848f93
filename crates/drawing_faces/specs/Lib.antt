pub mod Names
pub mod Refusals
pub mod Segments
pub mod Kept
pub mod Flood
pub mod Holes
pub mod Sides
pub mod Drawing
pub mod Splitting
pub mod Within
pub mod Parity
pub mod Polygons
pub mod PolygonSearch
pub use Drawing.{ends_of, face_of, faces_inside, indexes_at, memory_refused, RefusesDrawing}
pub use Flood.{IsFlood, IsReached, MarkOpenFaces}
pub use Holes.{AreIn}
pub use Kept.{AreKept, IsLeftOut}
pub use Names.{places_of, position}
pub use Parity.{either, has, IsDifference}
pub use PolygonSearch.{IsSearch, lists_in, work_left}
pub use Polygons.{label_at, list_at, sides_in}
pub use Refusals.{HasEnds, MayTake, RefusesEnds, RefusesPoints}
pub use Sides.{AddsBeside}
pub use Splitting.{AreLed, IsAnyPoint}
pub use declared.edits.DrawnSegment.{DrawnSegment}
pub use declared.error.DrawingError.{DrawingError}
pub use declared.error.DrawingError.TheVariants.{OutOfMemory}
pub use declared.faces.FaceCorners.{FaceCorners}
pub use declared.faces.Kept.TheVariants.{All}
