pub mod Keeps
pub mod Kept
pub mod Answers
pub mod Edits
pub mod Written
pub mod Queries
pub mod Links
pub mod Lists
pub mod Words
pub mod Layers
pub mod Sight
pub mod Ways
pub mod Reach
pub mod Wide
pub mod Conflicts
pub mod Shapes
pub mod Calls
pub mod View
pub mod Metrics
pub mod Beyond
pub use Beyond.{IsFlagAt}
pub use Conflicts.{AreCrossed}
pub use Kept.{kept_place}
pub use Links.{indexes_in}
pub use Lists.{GivesNumbers, unnumbered_points}
pub use Queries.{IsFaceEntry, IsMeeting}
pub use Sight.{is_free_face, is_marked}
pub use Ways.{raw_point}
pub use Written.{Answered, found, IsAnswerAt, IsRawInRange, listed, plain_point, refused}
pub use declared.kept.AnyTriangulation.{AnyTriangulation}
pub use declared.kept.AnyTriangulation.TheVariants.{Constrained, Plain}
pub use declared.raw.NumberedPoint.{NumberedPoint}
pub use declared.raw.RawFace.{RawFace}
pub use declared.raw.RawMeeting.{RawMeeting}
pub use declared.raw.RawPoint.{RawPoint}
pub use declared.raw.RawSegment.{RawSegment}
pub use declared.statuses.TheConstants.{OUT_OF_MEMORY, WELL}
