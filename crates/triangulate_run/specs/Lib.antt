pub mod Watched
pub mod Grammar
pub mod Reading
pub mod Points
pub mod Sheet
pub mod Table
pub mod Range
pub mod Corners
pub mod Stage
pub mod Reply
pub mod Answer
pub mod Line
pub mod Output
pub mod Fragment
pub mod Run
pub mod Fault
pub mod MeshFaces
pub mod Engine
pub use Corners.{least_first}
pub use Engine.{ends_in, stage_by, stage_of}
pub use Grammar.{words_of}
pub use MeshFaces.{row_at}
pub use Output.{AppendsPart, Sends}
pub use Points.{HoldsAt, IsListed, IsSiteAt, nowhere, place, point_in}
pub use Reply.{reply_text}
pub use Stage.{Fits, position}
pub use Watched.{has_failed, inner_of}
pub use declared.circles.Circle.{Circle}
pub use declared.points.SheetPoint.{SheetPoint}
pub use declared.reply.Reply.TheVariants.{Refused}
pub use declared.table.TheConstants.{B_POINTS, G_POINTS, L_POINTS, R_POINTS, X_POINTS}
