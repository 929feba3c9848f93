pub mod Drawn
pub mod Rows
pub mod Runs
pub mod States
pub mod Stretches
pub mod Tables
pub mod Triangle
pub mod Written
pub use Drawn.{AddsSpot, Draws, IsNumberAt, SameNumbers}
pub use Rows.{rows_of, words_of}
pub use Runs.{DrawsRuns, HasPositions, IsPosition}
pub use Stretches.{is_in}
pub use Triangle.{TakesRows}
pub use Written.{IsAsWritten}
pub use declared.drawing.Drawing.{Drawing}
pub use declared.drawing.Number.{Number}
pub use declared.drawing.Spot.{Spot}
pub use declared.shapes.GeoPosition.{GeoPosition}
