pub mod Ways
pub mod Steps
pub mod Search
pub mod Pulling
pub mod Parts
pub mod Widths
pub mod Turning
pub use Parts.{GivesLabel, IsFlood, KeepsLabels, label_at, work_of}
pub use Search.{Begins, count_unmarked, Spreads}
pub use Steps.{AreSteps, IsStep}
pub use Ways.{point_at}
pub use Widths.{AreWide}
