pub mod Numbers
pub mod PointRows
pub mod PositionRuns
pub mod Skips
pub mod TableRows
pub mod TokenRuns
pub mod TriangleRows
pub mod WordRows
