-- A new vertex: inside the hull, outside of it, and where all others are on one line.
pub mod Insertions
pub mod Hull
pub mod Extension
pub mod Growing
pub mod FromLine
pub mod OnLine
