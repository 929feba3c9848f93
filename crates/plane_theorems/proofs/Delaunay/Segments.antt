-- What a segment meets of a tiling, and when one of two vertices is an edge.
pub mod LineItems
pub mod Joining
pub mod Uncrossed
pub mod FlipExists
