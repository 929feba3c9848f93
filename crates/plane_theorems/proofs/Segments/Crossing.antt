-- The edges that cross a segment between two vertices, and the flips that leave none.
pub mod EitherWay
pub mod Turns
pub mod Falling
pub mod Order
pub mod Chosen
pub mod Lowering
pub mod Paths
pub mod PathFlips
