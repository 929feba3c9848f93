-- What a segment meets next after an item, and where it ends.
pub mod NextItems
pub mod Overlaps
pub mod Vertices
pub mod Ends
pub mod VertexEnds
