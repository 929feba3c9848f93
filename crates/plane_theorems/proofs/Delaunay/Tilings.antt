-- Where a point is in a tiling, what lies across a side, and ways through faces.
pub mod Faces
pub mod Ground
pub mod Across
pub mod Beyond
pub mod Cones
pub mod Walk
pub mod Generic
pub mod Where
pub mod OuterEdges
pub mod Meets
