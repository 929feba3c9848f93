pub mod Decided
pub mod Circles
pub mod Rectangles
pub mod Distances
pub mod FallsOn
pub mod Rims
pub mod Asking
pub mod Spreading
pub mod Handles
pub mod Flooding
pub mod Starting
pub mod FirstEdges
pub mod VertexFlood
pub mod Searches
pub mod Shapes
pub mod Marking
mod MeshFaces
mod Crossed
mod Walks
mod SightDecided
