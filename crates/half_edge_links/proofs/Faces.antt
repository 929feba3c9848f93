-- An edge turned, a vertex put into a face, and an edge split between two faces.
pub mod FlipLemmas
pub mod FlipSound
pub mod FlipTriangles
pub mod InsertLemmas
pub mod InsertSound
pub mod InsertTriangles
pub mod SplitLemmas
pub mod KeepsOuter
