-- Directed edges by their indexes, writes into lists, sums, and walks by a one-to-one function.
pub mod Rev
pub mod Cases
pub mod Writes
pub mod Pushes
pub mod VertexLists
pub mod Sums
pub mod Orbits
pub mod OneOrbit
pub mod Walks
pub mod Named
