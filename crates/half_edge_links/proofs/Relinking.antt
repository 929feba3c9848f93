-- The laws of relinking: what a change of a few links leaves of a mesh.
pub mod Rounds
pub mod Walks
