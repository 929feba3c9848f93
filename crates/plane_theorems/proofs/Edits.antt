pub mod LocalMesh
pub mod Insertion
pub mod Legalization
pub mod Removal
