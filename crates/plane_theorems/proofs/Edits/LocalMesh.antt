-- What an edit that changes faces and outer edges leaves of a local mesh.
pub mod Changes
pub mod Exchange
pub mod Additions
pub mod Cuts
pub mod Kept
