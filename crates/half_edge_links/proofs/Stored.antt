-- The records by which a list keeps its directed edges, and what writes to them show.
pub mod Shown
pub mod Keeps
pub mod Turned
pub mod Fanned
pub mod Joined
pub mod Written
pub mod Hung
pub mod Relinked
pub mod Removed
