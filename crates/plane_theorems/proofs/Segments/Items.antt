-- What a segment meets: where each item begins, the order of items, and how sides decide it.
pub mod Slopes
pub mod Begins
pub mod Orders
pub mod OverlapDecided
pub mod SideSigns
