pub mod Points
pub mod Tilings
pub mod Circles
pub mod Floods
pub mod Segments
