pub mod Exits
pub mod Together
pub mod Reached
pub mod Trails
