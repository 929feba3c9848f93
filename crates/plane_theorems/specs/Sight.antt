pub mod Sight
pub mod Theorems
