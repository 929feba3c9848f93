pub mod Parts
pub mod Hidden
pub mod Theorems
