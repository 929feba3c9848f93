pub mod Chains
pub mod Links
pub mod Theorems
