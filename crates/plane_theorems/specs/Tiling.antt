pub mod Local
pub mod Laws
pub mod Theorems
