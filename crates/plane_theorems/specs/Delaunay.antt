pub mod Nearer
pub mod History
pub mod Cells
pub mod Flood
pub mod EdgeTests
pub mod Laws
pub mod Theorems
