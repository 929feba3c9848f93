pub mod Coverings
pub mod SharedPoints
pub mod Entered
pub mod Covered
pub mod Sights
