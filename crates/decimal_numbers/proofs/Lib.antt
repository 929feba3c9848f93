pub mod Splits
pub mod Cuts
pub mod Longs
pub mod Powers
pub mod Spellings
pub mod Reaches
