-- Constraints as paths of edges: their subconstraints, and what a split, a flip and a removal leave
-- of them.
pub mod Parts
pub mod Splits
pub mod Subconstraints
pub mod Shorter
pub mod Whole
pub mod Adding
pub mod HalvesJoin
pub mod RemovalKeeps
