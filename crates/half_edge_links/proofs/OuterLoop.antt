-- The outer edges after each call, and that the outer face keeps one loop.
pub mod Outer
pub mod Outline
pub mod OutlineTaken
pub mod OutlineTraced
pub mod OutlineFilled
