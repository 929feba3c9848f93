-- The edges round each vertex stay one round.
pub mod StarsKept
pub mod StarsRemove
