pub mod SmallRemovals
