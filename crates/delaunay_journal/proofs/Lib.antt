pub mod Inserted
pub mod Runs
pub mod SingleEdits
pub mod Symmetric
pub mod Undoing
pub mod Connections
pub mod SplitSteps
pub mod Outcomes
