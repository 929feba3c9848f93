pub mod Items
pub mod Next
pub mod First
pub mod Walking
pub mod Crossing
pub mod Constraints
