pub mod Known
pub mod Around
pub mod Behind
