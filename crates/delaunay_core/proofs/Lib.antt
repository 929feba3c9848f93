pub mod Projections
