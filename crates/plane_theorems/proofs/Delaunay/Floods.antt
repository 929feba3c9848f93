-- The edges that meet a circle or a rectangle, and floods through faces that find all of them.
pub mod Regions
pub mod EdgeInCircle
pub mod EdgeInRectangle
pub mod Flood
pub mod FloodStart
pub mod Flooded
pub mod FloodOnLine
pub mod FloodRules
