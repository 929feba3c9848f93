-- From the local test to the circle of each face, and which vertex is nearest.
pub mod Lift
pub mod Global
pub mod EmptyCircles
pub mod History
pub mod Cells
pub mod CellHull
pub mod Parts
pub mod Nearest
pub mod NearestOnLine
pub mod NearerCount
