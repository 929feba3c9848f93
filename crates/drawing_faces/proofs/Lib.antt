-- Vertices and segments of a drawing.
pub mod Named
pub mod Firsts
pub mod Taking
pub mod Refusing
-- Faces that are reached past no constraint, and those that are kept.
pub mod MeshFaces
pub mod Listing
pub mod Flooding
pub mod InFaces
pub mod Inside
pub mod Beside
pub mod Keeping
-- All steps together.
pub mod Together
-- Segments that were split.
pub mod Leading
-- Which polygons a face is in.
pub mod Parities
pub mod PolygonSearching
