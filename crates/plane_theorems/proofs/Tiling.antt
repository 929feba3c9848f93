-- Sums over faces and outer edges, and the count of crossings round a point.
pub mod Totals
pub mod StepsOfCounting
pub mod Flows
pub mod Counting
-- From what is local to the whole: the faces cover the hull and are apart.
pub mod Covering
pub mod Tiles
pub mod Loops
pub mod Edges
-- Points on one line, and their meshes.
pub mod Line
pub mod LinePlaces
pub mod LineMeshes
pub mod Appended
-- Meshes of both kinds, and where a point is in one.
pub mod Meshes
pub mod Readings
pub mod Places
pub mod Locations
-- Heights of vertices, and how many edges and faces there are by them.
pub mod Rising
pub mod Sweep
pub mod Counts
