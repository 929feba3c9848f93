pub mod Digits
pub mod WordsLemmas
pub mod Values
pub mod Exact
-- The printed tables, and the tests that make them true.
pub mod Rule
pub mod Level
pub mod Tables
pub mod Truth
pub mod Found
-- Input cut into lines, texts that are written, and the states of a run.
pub mod CutLemmas
pub mod OutputLemmas
pub mod RunLemmas
pub mod Stages
-- Replies: faces, locations and distances.
pub mod SortedFaces
pub mod FaceList
pub mod MeshFaces
pub mod Locations
pub mod Distances
-- Replies to edits, paths and lines.
pub mod Insertions
pub mod Paths
pub mod Walks
pub mod Marks
pub mod Releases
