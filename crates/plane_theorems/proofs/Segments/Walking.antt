-- The walk along a segment: its steps, that each segment has one, and that it is the line list.
pub mod Walks
pub mod OneLine
pub mod EachWalk
pub mod WalkSteps
pub mod Steps
pub mod LaidMeshes
