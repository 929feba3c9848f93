-- What a mesh and a triangulation keep where they get one more vertex.
pub mod Growing
pub mod InsertionCases
pub mod FirstVertices
pub mod Appending
pub mod NewVertex
pub mod MadeFaces
pub mod EdgeSides
-- A vertex outside the hull, and at the ends of a line.
pub mod LineEnds
pub mod Joining
-- The data of vertices, edges and faces.
pub mod DataGrowing
pub mod DataKept
pub mod EdgeLists
-- Constraints: one that the vertex is strictly within becomes two.
pub mod MarkedEdges
pub mod EdgeSplits
pub mod SplitConstraints
-- The circle test round the vertex.
pub mod LeftToTest
pub mod EmptyRound
-- The data of what stands beside a vertex that goes.
pub mod DataReads
pub mod DataStays
pub mod DataTurns
pub mod DataDrops
pub mod DataLegalized
-- The edges of a vertex: counted, searched and turned.
pub mod Rounds
pub mod Degrees
pub mod Searching
pub mod BothRounds
pub mod Convex
pub mod Turns
pub mod Turning
pub mod Borders
-- An inner vertex loses its edges.
pub mod InnerStars
pub mod Shrinking
pub mod InnerHoles
pub mod Between
pub mod Isolating
-- A vertex on the hull loses its edges.
pub mod HullStars
pub mod HullSides
pub mod HullCuts
pub mod HullShrinking
pub mod HullIsolating
pub mod HullEdges
-- The vertex goes, with its constraints.
pub mod Removing
pub mod Drops
pub mod LeavingConstraints
pub mod FreedEdges
pub mod RemovingConstraints
-- What is left to test.
pub mod FacesAfterRemoval
pub mod LeftFaces
pub mod PairEdges
pub mod Passing
