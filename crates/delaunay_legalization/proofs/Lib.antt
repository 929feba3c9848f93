pub use Rattle.plane.proofs as plane
pub use Rattle.plane_theorems.proofs as plane_theorems
pub use Rattle.half_edge_links.proofs as half_edge_links_lemmas
pub use Rattle.half_edge_dcel.proofs as half_edge_dcel_lemmas
pub use Rattle.delaunay_core.proofs as delaunay_core_lemmas
-- Lists, and lists of edges to test.
pub mod Entries
pub mod WorkLists
-- Directed edges as pairs of vertices, and outer edges among them.
pub mod TurnedEnds
pub mod EdgePairs
pub mod OwnEdges
pub mod OuterEdges
pub mod OuterChanges
pub mod PairSums
-- Faces as triples of vertices.
pub mod FaceChanges
pub mod FaceSums
-- A mesh grows: in a face, past the hull, and on a line.
pub mod MeshEdits
pub mod MeshExtension
pub mod MeshLines
pub mod LineNeighbours
pub mod MeshLineEnds
-- The edges round a vertex and the sides opposite it, in the mesh and in the plane.
pub mod Borders
pub mod RoundShift
pub mod MeshStars
pub mod MeshStarFlips
pub mod StarTurns
-- A vertex loses its edges, and goes.
pub mod MeshInnerRemoval
pub mod MeshHullRemoval
pub mod MeshLineRemoval
pub mod MeshVertexLeaves
pub mod MeshDrops
pub mod MeshRemovals
-- Edges are turned until each passes the circle test.
pub mod MeshStays
pub mod MeshLegal
-- The outer edges are one loop.
pub mod LowestVertex
pub mod OutlineRounds
pub mod OutlineOnLine
pub mod OneOutline
pub mod OutlineGiven
-- What answers to tests say of points, and what follows from the shape of a mesh.
pub mod Between
pub mod Shapes
pub mod Questions
pub mod ElementCounts
pub mod MeshParts
-- Which edges are constraints.
pub mod Constraints
pub mod ConstraintEdges
pub mod MarkedPairs
-- Flips until no edge fails: the work list, each step, and the end.
pub mod Bits
pub mod EdgeSets
pub mod Legalizing
pub mod WorkList
pub mod Placing
pub mod Stepping
pub mod Flips
-- The edges of a vertex, one after another.
pub mod Rounds
pub mod Spokes
pub mod Pushing
-- Which edges a flip leaves to test.
pub mod Stars
pub mod FarSides
pub mod OppositeSides
pub mod OppositeTurns
pub mod CircleQuestions
pub mod AmongSteps
pub mod AmongSides
pub mod RoundLists
pub mod RoundSteps
pub use ConstraintEdges.{constraints_are_edges}
pub use Constraints.{fixed_edge_is, fixed_within}
pub use EdgePairs.{edge_joins, half_of_even, joins_edge, no_joins, rev_of_even}
pub use ElementCounts.{edges_counted, faces_counted}
pub use Entries.{one_value}
pub use FaceChanges.{turned_faces}
pub use MarkedPairs.{joined_by_mark, JoinsByMark, mark_joins}
pub use MeshEdits.{face_before}
pub use MeshLegal.{IsListedEdge, joins_directed, line_has_none, listed_edge, none_or_some}
pub use MeshLegal.{own_indexes}
pub use MeshParts.{mesh_edge, mesh_face, outer_bare}
pub use MeshStars.{edge_of_face}
pub use MeshStays.{face_there, half_same, halved, one_way, slice_get-set_other}
pub use OneOutline.{one_outline}
pub use OuterEdges.{listed, real}
pub use OutlineGiven.{along_ends, along_goes_on, along_next, indexes, IsGoingAlong}
pub use OwnEdges.{own_edges}
pub use Questions.{both_ways, covered_in}
pub use Rounds.{IsGoingRound, round_at, round_of}
pub use Shapes.{laid_out_tiles}
pub use StarTurns.{same_start}
pub use WorkLists.{at_most_so_many, contains_before, contains_last, contains_map, contains_map_from}
pub use WorkLists.{once_after}
