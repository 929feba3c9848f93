pub use Rattle.half_edge_links.specs as half_edge_links
pub mod MeshContents
pub mod Copied
pub mod Empty
pub mod GrownData
pub mod Growth
pub mod Hole
pub mod Mapped
pub mod Removal
pub mod Shapes
pub mod Taking
pub mod Writing
pub mod Left
pub mod Rounds
pub mod Walks
pub use GrownData.{AddsData}
pub use Growth.{AddsEdges, Grows, joins, SplitsEdge, with_ends}
pub use Hole.{HasFreeTip, IsBorder, IsHub}
pub use Left.{each_in}
pub use MeshContents.{Contents, Edge, edge_with, edges, edges_of, FitsMesh, HasRoom, IsMeshWithData}
pub use Removal.{AreSidesOf, Connects, DropsVertex, faces_between, FillsHole, full_edges}
pub use Removal.{full_edges_of, full_faces, full_faces_of, FullEdge, FullFace, HasCorners}
pub use Removal.{HasFewEdges, LeavesMesh, LosesEdges, LosesFaces, LosesStrip, OuterSumsChange}
pub use Removal.{renumbered_edge, renumbered_face, spokes_to, TakesOut}
pub use Rounds.{GivesOuterLoop, GivesRound, hull_left, out_edges_left}
pub use Taking.{RemovesFullEdge}
pub use Walks.{IsEnding, walk}
pub use Writing.{with_face}
pub use declared.edge.DirectedEdgeHandle.{DirectedEdgeHandle}
pub use declared.edge_walk.EdgeWalk.{EdgeWalk}
pub use declared.vertex.VertexHandle.{VertexHandle}
