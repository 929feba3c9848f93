pub use Rattle.half_edge_links.specs as half_edge_links
pub use Rattle.half_edge_dcel.specs as half_edge_dcel
pub use Rattle.half_edge_links.specs.Meshes as Mesh
pub use Rattle.half_edge_links.specs.Room
pub use Rattle.half_edge_links.specs.Flip
pub use Rattle.half_edge_links.specs.Insert
pub use Rattle.half_edge_links.specs.Triangles
pub use Rattle.half_edge_links.specs.Grow
pub use Rattle.half_edge_links.specs.Outline
pub use Rattle.half_edge_links.specs.Renames
pub use Rattle.half_edge_links.specs.Remove
pub use Rattle.half_edge_links.specs.Peel
pub use Rattle.half_edge_links.specs.Move
pub use Rattle.half_edge_links.specs.Taken
pub use Rattle.half_edge_links.specs.Flow
pub use Rattle.half_edge_links.specs.Round
pub use Rattle.half_edge_links.specs.Hull
pub use Rattle.half_edge_links.specs.Pass
pub use Rattle.half_edge_dcel.specs.MeshContents as Contents
pub use Rattle.half_edge_dcel.specs.Empty
pub use Rattle.half_edge_dcel.specs.GrownData
pub use Rattle.half_edge_dcel.specs.Growth
pub use Rattle.half_edge_dcel.specs.Hole
pub use Rattle.half_edge_dcel.specs.Mapped
pub use Rattle.half_edge_dcel.specs.Removal
pub use Rattle.half_edge_dcel.specs.Shapes
pub use Rattle.half_edge_dcel.specs.Writing
pub use Rattle.half_edge_dcel.specs.Left
pub use Rattle.half_edge_dcel.specs.Rounds
pub use Rattle.half_edge_dcel.specs.Walks
pub mod Voronoi
