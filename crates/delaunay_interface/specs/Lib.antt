pub use Rattle.plane.specs as plane
pub use Rattle.plane_theorems.specs as plane_theorems
pub use Rattle.half_edge_links.specs as half_edge_links
pub use Rattle.half_edge_dcel.specs as half_edge_dcel
pub use Rattle.half_edge_mesh.specs as half_edge_mesh
pub use Rattle.delaunay_core.specs as delaunay_core
pub use Rattle.delaunay_legalization.specs as delaunay_legalization
pub use Rattle.delaunay_location.specs as delaunay_location
pub use Rattle.delaunay_edit.specs as delaunay_edit
pub use Rattle.delaunay_location.specs.Conflicts
pub use Rattle.delaunay_location.specs.Items
pub use Rattle.delaunay_location.specs.Walk
pub use Rattle.delaunay_edit.specs.Constrained
pub use Rattle.delaunay_edit.specs.ConstraintEdits
pub use Rattle.delaunay_edit.specs.Data
pub use Rattle.delaunay_edit.specs.EdgeData
pub use Rattle.delaunay_edit.specs.Edits
pub use Rattle.delaunay_edit.specs.Elements
pub use Rattle.delaunay_edit.specs.Headline
pub use Rattle.delaunay_edit.specs.Hull
pub use Rattle.delaunay_edit.specs.Location
pub use Rattle.delaunay_edit.specs.Removal
pub use Rattle.delaunay_edit.specs.Storage
pub use Rattle.delaunay_edit.specs.Writing
pub mod ConstraintEdges
pub mod Views
pub mod InnerFaces
pub use InnerFaces.{inner_faces_left}
pub use Views.{AreNotJoined, IsEdgeBetween}
