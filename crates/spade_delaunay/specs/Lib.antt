pub use Rattle.plane.specs.Circle
pub use Rattle.plane.specs.Crossing
pub use Rattle.plane.specs.Delaunay
pub use Rattle.plane.specs.Fractions as Fraction
pub use Rattle.plane.specs.Hint
pub use Rattle.plane.specs.Line
pub use Rattle.plane.specs.Pairs
pub use Rattle.plane.specs.PlainEdits as Plain
pub use Rattle.plane.specs.Shape
pub use Rattle.plane.specs.Sides as Side
pub use Rattle.plane.specs.Tests
pub use Rattle.plane.specs.Tiling
pub use Rattle.plane_theorems.specs.Delaunay.EdgeTests
pub use Rattle.plane_theorems.specs.Delaunay.History
pub use Rattle.plane_theorems.specs.Sight.Sight
pub use Rattle.plane_theorems.specs.Ways.Chains
pub use Rattle.half_edge_dcel.specs.MeshContents as Contents
pub use Rattle.half_edge_dcel.specs.Left
pub use Rattle.half_edge_links.specs.Meshes as Mesh
pub use Rattle.half_edge_links.specs.Room
pub use Rattle.half_edge_dcel.specs.Rounds
pub use Rattle.half_edge_links.specs.Triangles
pub use Rattle.half_edge_mesh.specs.Voronoi
pub use Rattle.delaunay_core.specs.Held
pub use Rattle.delaunay_core.specs.Place
pub use Rattle.delaunay_core.specs.Projection
pub use Rattle.delaunay_core.specs.Turned
pub use Rattle.delaunay_legalization.specs.CdtEdge
pub use Rattle.delaunay_legalization.specs.Constraints
pub use Rattle.delaunay_legalization.specs.Flips
pub use Rattle.delaunay_legalization.specs.Known
pub use Rattle.delaunay_legalization.specs.State
pub use Rattle.delaunay_shapes.specs.Beside
pub use Rattle.delaunay_location.specs.Conflicts
pub use Rattle.delaunay_edit.specs.Constrained
pub use Rattle.delaunay_interface.specs.ConstraintEdges
pub use Rattle.delaunay_edit.specs.ConstraintEdits
pub use Rattle.delaunay_edit.specs.Data
pub use Rattle.delaunay_edit.specs.EdgeData
pub use Rattle.delaunay_edit.specs.Edits
pub use Rattle.delaunay_edit.specs.Elements
pub use Rattle.delaunay_edit.specs.Headline
pub use Rattle.delaunay_edit.specs.Hull
pub use Rattle.delaunay_interface.specs.InnerFaces
pub use Rattle.delaunay_location.specs.Items
pub use Rattle.delaunay_edit.specs.Location
pub use Rattle.delaunay_edit.specs.Removal
pub use Rattle.delaunay_edit.specs.Storage
pub use Rattle.delaunay_interface.specs.Views
pub use Rattle.delaunay_location.specs.Walk
pub use Rattle.delaunay_edit.specs.Writing
pub use Rattle.delaunay_extensions.specs.Layers
pub use Rattle.delaunay_extensions.specs.Distances
pub use Rattle.delaunay_extensions.specs.Found
pub use Rattle.delaunay_ways.specs.Ways
pub use Rattle.delaunay_ways.specs.Parts
pub use Rattle.delaunay_ways.specs.Widths
