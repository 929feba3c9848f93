pub use Rattle.plane.specs as plane
pub use Rattle.plane_theorems.specs as plane_theorems
pub use Rattle.half_edge_links.specs as half_edge_links
pub use Rattle.half_edge_dcel.specs as half_edge_dcel
pub use Rattle.delaunay_core.specs as delaunay_core
pub use Rattle.delaunay_legalization.specs as delaunay_legalization
pub mod Location
pub mod Distances
pub mod Stop
pub mod Candidate
pub mod Conflicts
pub mod Items
pub mod Steps
pub mod Outline
pub mod Over
pub mod Starts
pub mod Walk
pub use Candidate.{EndsNoNearer}
pub use Conflicts.{GivesConflict, HasNoConflict, IntersectsConstraint, IsConflict}
pub use Items.{item_in, item_of, mesh_of}
pub use Location.{HasHandle, Locates, location_of, StartsNearest}
pub use Starts.{StartsOutside}
pub use Steps.{IsLeftOf, IsNext}
pub use Walk.{AreLeft, GivesNext, IsOverMesh, IsReady, WalksLine}
pub use declared.intersection.FixedIntersection.{FixedIntersection}
pub use declared.intersection.FixedIntersection.TheVariants.{Edge, Overlap, Vertex}
pub use declared.intersection.Intersection.{Intersection}
pub use declared.intersection.Intersection.TheVariants.{EdgeIntersection, EdgeOverlap}
pub use declared.intersection.Intersection.TheVariants.{VertexIntersection}
pub use declared.iterator.LineIntersectionIterator.{LineIntersectionIterator}
pub use declared.position_in_triangulation.PositionInTriangulation.{PositionInTriangulation}
pub use declared.position_in_triangulation.PositionInTriangulation.TheVariants.{NoTriangulation}
pub use declared.position_in_triangulation.PositionInTriangulation.TheVariants.{OnEdge, OnFace}
pub use declared.position_in_triangulation.PositionInTriangulation.TheVariants.{OnVertex}
pub use declared.position_in_triangulation.PositionInTriangulation.TheVariants.{OutsideOfConvexHull}
