pub mod VertexList
pub mod Meshes
pub mod EdgeList
pub mod Places
pub mod Room
pub mod Rest
pub mod Flip
pub mod Insert
pub mod Triangles
pub mod Grow
pub mod Outline
pub mod Grown
pub mod Renames
pub mod Remove
pub mod Peel
pub mod Move
pub mod Taken
pub mod Flow
pub mod Round
pub mod Hull
pub mod Pass
pub mod Inside
pub mod Shrunk
pub mod Copied
pub use EdgeList.{no_stored, stored_at, stored_joined}
unfoldable pub use EdgeList.{shown, stored_corner, stored_face, stored_next, stored_prev}
pub use Flip.{Flips, IsBetweenFaces, IsFlippable}
unfoldable pub use Flip.{flip_by, flipped}
pub use Flow.{around, both_ways, outer_among, outline, total}
pub use Grow.{AddsFace, Closes, edge_into, Hangs, IsClosable, IsHalfSplittable, OnOuter}
unfoldable pub use Grow.{closed, closed_edges, hung, hung_edges, slid, slid_edges, with_face}
unfoldable pub use Grow.{with_next, with_origin, with_prev}
pub use Hull.{HasOneOutline, IsClosedAlong, IsPendant, KeepsOneOutline}
pub use Insert.{Inserts}
unfoldable pub use Insert.{insert_by, inserted}
pub use Meshes.{AreSoundLinks, connected, edge_at, empty, face, face_edge, HasApartEnds, HasLinks}
pub use Meshes.{HasStars, IsAlone, IsClosed, IsInner, IsInnerEdge, IsSmall, IsSoundEdge}
pub use Meshes.{IsValidMesh, iterate, Mesh, next, no_edge, origin, out_edge, prev, rev, with_vertex}
pub use Move.{MovesVertex}
pub use Outline.{AddsTriangle, along, ClosesOuter, Ends, ends, HalfSplitsTriangles, IsOuterEdge}
pub use Outline.{IsThis, KeepsOuter, MovesEdge, origins, OuterChanges, ReplacesOuter, SplitsOuter}
pub use Pass.{Passes}
pub use Peel.{IsPeelable, IsStrip, IsWheel, Peels, spoke, turn}
pub use Places.{AreJoined, AreSixPlaces, IsLoopOfThree}
pub use Remove.{after_removal, ClosesLoop, edge_naming, IsOpenTriangle, IsRemovable, IsSoundBut}
pub use Remove.{Opens, Removes}
unfoldable pub use Remove.{unlinked, with_loop_face, with_unlinked}
pub use Renames.{IsKeptEdge, moved, Naming, pair_moved, renamed}
pub use Room.{HasRoomFor}
pub use Round.{IsRound, neighbour}
pub use Taken.{no_ends, no_triangle}
pub use Triangles.{FlipsTriangles, InsertsTriangles, SplitsTriangles, Triangle, triangle_at}
pub use Triangles.{triangles}
pub use declared.records.HalfEdge.{HalfEdge}
pub use declared.records.StoredEdge.{StoredEdge}
pub use declared.room.TheConstants.{MAX_ELEMENTS}
