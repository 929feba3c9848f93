pub mod Tiling
pub mod Edits
pub mod Delaunay
pub mod Segments
pub mod Sight
pub mod Parts
pub mod Ways
pub use Delaunay.Points.Bracket.{bracket-second, bracket-swapped}
unfoldable pub use Delaunay.Points.Bracket.{bracket}
pub use Edits.Insertion.Hull.{next_unique}
pub use Edits.Legalization.Flipping.{joins_or_not, one_question}
pub use Edits.Legalization.NewPoint.{none_in_empty}
pub use Edits.LocalMesh.Changes.{face_from, IsOnce, once_cons, once_head, once_none, once_tail}
pub use Edits.LocalMesh.Changes.{turn_of_all}
pub use Edits.LocalMesh.Kept.{flip_kept, turning_of}
pub use Segments.Constraints.Shorter.{path_shortens}
pub use Segments.Constraints.Subconstraints.{on_parts, path_ends, path_goes_on}
pub use Segments.Crossing.EitherWay.{one_point}
pub use Segments.First.LineStarts.{equal_ends, first_on_line}
pub use Segments.Items.Begins.{edge_flipped}
pub use Segments.Items.Orders.{nearer-same_second}
pub use Tiling.Appended.{kept_point}
pub use Tiling.Counting.{at, corners_differ, same_place, SignMesh}
pub use Tiling.Counts.{hull_edges_count, line_edges_count}
pub use Tiling.Edges.{turned_within, within_on}
pub use Tiling.Line.{Adjoin, next_turned, SignLine}
pub use Tiling.LineMeshes.{line_by_signs}
pub use Tiling.Locations.{each_point_has_one_location, no_edges_cross}
pub use Tiling.Loops.{mesh_tiles}
pub use Tiling.Meshes.{meshes_tile}
pub use Tiling.Tiles.{by_signs, point_at}
pub use Tiling.Totals.{Contains-cases, Contains-head, Contains-later, Contains-none, get_or_any}
