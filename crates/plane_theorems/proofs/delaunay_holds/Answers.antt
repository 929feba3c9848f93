use Rattle.plane_theorems.proofs.Delaunay.Circles.CellHull.{cell_is_hull}
use Rattle.plane_theorems.proofs.Delaunay.Circles.EmptyCircles.{local_gives_constrained_delaunay}
use Rattle.plane_theorems.proofs.Delaunay.Circles.EmptyCircles.{strictly_empty_is_face}
use Rattle.plane_theorems.proofs.Delaunay.Circles.EmptyCircles.{visibly_empty_is_face}
use Rattle.plane_theorems.proofs.Delaunay.Circles.History.{faces_are_unique, overlapping_faces_tie}
use Rattle.plane_theorems.proofs.Delaunay.Circles.NearerCount.{nearer_count_falls}
use Rattle.plane_theorems.proofs.Delaunay.Circles.Nearest.{nearest_by_neighbours}
use Rattle.plane_theorems.proofs.Delaunay.Circles.Parts.{part_face_stays, part_has_cells}
use Rattle.plane_theorems.proofs.Delaunay.Circles.Parts.{part_has_face, part_knows_cells}
use Rattle.plane_theorems.proofs.Delaunay.Floods.EdgeInCircle.{edge_meets_circle}
use Rattle.plane_theorems.proofs.Delaunay.Floods.EdgeInRectangle.{edge_meets_rectangle}
use Rattle.plane_theorems.proofs.Delaunay.Floods.FloodOnLine.{flood_finds_on_line}
use Rattle.plane_theorems.proofs.Delaunay.Floods.FloodOnLine.{flood_starts_on_line}
use Rattle.plane_theorems.proofs.Delaunay.Floods.FloodRules.{flood_by_vertices_finds}
use Rattle.plane_theorems.proofs.Delaunay.Floods.FloodRules.{flood_is_bounded, flood_is_exact}
use Rattle.plane_theorems.proofs.Delaunay.Floods.FloodRules.{marks_fill_up, one_vertex_is_alone}
use Rattle.plane_theorems.proofs.Delaunay.Floods.FloodRules.{region_has_start, start_is_exact}
use Rattle.plane_theorems.proofs.Delaunay.Floods.FloodRules.{vertices_are_ends}
use Rattle.plane_theorems.proofs.Delaunay.Floods.Flooded.{flood_finds_region, flood_starts}
use Rattle.plane_theorems.proofs.Delaunay.Segments.LineItems.{line_items_are_ordered}
use Rattle.plane_theorems.proofs.Delaunay.Segments.LineItems.{meeting_of_hull}
use Rattle.plane_theorems.proofs.Delaunay.Tilings.OuterEdges.{outside_is_left_of_outer}
use Rattle.plane_theorems.proofs.delaunay_holds.Goals as goal

pub returns : goal.returns
returns c = record {
  outside_is_left_of_outer = outside_is_left_of_outer;
  local_gives_constrained_delaunay = local_gives_constrained_delaunay;
  strictly_empty_is_face = strictly_empty_is_face;
  nearest_by_neighbours = nearest_by_neighbours;
  nearer_count_falls = nearer_count_falls;
  visibly_empty_is_face = λ t constraints D i j k s. visibly_empty_is_face t constraints i j k s D;
  faces_are_unique = faces_are_unique;
  overlapping_faces_tie = overlapping_faces_tie;
  cell_is_hull = cell_is_hull;
  part_has_cells = part_has_cells;
  part_face_stays = part_face_stays;
  part_has_face = part_has_face;
  part_knows_cells = part_knows_cells;
  flood_finds_region = flood_finds_region;
  flood_starts = flood_starts;
  edge_meets_circle = edge_meets_circle;
  edge_meets_rectangle = edge_meets_rectangle;
  line_items_are_ordered = λ t h. line_items_are_ordered t (meeting_of_hull t h);
  flood_finds_on_line = flood_finds_on_line;
  flood_starts_on_line = flood_starts_on_line;
  region_has_start = region_has_start;
  start_is_exact = start_is_exact;
  vertices_are_ends = vertices_are_ends;
  one_vertex_is_alone = one_vertex_is_alone;
  flood_is_bounded = flood_is_bounded;
  flood_by_vertices_finds = flood_by_vertices_finds;
  marks_fill_up = marks_fill_up;
  flood_is_exact = flood_is_exact;
}
