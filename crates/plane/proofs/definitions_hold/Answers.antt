use Rattle.std.proofs.Common.{arith}
use Rattle.plane.proofs.SmallCases as Small
use Rattle.plane.proofs.LineListOrder as Order
use Rattle.plane.proofs.HiddenVertex as Hidden
use Rattle.plane.proofs.Sheets as Sheets
use Rattle.plane.proofs.definitions_hold.Goals as goal

pub returns : goal.returns
returns c = record {
  point_is_nowhere = λ p. (omega arith, λ i h. absurd (omega arith));
  no_point_is_a_line = Small.none_joined;
  two_points_are_a_line = Small.two_joined;
  end_is_on_edge = Small.on_its_edge;
  point_is_past_end = Small.past_location;
  segment_ends_on_edge = Small.meets_end;
  segment_overlaps_edge = Small.inner_overlap;
  start_is_before_overlap = Order.vertex_first;
  overlap_is_before_end = Order.overlap_first;
  diagonals_cross = Small.diagonals_cross;
  vertex_in_circle = Hidden.inside_circle;
  constraint_hides_it = λ tiling. record {
    tiling = tiling;
    kept = Hidden.kept;
    empty = λ i j k n f. Hidden.all_clear i j k f n;
  };
  insert_splits = Small.splits;
  removal_renames_last = Small.removed_second;
  removal_joins_halves = Small.removed_middle;
  grid_circles = Sheets.grid_holds;
  large_grid_circles = Sheets.large_grid_holds;
  grid_on_lines = Sheets.grid_lines_hold;
  large_grid_on_lines = Sheets.large_grid_lines_hold;
  five_circles = Sheets.five_hold;
  seven_turn_left = Sheets.seven_turn_left;
  seven_on_lines = Sheets.seven_lines_hold;
}
