use Rattle.plane_theorems.proofs.Segments.Constraints.RemovalKeeps.{removal_keeps_constraints}
use Rattle.plane_theorems.proofs.Segments.Crossing.PathFlips.{path_flip_keeps_constraints}
use Rattle.plane_theorems.proofs.Segments.Crossing.PathFlips.{subconstraint_is_free}
use Rattle.plane_theorems.proofs.Segments.Crossing.PathFlips.{subconstraint_on_line_is_edge}
use Rattle.plane_theorems.proofs.Segments.Walking.Steps as Steps
use Rattle.plane_theorems.proofs.Segments.Walking.OneLine as OneLine
use Rattle.plane_theorems.proofs.Segments.Walking.WalkSteps as WalkSteps
use Rattle.plane_theorems.proofs.Segments.First.FaceStarts as FaceStarts
use Rattle.plane_theorems.proofs.Segments.First.OutsideStarts as OutsideStarts
use Rattle.plane_theorems.proofs.Segments.First.LineStarts as LineStarts
use Rattle.plane_theorems.proofs.Segments.First.EdgeStarts as EdgeStarts
use Rattle.plane_theorems.proofs.Segments.Walking.LaidMeshes as LaidMeshes
use Rattle.plane_theorems.proofs.Segments.Crossing.Paths as Paths
use Rattle.plane_theorems.proofs.Segments.Crossing.Lowering as Lowering
use Rattle.plane_theorems.proofs.Segments.Crossing.EitherWay as EitherWay
use Rattle.plane_theorems.proofs.Segments.Crossing.Chosen as Chosen
use Rattle.plane_theorems.proofs.Segments.Crossing.Order as Order
use Rattle.plane_theorems.proofs.Segments.Constraints.Splits as Splits
use Rattle.plane_theorems.proofs.Segments.Constraints.Subconstraints as Subconstraints
use Rattle.plane_theorems.proofs.Segments.Constraints.Whole as Whole
use Rattle.plane_theorems.proofs.Segments.Constraints.Shorter as Shorter
use Rattle.plane_theorems.proofs.segments_hold.Goals as goal

pub returns : goal.returns
returns c = record {
  items_follow = Steps.items_follow;
  next_after_crossing = Steps.next_after_crossing;
  last_crossing = Steps.last_crossing;
  next_after_overlap = Steps.next_after_overlap;
  next_after_vertex = Steps.next_after_vertex;
  last_vertex = Steps.last_vertex;
  overlap_ahead = Steps.overlap_ahead;
  crossing_by_sides = Steps.crossing_by_sides;
  first_item = Steps.first_item;
  walk_is_line_list = Steps.walk_is_line_list;
  steps_on_one_line = OneLine.steps_on_one_line;
  each_segment_has_walk = WalkSteps.each_segment_has_walk;
  rest_falls = WalkSteps.rest_falls;
  line_list_is_walk = WalkSteps.line_list_is_the_walk;
  first_from_face = FaceStarts.first_from_a_face;
  first_from_outside = OutsideStarts.first_from_the_outside;
  next_on_line = LineStarts.next_on_line;
  first_on_line = LineStarts.first_on_line;
  equal_ends = LineStarts.equal_ends;
  first_from_edge = EdgeStarts.first_from_an_edge;
  outside_is_off_line = EdgeStarts.outside_is_off_line;
  crossing_on_line = EdgeStarts.crossing_on_line;
  meshes_are_laid = LaidMeshes.meshes_are_laid;
  uncrossed_is_edge = Paths.uncrossed_is_edge;
  chosen_flip_is_convex = Paths.chosen_flip_is_convex;
  chosen_flip_lowers = Lowering.chosen_flip_lowers;
  crossing_is_either_way = EitherWay.crossing_is_either_way;
  chosen_flip_exists = Chosen.chosen_flip_exists;
  ends_are_ordered = Order.ends_are_ordered;
  last_has_none_after = Order.last_has_none_after;
  split_is_append = Splits.split_is_append;
  straight_halves_join = Splits.straight_halves_join;
  path_begins = Subconstraints.path_begins;
  path_goes_on = Subconstraints.path_goes_on;
  path_ends = Subconstraints.path_ends;
  subconstraint_crosses_whole = Whole.subconstraint_crosses_whole;
  path_shortens = Shorter.path_shortens;
  path_flip_keeps_constraints = path_flip_keeps_constraints;
  subconstraint_is_free = subconstraint_is_free;
  subconstraint_on_line_is_edge = subconstraint_on_line_is_edge;
  removal_keeps_constraints = removal_keeps_constraints;
}
