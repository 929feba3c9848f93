use Rattle.plane_theorems.proofs.Edits.Legalization.FlipHistory.{flip_touches_one_edge}
use Rattle.plane_theorems.proofs.Edits.Legalization.FlipHistory.{flipped_stays_away}
use Rattle.plane_theorems.proofs.Edits.Legalization.FlipHistory.{flips_are_bounded}
use Rattle.plane_theorems.proofs.Edits.Legalization.FlipHistory.{what_stands_was_not_touched}
use Rattle.plane_theorems.proofs.Edits.LocalMesh.Kept.{flip_kept, inside_face_kept}
use Rattle.plane_theorems.proofs.Edits.LocalMesh.Kept.{within_outer_kept, within_side_kept}
use Rattle.plane_theorems.proofs.Edits.Removal.HullVertex.{corner_goes, corner_leaves_line}
use Rattle.plane_theorems.proofs.Edits.Removal.HullVertex.{corner_or_flat, corner_star_flips}
use Rattle.plane_theorems.proofs.Edits.Removal.HullVertex.{flat_side_closes, flat_star_flips}
use Rattle.plane_theorems.proofs.Edits.Removal.InnerVertex.{four_faces_merge, inner_star_flips}
use Rattle.plane_theorems.proofs.Edits.Removal.InnerVertex.{three_faces_merge}
use Rattle.plane_theorems.proofs.Edits.Removal.OnLine.{end_of_line_goes, middle_of_line_goes}
use Rattle.plane_theorems.proofs.Edits.Removal.Renumbering.{last_takes_freed_index}
use Rattle.plane_theorems.proofs.Edits.Removal.Renumbering.{last_takes_freed_index_on_line}
use Rattle.plane_theorems.proofs.Edits.Removal.StarFlips.{hull_star_shrinks, hull_stars_agree}
use Rattle.plane_theorems.proofs.Edits.Removal.StarFlips.{inner_star_shrinks, stars_agree}
use Rattle.plane_theorems.proofs.Edits.LocalMesh.Kept as Kept
use Rattle.plane_theorems.proofs.Edits.Insertion.Growing as Growing
use Rattle.plane_theorems.proofs.Edits.Legalization.Flipping as Flipping
use Rattle.plane_theorems.proofs.Edits.Insertion.OnLine as OnLine
use Rattle.plane_theorems.proofs.Edits.Legalization.Away as Away
use Rattle.plane_theorems.proofs.edits_hold.Goals as goal

pub returns : goal.returns
returns c = record {
  insertion_inside_keeps = inside_face_kept;
  insertion_within_side_keeps = within_side_kept;
  insertion_within_outer_keeps = within_outer_kept;
  flip_keeps = flip_kept;
  flip_covers = Kept.flip_covers;
  extension_begins = Growing.extension_begins;
  extension_goes_on = Growing.extension_goes_on;
  extension_goes_back = Growing.extension_goes_back;
  extension_ends = Growing.extension_ends;
  one_question_for_both = Flipping.one_question;
  failing_is_convex = Flipping.failing_is_convex;
  flip_lowers = Flipping.flip_lowers;
  flip_leaves_sides = Flipping.flip_leaves_sides;
  passing_is_dropped = Flipping.passing_is_dropped;
  change_leaves_sides = Flipping.change_leaves_sides;
  none_left_is_locally_delaunay = Flipping.none_left;
  extension_over_line_ends = OnLine.over_line_ends;
  insertion_past_end_keeps = OnLine.past_end;
  insertion_between_keeps = OnLine.between;
  away_is_no_edge = Away.away_is_no_edge;
  flip_goes_away = Away.flip_goes_away;
  away_is_bounded = Away.away_is_bounded;
  inner_star_flips = inner_star_flips;
  three_faces_merge = three_faces_merge;
  four_faces_merge = four_faces_merge;
  last_takes_freed_index = last_takes_freed_index;
  end_of_line_goes = end_of_line_goes;
  middle_of_line_goes = middle_of_line_goes;
  last_takes_freed_index_on_line = last_takes_freed_index_on_line;
  flat_star_flips = flat_star_flips;
  corner_star_flips = corner_star_flips;
  corner_goes = corner_goes;
  flat_side_closes = flat_side_closes;
  corner_leaves_line = corner_leaves_line;
  corner_or_flat = corner_or_flat;
  flip_touches_one_edge = flip_touches_one_edge;
  flipped_stays_away = flipped_stays_away;
  what_stands_was_not_touched = what_stands_was_not_touched;
  flips_are_bounded = flips_are_bounded;
  inner_star_shrinks = inner_star_shrinks;
  hull_star_shrinks = hull_star_shrinks;
  stars_agree = stars_agree;
  hull_stars_agree = hull_stars_agree;
}
