use Rattle.plane.proofs.{Areas.side_by_area, Triangles.in_is_sides, Triangles.inside_is_sides}
use Rattle.plane.proofs.Centre.{centre, centre_is_centre, centre_is_only}
use Rattle.plane.proofs.Circles.{inside_is_determinant, on_is_determinant}
use Rattle.plane.proofs.Averages as Averages
use Rattle.plane.proofs.Lines as Lines
use Rattle.plane.proofs.Meetings as Meetings
use Rattle.plane.proofs.definitions_are_usual.Goals as goal

pub returns : goal.returns
returns c = record {
  segment_is_averages = Averages.segment_is_averages;
  side_is_side = Lines.side_is_side;
  triangle_is_sides =
      λ a b c p turns. (inside_is_sides a b c p turns, in_is_sides a b c p turns);
  crossing_is_sides = Meetings.crossing_is_sides;
  triple_has_one_centre = λ u v p turns.
      (centre u v p turns, centre_is_centre u v p turns, centre_is_only u v p turns);
  side_is_determinant = side_by_area;
  circle_is_determinant = λ u v p q turns.
      (inside_is_determinant u v p q turns, on_is_determinant u v p q turns);
}
