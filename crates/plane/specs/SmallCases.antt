-- The definitions at work on a few points: what must hold of them if they mean what they should.
use Rattle.std.specs.Prelude.{ℕ, List, [], ◌∷◌, ℤ, pos, negsuc}
use Rattle.plane.specs.{Circle.InsideCircle, Fractions.Fraction, Fractions.Point, Fractions.whole}
use Rattle.plane.specs.{Crossing.Cross, PlainEdits.Appends, PlainEdits.Plain, PlainEdits.Removes}
use Rattle.plane.specs.Delaunay.{IsConstrainedDelaunay}
use Rattle.plane.specs.Line.{across, along, at_vertex, IsBefore, Meets}
use Rattle.plane.specs.Locations.{IsLocation, no_triangulation, on_edge, outside_hull}
use Rattle.plane.specs.Sheets.{AreOn, five, five_table, grid, grid_lines, grid_table, left_of_seven}
use Rattle.plane.specs.Sheets.{lines_of_seven, point, seven, TableHolds, TurnLeft}
use Rattle.plane.specs.Tiling.{face, IsTiling, JoinsLine, Triangulation, vertex}

-- a point of whole coordinates
abbrev pub at : ℤ → ℤ → Fraction
at x y = whole (point x y)

-- no vertex
abbrev pub none_yet : Triangulation
none_yet = record { points = []; faces = []; edges = [] }

-- one face, (-1,-1) (1,1) (-1,1)
abbrev pub corner : Triangulation
corner = record {
  points = point (negsuc 0) (negsuc 0) ∷ point (pos 1) (pos 1) ∷ point (negsuc 0) (pos 1) ∷ [];
  faces = face 0 1 2 ∷ [];
  edges = (0, 1) ∷ (1, 2) ∷ (2, 0) ∷ [];
}

-- two vertices (0,0) (4,0) and their edge
abbrev pub two : Triangulation
two = record {
  points = point (pos 0) (pos 0) ∷ point (pos 4) (pos 0) ∷ [];
  faces = [];
  edges = (0, 1) ∷ [];
}

-- two faces; the circle of the first contains the vertex (0,0) of the second
abbrev pub hidden : Triangulation
hidden = record {
  points = point (negsuc 0) (negsuc 0) ∷ point (pos 0) (negsuc 0) ∷ point (pos 1) (pos 0)
      ∷ point (pos 0) (pos 0) ∷ [];
  faces = face 0 1 2 ∷ face 0 2 3 ∷ [];
  edges = (0, 1) ∷ (1, 2) ∷ (2, 0) ∷ (2, 3) ∷ (3, 0) ∷ [];
}

-- their common edge
abbrev pub constraints : List (ℕ × ℕ)
constraints = (0, 2) ∷ []

-- a constraint from (-1,0) to (1,0)
abbrev pub before : Plain Point
before = record {
  vertices = point (negsuc 0) (pos 0) ∷ point (pos 1) (pos 0) ∷ [];
  constraints = (0, 1) ∷ [];
}

-- a point on it
abbrev pub new_point : Point
new_point = point (pos 0) (pos 0)

-- the same with this point
abbrev pub after : Plain Point
after = record {
  vertices = point (negsuc 0) (pos 0) ∷ point (pos 1) (pos 0) ∷ point (pos 0) (pos 0) ∷ [];
  constraints = (0, 2) ∷ (2, 1) ∷ [];
}

-- the position of a point
abbrev pub itself : Point → Point
itself p = p

-- four vertices, and the constraints 0-1 and 2-3
abbrev pub four : Plain Point
four = record {
  vertices = point (pos 0) (pos 0) ∷ point (pos 1) (pos 0) ∷ point (pos 2) (pos 0) ∷
      point (pos 3) (pos 0) ∷ [];
  constraints = (0, 1) ∷ (2, 3) ∷ [];
}

-- the same without vertex 1, whose number the last vertex takes
abbrev pub three : Plain Point
three = record {
  vertices = point (pos 0) (pos 0) ∷ point (pos 3) (pos 0) ∷ point (pos 2) (pos 0) ∷ [];
  constraints = (2, 1) ∷ [];
}

-- each definition has the answer that it should have
pub record DefinitionsHold : Type 0 where
  pub point_is_nowhere : (p : Fraction) → IsLocation none_yet p no_triangulation
  pub no_point_is_a_line : JoinsLine none_yet
  pub two_points_are_a_line : JoinsLine two
  pub end_is_on_edge : IsLocation corner (at (pos 0) (pos 0)) (on_edge 0 1)
  pub point_is_past_end : IsLocation two (at (pos 6) (pos 0)) (outside_hull 1 0)
  pub segment_ends_on_edge : Meets corner (at (pos 0) (negsuc 0)) (at (pos 0) (pos 0)) (across 0 1)
  pub segment_overlaps_edge : Meets two (at (pos 1) (pos 0)) (at (pos 3) (pos 0)) (along 0 1)
  pub start_is_before_overlap : IsBefore two (vertex two 0) (vertex two 1) (at_vertex 0) (along 0 1)
  pub overlap_is_before_end : IsBefore two (vertex two 0) (vertex two 1) (along 0 1) (at_vertex 1)
  pub diagonals_cross : Cross (at (negsuc 0) (pos 0)) (at (pos 1) (pos 0)) (at (pos 0) (pos 1))
      (at (pos 0) (negsuc 0))
  pub vertex_in_circle :
      InsideCircle (vertex hidden 0) (vertex hidden 1) (vertex hidden 2) (vertex hidden 3)
  pub constraint_hides_it : IsTiling hidden → IsConstrainedDelaunay hidden constraints
  pub insert_splits : Appends itself before after new_point
  pub removal_renames_last : Removes itself four three 1
  pub removal_joins_halves : Removes itself after before 2
  pub grid_circles : TableHolds (grid (pos 1)) grid_table
  pub large_grid_circles : TableHolds (grid (pos 536870912)) grid_table
  pub grid_on_lines : AreOn (grid (pos 1)) grid_lines
  pub large_grid_on_lines : AreOn (grid (pos 536870912)) grid_lines
  pub five_circles : TableHolds five five_table
  pub seven_turn_left : TurnLeft seven left_of_seven
  pub seven_on_lines : AreOn seven lines_of_seven
