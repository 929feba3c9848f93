-- Theorems: from the local circle test to constrained Delaunay, and what queries stand on.
use Rattle.plane_theorems.specs.Delaunay.Laws.{CellIsHull, EdgeMeetsCircle, EdgeMeetsRectangle}
use Rattle.plane_theorems.specs.Delaunay.Laws.{FacesAreUnique, FloodByVerticesFinds}
use Rattle.plane_theorems.specs.Delaunay.Laws.{FloodFindsOnLine, FloodFindsRegion, FloodIsBounded}
use Rattle.plane_theorems.specs.Delaunay.Laws.{FloodIsExact, FloodStarts, FloodStartsOnLine}
use Rattle.plane_theorems.specs.Delaunay.Laws.{LineItemsAreOrdered, LocalGivesConstrainedDelaunay}
use Rattle.plane_theorems.specs.Delaunay.Laws.{MarksFillUp, NearerCountFalls, NearestByNeighbours}
use Rattle.plane_theorems.specs.Delaunay.Laws.{OneVertexIsAlone, OutsideIsLeftOfOuter}
use Rattle.plane_theorems.specs.Delaunay.Laws.{OverlappingFacesTie, PartFaceStays, PartHasCells}
use Rattle.plane_theorems.specs.Delaunay.Laws.{PartHasFace, PartKnowsCells, RegionHasStart}
use Rattle.plane_theorems.specs.Delaunay.Laws.{StartIsExact, StrictlyEmptyIsFace, VerticesAreEnds}
use Rattle.plane_theorems.specs.Delaunay.Laws.{VisiblyEmptyIsFace}

-- each field is a theorem
pub record DelaunayTheorems : Type 0 where
  -- a point in no closed face is strictly left of an outer edge
  pub outside_is_left_of_outer : OutsideIsLeftOfOuter
  -- a tiling that has each constraint as an edge and passes the local circle test is
  -- constrained Delaunay
  pub local_gives_constrained_delaunay : LocalGivesConstrainedDelaunay
  -- without constraints each strictly empty triple is a face
  pub strictly_empty_is_face : StrictlyEmptyIsFace
  -- without constraints a vertex to which no neighbour is nearer than it is nearest of all
  pub nearest_by_neighbours : NearestByNeighbours
  -- from a vertex to a nearer one the number of nearer vertices falls
  pub nearer_count_falls : NearerCountFalls
  -- a triple that no constraint enters, and whose circle neither contains nor carries another
  -- vertex that is seen from inside it, is a face
  pub visibly_empty_is_face : VisiblyEmptyIsFace
  -- two triangulations of one plain state with no four points on one circle have the same
  -- faces
  pub faces_are_unique : FacesAreUnique
  -- where faces of two triangulations of one plain state overlap, they have one circle
  pub overlapping_faces_tie : OverlappingFacesTie
  -- without constraints the faces on a circle with no vertex inside tile the hull of the
  -- vertices on it
  pub cell_is_hull : CellIsHull
  -- where a part of the vertices has each vertex in the closed disk of a circle, its faces on
  -- that circle cover what those of the whole cover
  pub part_has_cells : PartHasCells
  -- a strictly empty triple of a part that has each vertex in its closed disk is a face of the
  -- whole
  pub part_face_stays : PartFaceStays
  -- a strictly empty triple of the whole is a face of each part that has its corners
  pub part_has_face : PartHasFace
  -- a part with the hull of the whole that has each vertex in the closed disks of its faces at
  -- a vertex has each in the closed disks of the whole's faces there
  pub part_knows_cells : PartKnowsCells
  -- a flood through the faces that has one edge in a closed circle or rectangle has each
  pub flood_finds_region : FloodFindsRegion
  -- where any edge is in a closed circle or rectangle, one is beside each of its points
  pub flood_starts : FloodStarts
  -- a closed edge has a point of a closed circle exactly if an end is in it, or the centre
  -- falls between the ends and is near enough to the line
  pub edge_meets_circle : EdgeMeetsCircle
  -- a closed edge has a point of a closed rectangle, not a reversed one, exactly if their
  -- ranges meet and the corners are not all strictly on one side of its line
  pub edge_meets_rectangle : EdgeMeetsRectangle
  -- of two different items that a segment meets one comes first
  pub line_items_are_ordered : LineItemsAreOrdered
  -- where all vertices are on one line, a flood along shared vertices that has one edge in a
  -- closed circle or rectangle has each
  pub flood_finds_on_line : FloodFindsOnLine
  -- where all vertices are on one line and any edge is in a closed circle or rectangle, one is
  -- beside each of its points
  pub flood_starts_on_line : FloodStartsOnLine
  -- a closed circle with a point has its centre, a closed rectangle with one its lower corner
  pub region_has_start : RegionHasStart
  -- an edge is in a closed circle or rectangle exactly if one of those beside its centre or
  -- lower corner is
  pub start_is_exact : StartIsExact
  -- of two or more vertices those in a closed circle or rectangle are those of its edges' ends
  -- that are in it
  pub vertices_are_ends : VerticesAreEnds
  -- at most one vertex has no edge
  pub one_vertex_is_alone : OneVertexIsAlone
  -- edges found once each are no more than the edges
  pub flood_is_bounded : FloodIsBounded
  -- a flood along shared vertices that has one edge in a closed circle or rectangle has each
  pub flood_by_vertices_finds : FloodByVerticesFinds
  -- with each new mark one fewer is unmarked
  pub marks_fill_up : MarksFillUp
  -- edges in a closed circle or rectangle, flooded from what is beside its centre or lower
  -- corner, are all of its edges
  pub flood_is_exact : FloodIsExact
