-- Theorems: what a segment meets, item by item, and the flips that make it an edge.
use Rattle.plane_theorems.specs.Segments.Constraints.{PathBegins, PathEnds, PathGoesOn}
use Rattle.plane_theorems.specs.Segments.Constraints.{PathShortens, SplitIsAppend}
use Rattle.plane_theorems.specs.Segments.Constraints.{StraightHalvesJoin, SubconstraintCrossesWhole}
use Rattle.plane_theorems.specs.Segments.LineLaws.{CrossingBySides, FirstItem, ItemsFollow}
use Rattle.plane_theorems.specs.Segments.LineLaws.{LastCrossing, LastVertex, NextAfterCrossing}
use Rattle.plane_theorems.specs.Segments.LineLaws.{NextAfterOverlap, NextAfterVertex, OverlapAhead}
use Rattle.plane_theorems.specs.Segments.LineLaws.{StepsOnOneLine, WalkIsLineList}
use Rattle.plane_theorems.specs.Segments.PathLaws.{ChosenFlipExists, ChosenFlipIsConvex}
use Rattle.plane_theorems.specs.Segments.PathLaws.{ChosenFlipLowers, CrossingIsEitherWay}
use Rattle.plane_theorems.specs.Segments.PathLaws.{EndsAreOrdered, LastHasNoneAfter}
use Rattle.plane_theorems.specs.Segments.PathLaws.{UncrossedIsEdge}
use Rattle.plane_theorems.specs.Segments.PathSteps.{PathFlipKeepsConstraints}
use Rattle.plane_theorems.specs.Segments.PathSteps.{RemovalKeepsConstraints, SubconstraintIsFree}
use Rattle.plane_theorems.specs.Segments.PathSteps.{SubconstraintOnLineIsEdge}
use Rattle.plane_theorems.specs.Segments.WalkLaws.{CrossingOnLine, EachSegmentHasWalk, EqualEnds}
use Rattle.plane_theorems.specs.Segments.WalkLaws.{FirstFromEdge, FirstFromFace, FirstFromOutside}
use Rattle.plane_theorems.specs.Segments.WalkLaws.{FirstOnLine, LineListIsWalk, MeshesAreLaid}
use Rattle.plane_theorems.specs.Segments.WalkLaws.{NextOnLine, OutsideIsOffLine, RestFalls}

-- each field is a theorem
pub record SegmentTheorems : Type 0 where
  -- none of the items that a segment meets is before itself, and what is before what is before
  -- an item is before it
  pub items_follow : ItemsFollow
  -- what a segment meets after an edge that it crosses is on the face on the edge's left, and
  -- which it is two sides tell
  pub next_after_crossing : NextAfterCrossing
  -- a crossed edge on which the segment ends, or with the outer face on its left, comes last
  pub last_crossing : LastCrossing
  -- after an edge that the segment overlaps comes the vertex at its end, unless the segment
  -- ends before
  pub next_after_overlap : NextAfterOverlap
  -- after a vertex comes the overlap that starts there, or the far side of the face that the
  -- segment goes into
  pub next_after_vertex : NextAfterVertex
  -- a vertex comes last where no edge there points to the segment's end and no open cone of a
  -- face there holds it
  pub last_vertex : LastVertex
  -- an edge at a vertex of the segment that points to its end is overlapped
  pub overlap_ahead : OverlapAhead
  -- whether the segment crosses an edge, in the direction that the line list gives it, is told
  -- by four sides
  pub crossing_by_sides : CrossingBySides
  -- what a segment meets first, from a vertex, an edge, a face or outside the hull
  pub first_item : FirstItem
  -- a walk from the first item to the last gives the line list
  pub walk_is_line_list : WalkIsLineList
  -- where all vertices are on one line, the order of items, what comes after an edge, and that
  -- a walk gives the line list
  pub steps_on_one_line : StepsOnOneLine
  -- each segment has one walk, with no more items than there are vertices and edges
  pub each_segment_has_walk : EachSegmentHasWalk
  -- from each item of a walk on there is a list of the rest, which each step makes shorter by
  -- its head
  pub rest_falls : RestFalls
  -- the line list is the walk
  pub line_list_is_walk : LineListIsWalk
  -- what a segment meets first from strictly inside a face: nothing, a corner or a side
  pub first_from_face : FirstFromFace
  -- what a segment that crosses no outer edge from outside meets first there: a nearest
  -- vertex, or nothing
  pub first_from_outside : FirstFromOutside
  -- where all vertices are on one line, what comes after a vertex is the edge ahead, or
  -- nothing
  pub next_on_line : NextOnLine
  -- where all vertices are on one line, what a segment meets first
  pub first_on_line : FirstOnLine
  -- the line list from a point to itself
  pub equal_ends : EqualEnds
  -- what a segment meets first from strictly within an edge, by the side of its end, or by
  -- which end of the edge is ahead
  pub first_from_edge : FirstFromEdge
  -- where all vertices are on one line, no vertex is at a point outside and no edge carries it
  pub outside_is_off_line : OutsideIsOffLine
  -- where all vertices are on one line, four sides tell whether a segment crosses an edge
  pub crossing_on_line : CrossingOnLine
  -- each mesh is what the walk asks for
  pub meshes_are_laid : MeshesAreLaid
  -- a segment between two vertices that carries no third and that no edge crosses is an edge
  pub uncrossed_is_edge : UncrossedIsEdge
  -- the edge from the last right end to the last left end there lies across a strictly convex
  -- quadrilateral
  pub chosen_flip_is_convex : ChosenFlipIsConvex
  -- its flip lowers the sum of the ranks of the right ends of crossing edges
  pub chosen_flip_lowers : ChosenFlipLowers
  -- an edge crosses the segment exactly if one of its two ways has the segment's start on its
  -- left, the end on its right, its own start on the segment's right and its end on the left
  pub crossing_is_either_way : CrossingIsEitherWay
  -- where an edge crosses the segment, there is one from a last right end to a last left end
  -- there
  pub chosen_flip_exists : ChosenFlipExists
  -- what comes after an end comes after all that this end comes after, and none comes after
  -- itself
  pub ends_are_ordered : EndsAreOrdered
  -- an end of crossing edges that none comes after is a last one
  pub last_has_none_after : LastHasNoneAfter
  -- where the constraints are edges, splitting the one that carries a new vertex, or none
  -- where none does, is what an insert makes of them
  pub split_is_append : SplitIsAppend
  -- between the far ends of two edges that meet straight at a vertex there is no other vertex
  -- and no edge, and no edge but those at the vertex crosses
  pub straight_halves_join : StraightHalvesJoin
  -- between two different vertices some vertex of the closed segment comes next after the
  -- first
  pub path_begins : PathBegins
  -- the neighbours on the segment are that first subconstraint and those on the segment from its
  -- end
  pub path_goes_on : PathGoesOn
  -- from a vertex to itself there are no neighbours
  pub path_ends : PathEnds
  -- what crosses a subconstraint between two neighbours on a segment crosses the whole segment
  pub subconstraint_crosses_whole : SubconstraintCrossesWhole
  -- from the end of the first subconstraint the squared distance to the last vertex is less
  pub path_shortens : PathShortens
  -- a flip of an edge that crosses the segment keeps each constraint an edge that does not
  -- cross it
  pub path_flip_keeps_constraints : PathFlipKeepsConstraints
  -- a subconstraint of a path is two vertices with none strictly between
  pub subconstraint_is_free : SubconstraintIsFree
  -- where all vertices are on one line, two of them with none strictly between are an edge
  pub subconstraint_on_line_is_edge : SubconstraintOnLineIsEdge
  -- where only faces and outer edges at a vertex go, each constraint that does not end there
  -- stays an edge
  pub removal_keeps_constraints : RemovalKeepsConstraints
