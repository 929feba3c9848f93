-- Theorems: what each edit does keeps the local mesh invariant, and flips end.
use Rattle.plane_theorems.specs.Edits.FlipHistory.{FlippedStaysAway, FlipsAreBounded}
use Rattle.plane_theorems.specs.Edits.FlipHistory.{FlipTouchesOneEdge, WhatStandsWasNotTouched}
use Rattle.plane_theorems.specs.Edits.Laws.{ExtensionBegins, ExtensionEnds, ExtensionGoesBack}
use Rattle.plane_theorems.specs.Edits.Laws.{ExtensionGoesOn, ExtensionOverLineEnds, FlipCovers}
use Rattle.plane_theorems.specs.Edits.Laws.{FlipKeeps, InsertionBetweenKeeps, InsertionInsideKeeps}
use Rattle.plane_theorems.specs.Edits.Laws.{InsertionPastEndKeeps, InsertionWithinOuterKeeps}
use Rattle.plane_theorems.specs.{Edits.Laws.InsertionWithinSideKeeps, Edits.StarFlips.StarsAgree}
use Rattle.plane_theorems.specs.Edits.LegalLaws.{AwayIsBounded, AwayIsNoEdge, ChangeLeavesSides}
use Rattle.plane_theorems.specs.Edits.LegalLaws.{FailingIsConvex, FlipGoesAway, FlipLeavesSides}
use Rattle.plane_theorems.specs.Edits.LegalLaws.{FlipLowers, NoneLeftIsLocallyDelaunay}
use Rattle.plane_theorems.specs.Edits.LegalLaws.{OneQuestionForBoth, PassingIsDropped}
use Rattle.plane_theorems.specs.Edits.RemovalHull.{CornerGoes, CornerLeavesLine, CornerOrFlat}
use Rattle.plane_theorems.specs.Edits.RemovalHull.{CornerStarFlips, FlatSideCloses, FlatStarFlips}
use Rattle.plane_theorems.specs.Edits.RemovalLaws.{EndOfLineGoes, FourFacesMerge, InnerStarFlips}
use Rattle.plane_theorems.specs.Edits.RemovalLaws.{LastTakesFreedIndex, LastTakesFreedIndexOnLine}
use Rattle.plane_theorems.specs.Edits.RemovalLaws.{MiddleOfLineGoes, ThreeFacesMerge}
use Rattle.plane_theorems.specs.Edits.StarFlips.{HullStarsAgree, HullStarShrinks, InnerStarShrinks}

-- each field is a theorem
pub record EditTheorems : Type 0 where
  -- a vertex strictly inside a face, joined to its three corners, keeps a mesh local
  pub insertion_inside_keeps : InsertionInsideKeeps
  -- a vertex strictly within the side of two faces, joined to their four corners, keeps a mesh
  -- local
  pub insertion_within_side_keeps : InsertionWithinSideKeeps
  -- a vertex strictly within an outer edge, joined to the corner behind it, keeps a mesh local
  pub insertion_within_outer_keeps : InsertionWithinOuterKeeps
  -- the flip of a strictly convex quadrilateral keeps a mesh local
  pub flip_keeps : FlipKeeps
  -- the two halvings of a strictly convex quadrilateral cover the same points
  pub flip_covers : FlipCovers
  -- a vertex outside the hull gets a face on an outer edge that sees it
  pub extension_begins : ExtensionBegins
  -- it is joined to the next outer edge that sees it, and there is one outer edge less
  pub extension_goes_on : ExtensionGoesOn
  -- it is joined to the outer edge before that sees it, and there is one outer edge less
  pub extension_goes_back : ExtensionGoesBack
  -- where neither neighbouring outer edge sees it, the mesh is local
  pub extension_ends : ExtensionEnds
  -- one question serves both sides of an edge
  pub one_question_for_both : OneQuestionForBoth
  -- an edge that fails the circle test lies across a strictly convex quadrilateral
  pub failing_is_convex : FailingIsConvex
  -- the flip of a failing edge lowers the lifted volume
  pub flip_lowers : FlipLowers
  -- the flip of a failing edge leaves the quadrilateral's sides to test
  pub flip_leaves_sides : FlipLeavesSides
  -- an edge that passes is left no longer
  pub passing_is_dropped : PassingIsDropped
  -- a change of faces leaves the sides of the faces that were made to test
  pub change_leaves_sides : ChangeLeavesSides
  -- where no edge is left to test, each one that is no constraint passes
  pub none_left_is_locally_delaunay : NoneLeftIsLocallyDelaunay
  -- over a line of vertices the faces stand on each of its edges, and the mesh is local
  pub extension_over_line_ends : ExtensionOverLineEnds
  -- a vertex past an end of the line, joined to that end, keeps the line
  pub insertion_past_end_keeps : InsertionPastEndKeeps
  -- a vertex between two neighbours on the line, joined to both in place of their edge, keeps
  -- the line
  pub insertion_between_keeps : InsertionBetweenKeeps
  -- a pair that has been flipped away is no edge
  pub away_is_no_edge : AwayIsNoEdge
  -- the flip of a failing edge adds its pair to those that are away
  pub flip_goes_away : FlipGoesAway
  -- the pairs that one legalising flips away are at most n (n - 1) / 2
  pub away_is_bounded : AwayIsBounded
  -- at an inner vertex with four neighbours or more an edge can be flipped, or there are four
  -- and the vertex is strictly between two of them
  pub inner_star_flips : InnerStarFlips
  -- where the three faces at a vertex become one, a local mesh of the other vertices is left
  pub three_faces_merge : ThreeFacesMerge
  -- where the four faces at a vertex between two opposite neighbours become two, a local mesh
  -- of the other vertices is left
  pub four_faces_merge : FourFacesMerge
  -- a local mesh of all vertices but one is, once the last one has taken its index, a local
  -- mesh of the points that are left
  pub last_takes_freed_index : LastTakesFreedIndex
  -- where the end of a line of vertices goes, a line of the other vertices is left
  pub end_of_line_goes : EndOfLineGoes
  -- where a vertex goes from between two neighbours on a line, which are joined, a line of the
  -- other vertices is left
  pub middle_of_line_goes : MiddleOfLineGoes
  -- a line of all vertices but one is, once the last one has taken its index, a line of the
  -- points that are left
  pub last_takes_freed_index_on_line : LastTakesFreedIndexOnLine
  -- at a vertex on a flat side of the hull with three faces or more an edge can be flipped
  pub flat_star_flips : FlatStarFlips
  -- at a corner of the hull the edge to a neighbour can be flipped wherever the neighbours
  -- turn left there
  pub corner_star_flips : CornerStarFlips
  -- at a corner of the hull where no neighbours turn left, a local mesh of the other vertices
  -- is left when its faces go
  pub corner_goes : CornerGoes
  -- where the two faces at a vertex on a flat side of the hull become one, a local mesh of the
  -- other vertices is left
  pub flat_side_closes : FlatSideCloses
  -- where all faces go with a corner of the hull, a line of the other vertices is left
  pub corner_leaves_line : CornerLeavesLine
  -- a vertex of the hull is at a corner, or on a flat side with two faces or more
  pub corner_or_flat : CornerOrFlat
  -- a flip takes one edge and brings one, and no other edge comes or goes
  pub flip_touches_one_edge : FlipTouchesOneEdge
  -- an edge that one legalising has flipped away does not come back in it
  pub flipped_stays_away : FlippedStaysAway
  -- edges and faces that stand before and after one legalising were not touched in between
  pub what_stands_was_not_touched : WhatStandsWasNotTouched
  -- the flips of one legalising are at most n (n - 1) / 2
  pub flips_are_bounded : FlipsAreBounded
  -- after the flip of an edge at an inner vertex its star is the one without that neighbour
  pub inner_star_shrinks : InnerStarShrinks
  -- after the flip of an edge at a vertex of the hull its star is the one without that
  -- neighbour, with the same ends
  pub hull_star_shrinks : HullStarShrinks
  -- two stars of an inner vertex are one, but for where they begin
  pub stars_agree : StarsAgree
  -- two stars of a vertex of the hull are one
  pub hull_stars_agree : HullStarsAgree
