use Rattle.std.proofs.Common.{◌∙◌, inl, inr, map}
use Rattle.plane.specs.{WithinSegment}
use Rattle.{delaunay_core.specs.place_of, delaunay_legalization.proofs.covered_in}
use Rattle.delaunay_location.proofs.MeshSteps.{AreEndsOf, at_ends, embedding_value, end_at_end}
use Rattle.delaunay_location.proofs.MeshSteps.{end_of_overlap, ends_apart, last_within_overlap}
use Rattle.delaunay_location.proofs.{crossing.after_overlap.Given.Over, SegmentTests.unless}
use Rattle.delaunay_location.proofs.crossing.after_overlap.Goals as goal
use Rattle.delaunay_location.proofs.crossing.after_overlap.Goals.{After-position_of-end}

-- the vertex at the end of the edge, and the positions of its ends
ends : (g : Over) (c : After-position_of-end g) → AreEndsOf (map g.V.HasPosition.place
    c.args.embedding.now.dcel.vertices) c.args.embedding.now.dcel.mesh c.args.edge
    c.fix-vertex.result
    (place_of g.V.Scalar.SpadeNum.whole c.position_of-start.result)
    (place_of g.V.Scalar.SpadeNum.whole c.position_of-end.result)
ends g c =
    let here = c.directed_edge-here.ensures in
    let start = rw (here.dcel, here.index) at (c.fix.ensures.value ∙ c.from.ensures.index) in
    let end = rw (here.dcel, here.index) at (c.fix-vertex.ensures.value ∙ c.to.ensures.index) in
    rw (← c.embedding.view_is) (record {
      start = rw start at c.position_of-start.ensures.place;
      vertex = end;
      end = rw end at c.position_of-end.ensures.place;
    })

pub returns-then-is_same_point : goal.returns-then-is_same_point
returns-then-is_same_point g c =
    end_at_end (embedding_value c.embedding.view_is c.embedding.invariant) c.requires.ends.apart
    c.args.edge c.requires.met c.requires.within
    (ends g (goal.at.returns-then-is_same_point g c).After-position_of-end)
    (inl (c.is_same_point.ensures.0 c.if-is_same_point.true))

pub returns-then-is_same_point-2 : goal.returns-then-is_same_point-2
returns-then-is_same_point-2 g c =
    end_at_end (embedding_value c.embedding.view_is c.embedding.invariant) c.requires.ends.apart
    c.args.edge c.requires.met c.requires.within
    (ends g (goal.at.returns-then-is_same_point-2 g c).After-position_of-end)
    (inr (c.is_same_point-2.ensures.0 c.if-is_same_point-2.true))

pub is_strictly_within-requires : goal.is_strictly_within-requires
is_strictly_within-requires g c =
    let covers = g.met.P.PlaneTests.sites_are_covered c.embedding.inside.tests.now in
    let sites = c.embedding.invariant.sites in
    let e = ends g (goal.at.is_strictly_within-requires g c).After-position_of-end in
    record {
      from_covered = covered_in _ _ covers _ _ sites c.position_of-start.ensures.listed;
      to_covered = covered_in _ _ covers _ _ sites c.position_of-end.ensures.listed;
      point_covered = rw (← c.embedding.view_is) at c.requires.ends.to_covered;
      ends_apart = ends_apart (embedding_value c.embedding.view_is c.embedding.invariant)
          c.args.edge
          c.requires.within _ _ e.start e.end;
      not_from = unless c.is_same_point.ensures c.if-is_same_point.false;
      not_to = unless c.is_same_point-2.ensures c.if-is_same_point-2.false;
    }

pub returns-then-is_strictly_within : goal.returns-then-is_strictly_within
returns-then-is_strictly_within g c =
    let e = ends g (goal.at.returns-then-is_strictly_within g c).After-position_of-end in
    let within = at_ends WithinSegment e.start e.end c.is_strictly_within.ensures in
    last_within_overlap (embedding_value c.embedding.view_is c.embedding.invariant)
    c.requires.ends.apart
    c.args.edge c.requires.met (within.0 c.if-is_strictly_within.true)

pub returns : goal.returns
returns g c =
    let e = ends g (goal.at.returns g c).After-position_of-end in
    let within = at_ends WithinSegment e.start e.end c.is_strictly_within.ensures in
    end_of_overlap (embedding_value c.embedding.view_is c.embedding.invariant) c.requires.ends.apart
    c.args.edge c.requires.met c.requires.within e.vertex
    (unless within c.if-is_strictly_within.false)
