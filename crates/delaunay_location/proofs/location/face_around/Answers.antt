use Rattle.std.proofs.Common.{map, arith}
use Rattle.delaunay_legalization.proofs.{both_ways}
use Rattle.delaunay_location.proofs.Questions.{inside_face, next_face, turns_as_face}
use Rattle.delaunay_location.proofs.location.face_around.Goals as goal

pub is_strictly_inside-requires : goal.is_strictly_inside-requires
is_strictly_inside-requires g c =
    let corners = rw (← c.embedding.view_is) at c.corners_of.ensures in
    let covered = g.met.P.PlaneTests.sites_are_covered in
    record {
      a_covered = covered _ _ corners.first_site;
      b_covered = covered _ _ corners.second_site;
      c_covered = covered _ _ corners.third_site;
      point_covered = rw (← c.embedding.view_is) at c.requires.covered;
      turns = turns_as_face corners.face corners.first corners.second corners.third;
    }

pub returns-then-is_strictly_inside : goal.returns-then-is_strictly_inside
returns-then-is_strictly_inside g c =
    let d = c.embedding.inside.dcel.now in
    let corners = rw (← c.embedding.view_is) at c.corners_of.ensures in
    let face = c.from_index-face.ensures in
    let count = c.num_inner_faces-index-end.ensures.value in
    rw (← c.embedding.view_is) (
      omega (arith, face),
      omega (arith, face, count, c.loop-index-test.true),
      (inside_face (map g.V.HasPosition.place d.vertices) d.mesh _ _ _ _ _ corners.first
          corners.second corners.third).0
          (c.is_strictly_inside.ensures.0 c.if-is_strictly_inside.true),
    )

pub loop-index-preserved : goal.loop-index-preserved
loop-index-preserved g c =
    let d = c.args.embedding.now.dcel in
    let corners = c.corners_of.ensures in
    next_face _ _ c.loop-index.invariant (λ i. both_ways _
    (c.is_strictly_inside.ensures.1 ((inside_face (map g.V.HasPosition.place d.vertices) d.mesh
    _ _ _ _ _ corners.first corners.second corners.third).1 (rw c.from_index-face.ensures i)))
    c.if-is_strictly_inside.false)

pub returns : goal.returns
returns g c f positive h =
    let count = c.num_inner_faces-index-end.ensures.value in
    let within = rw (← c.embedding.view_is) at h in
    c.loop-index.invariant f positive (omega (arith, within, c.loop-index-test.false, count))
