use Rattle.std.proofs.Common.{◌≡◌, ◌∙◌, false, map, ap, inl, inr, refl, sym, subst, arith}
use Rattle.std.proofs.lemmas.List.{length-map}
use Rattle.{half_edge_links.specs.origin, plane.specs.IsPast, plane.specs.whole}
use Rattle.plane_theorems.specs.{alone}
use Rattle.delaunay_legalization.specs.{faces_of, outer_of}
use Rattle.{delaunay_legalization.proofs.both_ways, delaunay_vertices.proofs.EdgeLists.adds_only}
use Rattle.delaunay_vertices.proofs.{DataGrowing.grows_past_end, outside.insert_outside.Given.Over}
use Rattle.delaunay_vertices.proofs.{EdgeSides.bare_if_past, Growing.extended_shape, Growing.gains}
use Rattle.delaunay_vertices.proofs.Joining.{ahead_apart, before_apart, before_outer}
use Rattle.delaunay_vertices.proofs.Joining.{joining_begins, joining_ends, room_for_face, seen_if}
use Rattle.delaunay_vertices.proofs.Joining.{sites_grown, step_ahead, step_behind, told_of}
use Rattle.delaunay_vertices.proofs.{Joining.unseen_if, MadeFaces.made_none, MadeFaces.made_outside}
use Rattle.delaunay_vertices.proofs.outside.insert_outside.Goals as goal
use Rattle.delaunay_vertices.proofs.outside.insert_outside.Goals.{After-is_on_left}

-- where the vertex is not strictly on the left of the edge, it is past the end of a line
past : (g : Over) (c : After-is_on_left g) → c.is_on_left.result ≡ false
    → IsPast (alone (map g.V.HasPosition.place c.args.dcel.now.vertices))
    (origin c.args.dcel.now.mesh c.args.edge) (whole (g.V.HasPosition.place c.args.value))
past g c off =
    let old = c.args.dcel.now in
    let told = told_of (map g.V.HasPosition.place old.vertices) old.mesh c.args.edge
    c.position-position.ensures c.is_on_left.ensures in
    elim c.requires.outside [
      | inl left ↦ absurd (both_ways _ (told.1 left) off)
      | inr beyond ↦ beyond
    ]

pub extend_line-requires-clause-one_face : goal.extend_line-requires-clause-one_face
extend_line-requires-clause-one_face g c =
    bare_if_past _ c.args.dcel.now c.requires.can.kept (g.V.HasPosition.place c.args.value)
    c.args.edge c.requires.outer.0
    (past g (goal.at.extend_line-requires-clause-one_face g c).After-is_on_left
    c.if-not-is_on_left.true)

pub returns-then-not-is_on_left : goal.returns-then-not-is_on_left
returns-then-not-is_on_left g c =
    let old = c.args.dcel.now in
    let kept = c.requires.can.kept in
    let done = c.extend_line.ensures in
    let places = length-map old.vertices g.V.HasPosition.place in
    let fit = places ∙ kept.fits.vertices_fit in
    let here = rw kept.fits.directed_fit at c.requires.outer.0 in
    let beyond = past g (goal.at.returns-then-not-is_on_left g c).After-is_on_left
    c.if-not-is_on_left.true in
    let bare = bare_if_past _ old kept (g.V.HasPosition.place c.args.value) c.args.edge
    c.requires.outer.0 beyond in
    let starts = rw (c.directed_edge.ensures.dcel, c.directed_edge.ensures.index) at
    (c.fix-end.ensures.value ∙ c.from.ensures.index) in
    let start_in = (kept.valid.sound.edges c.args.edge here).origin_in in
    record {
      takes = gains old c.requires.can (ap (λ d. d.vertices) done.data.contents) done.data.whole
          done.vertex
          (extended_shape _ _ old.mesh _ c.fix-end.result _ _ (sym kept.fits.faces_fit ∙ bare)
          kept.valid.sound fit kept.shape c.requires.apart (omega (arith, starts, start_in, fit))
          (done.vertex ∙ sym places) (rw starts beyond) done.links.triangles done.links.outer)
          (grows_past_end old _ kept.valid kept.fits done.data.whole _ _ bare done.data done.edges)
          (made_none old.mesh c.extend_line.new.self.mesh _ done.links.triangles);
      edges = adds_only done.edges;
    }

pub loop-ahead-init : goal.loop-ahead-init
loop-ahead-init g c =
    let done = c.create_new_face_adjacent_to_edge-vertex.ensures in
    joining_begins g.V.HasPosition.place c.args.dcel.now c.args.value _ c.args.edge _
    c.requires.can.kept c.requires.outer.0 c.requires.outer.1
    ((told_of (map g.V.HasPosition.place c.args.dcel.now.vertices) c.args.dcel.now.mesh c.args.edge
    c.position-position.ensures c.is_on_left.ensures).0 c.if-not-is_on_left.false) done.vertex
    done.data done.links done.edges _ _ _ c.num_directed_edges-edges.ensures.value
    c.from_index-ahead.ensures c.from_index-behind.ensures

pub is_on_left-requires-in-loop-ahead-clause-sites
    : goal.is_on_left-requires-in-loop-ahead-clause-sites
is_on_left-requires-in-loop-ahead-clause-sites g c =
    sites_grown c.loop-ahead.invariant (g.P.PlaneTests.sites c.args.tests.now) c.requires.sites

pub is_on_left-requires-in-loop-ahead-clause-covered :
    goal.is_on_left-requires-in-loop-ahead-clause-covered
is_on_left-requires-in-loop-ahead-clause-covered g c =
    subst (g.P.PlaneTests.covered c.args.tests.now) (sym c.position-position.ensures)
    (g.met.P.PlaneTests.sites_are_covered c.args.tests.now _ c.requires.sites.1)

pub create_single_face_between_edge_and_next-ahead-requires-clause-apart :
    goal.create_single_face_between_edge_and_next-ahead-requires-clause-apart
create_single_face_between_edge_and_next-ahead-requires-clause-apart g c =
    let j = c.loop-ahead.invariant in
    ahead_apart j (seen_if j c.position-position.ensures c.is_on_left-in-loop-ahead.ensures
    c.edge_after.ensures.value c.loop-ahead-test.true)

pub create_single_face_between_edge_and_next-ahead-requires-clause-room :
    goal.create_single_face_between_edge_and_next-ahead-requires-clause-room
create_single_face_between_edge_and_next-ahead-requires-clause-room g c =
    room_for_face c.loop-ahead.invariant c.requires.room

pub loop-ahead-smaller : goal.loop-ahead-smaller
loop-ahead-smaller g c =
    let j = c.loop-ahead.invariant in
    let done = c.create_single_face_between_edge_and_next-ahead.ensures in
    (step_ahead j (seen_if j c.position-position.ensures c.is_on_left-in-loop-ahead.ensures
    c.edge_after.ensures.value c.loop-ahead-test.true) done.data done.edges done.links done.edge).1

pub loop-ahead-preserved : goal.loop-ahead-preserved
loop-ahead-preserved g c =
    let j = c.loop-ahead.invariant in
    let done = c.create_single_face_between_edge_and_next-ahead.ensures in
    (step_ahead j (seen_if j c.position-position.ensures c.is_on_left-in-loop-ahead.ensures
    c.edge_after.ensures.value c.loop-ahead-test.true) done.data done.edges done.links done.edge).0

pub loop-position-init : goal.loop-position-init
loop-position-init g c = record {
  ahead = c.loop-ahead.ahead;
  behind = c.from_index-behind.result;
  joining = c.loop-ahead.invariant;
  unseen = unseen_if c.loop-ahead.invariant c.position-position.ensures
      c.is_on_left-in-loop-ahead.ensures c.edge_after.ensures.value c.loop-ahead-test.false;
  before_is = c.edge_before-before.ensures.value;
  before_in = c.edge_before-before.ensures.within;
}

pub is_on_left-requires-in-loop-position : goal.is_on_left-requires-in-loop-position
is_on_left-requires-in-loop-position g c =
    let tests = c.args.tests.now in
    record {
      within = c.loop-position.invariant.before_in;
      sites = sites_grown c.loop-position.invariant.joining (g.P.PlaneTests.sites tests)
          c.requires.sites;
      covered = subst (g.P.PlaneTests.covered tests) (sym c.position-position.ensures)
          (g.met.P.PlaneTests.sites_are_covered tests _ c.requires.sites.1);
    }

pub create_single_face_between_edge_and_next-behind-requires :
    goal.create_single_face_between_edge_and_next-behind-requires
create_single_face_between_edge_and_next-behind-requires g c =
    let b = c.loop-position.invariant in
    let sees = seen_if b.joining c.position-position.ensures
    c.is_on_left-in-loop-position.ensures refl c.loop-position-test.true in
    record {
      within = b.before_in;
      outer = before_outer b sees;
      apart = before_apart b sees;
      room = room_for_face b.joining c.requires.room;
    }

pub loop-position-smaller : goal.loop-position-smaller
loop-position-smaller g c =
    let b = c.loop-position.invariant in
    let done = c.create_single_face_between_edge_and_next-behind.ensures in
    (step_behind b (seen_if b.joining c.position-position.ensures
    c.is_on_left-in-loop-position.ensures refl c.loop-position-test.true)
    done.data done.edges done.links done.edge
    c.edge_before-before-in-loop-position.ensures.value
    c.edge_before-before-in-loop-position.ensures.within).1

pub loop-position-preserved : goal.loop-position-preserved
loop-position-preserved g c =
    let b = c.loop-position.invariant in
    let done = c.create_single_face_between_edge_and_next-behind.ensures in
    (step_behind b (seen_if b.joining c.position-position.ensures
    c.is_on_left-in-loop-position.ensures refl c.loop-position-test.true) done.data done.edges
    done.links done.edge c.edge_before-before-in-loop-position.ensures.value
    c.edge_before-before-in-loop-position.ensures.within).0

pub returns : goal.returns
returns g c =
    let old = c.args.dcel.now in
    let b = c.loop-position.invariant in
    let j = b.joining in
    record {
      takes = gains old c.requires.can j.vertices j.whole j.vertex
          (inl (joining_ends _ _ _ _ _ _ j b.unseen (unseen_if j c.position-position.ensures
          c.is_on_left-in-loop-position.ensures b.before_is c.loop-position-test.false)
          c.requires.can.kept.shape)) j.grows
          (made_outside _ _ (faces_of old.mesh) _ (outer_of old.mesh) _ _ _ _
          (j.vertex ∙ sym (length-map old.vertices g.V.HasPosition.place)) j.extending);
      edges = j.adds;
    }
