use Rattle.std.proofs.Common.{◌/◌, get_or, ◌∙◌, ap, inl, refl, sym}
use Rattle.std.proofs.lemmas.List.{length-map}
use Rattle.half_edge_links.proofs.Removing.Conditions.{flippable}
use Rattle.{delaunay_legalization.proofs.both_ways, delaunay_legalization.specs.state_of}
use Rattle.delaunay_vertices.specs.{GainsVertex, Growth.CanSplit, SplitsAt}
use Rattle.delaunay_vertices.proofs.DataGrowing.{grows_within_line, grows_within_side, rev_half}
use Rattle.delaunay_vertices.proofs.EdgeSides.{positive, room_inside, twin_splits, twin_within}
use Rattle.delaunay_vertices.proofs.EdgeSides.{vertex_of_edge, within_twin}
use Rattle.delaunay_vertices.proofs.EdgeSplits.{had_mark, had_none, hull_split, inner_split}
use Rattle.delaunay_vertices.proofs.EdgeSplits.{line_split, second_late, second_there}
use Rattle.delaunay_vertices.proofs.EdgeSplits.{written_gains, written_mesh}
use Rattle.delaunay_vertices.proofs.{Growing.gains, Growing.split_shape, MarkedEdges.own_ends}
use Rattle.delaunay_vertices.proofs.InsertionCases.{hull_gains, within_side_shape}
use Rattle.delaunay_vertices.proofs.MadeFaces.{made_none, made_within_side}
use Rattle.delaunay_vertices.proofs.SplitConstraints.{split_with_mark, split_without_mark}
use Rattle.{delaunay_vertices.proofs.SplitConstraints.whole_mesh, half_edge_dcel.specs.edges}
use Rattle.delaunay_vertices.proofs.within_edge.insert_within_edge.Given.{Over}
use Rattle.delaunay_vertices.proofs.within_edge.insert_within_edge.Goals as goal
use Rattle.delaunay_vertices.proofs.within_edge.insert_within_edge.Goals.{After-as_undirected-second_half}
use Rattle.delaunay_vertices.proofs.within_edge.insert_within_edge.Goals.{else-num_inner_faces-eq0+else-is_outer+else-is_outer-2}
use Rattle.delaunay_vertices.proofs.within_edge.insert_within_edge.Goals.{else-num_inner_faces-eq0+else-is_outer+then-is_outer-2}
use Rattle.delaunay_vertices.proofs.within_edge.insert_within_edge.Goals.{else-num_inner_faces-eq0+then-is_outer}
use Rattle.delaunay_vertices.proofs.within_edge.insert_within_edge.Goals.{then-num_inner_faces-eq0}

pub split_half_edge-requires-clause-half : goal.split_half_edge-requires-clause-half
split_half_edge-requires-clause-half g c =
    rw c.rev.ensures (twin_splits _ c.args.dcel.now c.requires.can.kept c.args.edge
    c.requires.within
    (λ none. c.if-num_inner_faces-eq0.false (c.num_inner_faces.ensures.value ∙ none))
    (c.is_outer.ensures.0 c.if-is_outer.true))

pub split_half_edge-requires-then-is_outer-2-clause-half :
    goal.split_half_edge-requires-then-is_outer-2-clause-half
split_half_edge-requires-then-is_outer-2-clause-half g c = record {
  within = rw c.requires.can.kept.fits.directed_fit at c.requires.within;
  inner = positive _ (λ none. both_ways _ (c.is_outer.ensures.1 none) c.if-is_outer.false);
  outer = rw c.rev-else-is_outer.ensures at
      (c.is_outer-else-is_outer.ensures.0 c.if-is_outer-2.true);
}

pub split_edge-requires-clause-between : goal.split_edge-requires-clause-between
split_edge-requires-clause-between g c = record {
  within = rw c.requires.can.kept.fits.directed_fit at c.requires.within;
  inner = positive _ (λ none. both_ways _ (c.is_outer.ensures.1 none) c.if-is_outer.false);
  twin_inner = positive _ (λ none. both_ways _
      (c.is_outer-else-is_outer.ensures.1 (rw c.rev-else-is_outer.ensures none))
      c.if-is_outer-2.false);
}

pub split_edge-requires-clause-room : goal.split_edge-requires-clause-room
split_edge-requires-clause-room g c =
    let kept = c.requires.can.kept in
    room_inside _ c.args.dcel.now kept c.requires.room
    (vertex_of_edge _ c.args.dcel.now kept c.args.edge c.requires.within)

-- wherever the edge was, the mesh gained the vertex, and the edge was split at it
splits : (g : Over) (c : After-as_undirected-second_half g)
    → GainsVertex g.V.HasPosition.place c.args.value (state_of c.args.dcel.now)
    (state_of c.if-num_inner_faces-eq0.dcel) c.if-num_inner_faces-eq0.vertex.0
    × SplitsAt g.UE.Default.is_default (edges c.args.dcel.now)
    (edges c.if-num_inner_faces-eq0.dcel) (c.args.edge / 2) c.if-num_inner_faces-eq0.vertex.0
    c.as_undirected-second_half.result
splits g c =
    let place = g.V.HasPosition.place in
    let old = c.args.dcel.now in
    let kept = c.requires.can.kept in
    let can : CanSplit place c.args.value (state_of old) c.args.edge = record {
      takes = c.requires.can;
      within = c.requires.within;
      on_edge = c.requires.on_edge;
    } in
    let here = rw kept.fits.directed_fit at can.within in
    let places = length-map old.vertices place in
    elim c.if-num_inner_faces-eq0.branch [
      | then-num_inner_faces-eq0 w ↦
          let done = w.split_edge_when_all_vertices_on_line.ensures in
          let new = w.split_edge_when_all_vertices_on_line.new.self in
          let bare = sym c.num_inner_faces.ensures.value ∙ w.if-num_inner_faces-eq0.true in
          rw (w.dcel-is, w.vertex-is) (
            gains old can.takes (ap (λ d. d.vertices) done.data.contents) done.data.whole
                done.vertex
                (split_shape _ _ old.mesh _ c.args.edge _ _
                (sym kept.fits.faces_fit ∙ bare) kept.valid
                (places ∙ kept.fits.vertices_fit) kept.shape here (done.vertex ∙ sym places)
                can.on_edge done.links.triangles done.links.outer)
                (grows_within_line old _ kept.valid kept.fits done.data.whole _ _ c.args.edge _
                bare can.on_edge done.data done.edges)
                (made_none old.mesh new.mesh _ done.links.triangles),
            line_split old new (whole_mesh old kept) _ c.args.edge _ can.within
                ((rw w.vertex-is at c.as_undirected-second_half.ensures)
                ∙ ap (λ xs. get_or xs 1 c.index-halves-1.result / 2) done.parts) done.edges,
          )
      | else-num_inner_faces-eq0+then-is_outer w ↦
          let done = w.split_half_edge.ensures in
          let new = w.split_half_edge.new.self in
          let turned : CanSplit place c.args.value (state_of old) w.rev.result = record {
            takes = can.takes;
            within = rw w.rev.ensures (twin_within _ old kept c.args.edge can.within);
            on_edge = rw w.rev.ensures (within_twin _ old kept _ c.args.edge can.on_edge);
          } in
          rw (w.dcel-is, w.vertex-is) (
            hull_gains old w.rev.result turned
                (rw w.rev.ensures (twin_splits _ old kept c.args.edge can.within
                (λ none. w.if-num_inner_faces-eq0.false (c.num_inner_faces.ensures.value ∙ none))
                (w.is_outer.ensures.0 w.if-is_outer.true))) done.vertex done.links done.data
                done.edges,
            rw (w.rev.ensures, rev_half c.args.edge) at (hull_split old new (whole_mesh old kept)
                g.UE.Default.is_default w.rev.result w.split_half_edge.result.0 turned.within
                ((rw w.vertex-is at c.as_undirected-second_half.ensures)
                ∙ ap (λ xs. get_or xs 1 c.index-halves-1.result / 2) done.parts) done.edges),
          )
      | else-num_inner_faces-eq0+else-is_outer+then-is_outer-2 w ↦
          let done = w.split_half_edge-then-is_outer-2.ensures in
          let new = w.split_half_edge-then-is_outer-2.new.self in
          rw (w.dcel-is, w.vertex-is) (
            hull_gains old c.args.edge can (record {
              within = here;
              inner = positive _ (λ none. both_ways _ (w.is_outer.ensures.1 none)
                  w.if-is_outer.false);
              outer = rw w.rev-else-is_outer.ensures at
                  (w.is_outer-else-is_outer.ensures.0 w.if-is_outer-2.true);
            }) done.vertex done.links done.data done.edges,
            hull_split old new (whole_mesh old kept) g.UE.Default.is_default c.args.edge
                w.split_half_edge-then-is_outer-2.result.0 can.within
                ((rw w.vertex-is at c.as_undirected-second_half.ensures)
                ∙ ap (λ xs. get_or xs 1 c.index-halves-1.result / 2) done.parts) done.edges,
          )
      | else-num_inner_faces-eq0+else-is_outer+else-is_outer-2 w ↦
          let done = w.split_edge.ensures in
          let new = w.split_edge.new.self in
          let last = done.vertex ∙ sym places in
          let inner = positive _ (λ none. both_ways _ (w.is_outer.ensures.1 none)
          w.if-is_outer.false) in
          let twin_inner = positive _ (λ none. both_ways _
          (w.is_outer-else-is_outer.ensures.1 (rw w.rev-else-is_outer.ensures none))
          w.if-is_outer-2.false) in
          let turns = flippable old.mesh c.args.edge kept.valid here inner twin_inner in
          rw (w.dcel-is, w.vertex-is) (
            gains old can.takes (ap (λ d. d.vertices) done.data.contents) done.data.whole
                done.vertex
                (within_side_shape _ _ old.mesh _ _ kept.valid kept.shape last c.args.edge turns
                can.on_edge done.links.triangles done.links.outer)
                (grows_within_side old _ kept.valid kept.fits done.data.whole _ _ c.args.edge _
                here inner twin_inner can.on_edge done.data done.edges done.links.triangles)
                (made_within_side _ old.mesh new.mesh _ kept.valid kept.shape last c.args.edge
                turns done.links.triangles),
            inner_split old new (whole_mesh old kept) _ c.args.edge _ can.within
                ((rw w.vertex-is at c.as_undirected-second_half.ensures)
                ∙ ap (λ xs. get_or xs 1 c.index-halves-1.result / 2) done.parts) done.edges,
          )
    ]

pub returns-then-not-was_constraint-clause-takes :
    goal.returns-then-not-was_constraint-clause-takes
returns-then-not-was_constraint-clause-takes g c = (splits g
    (goal.at.returns-then-not-was_constraint-clause-takes g c).After-as_undirected-second_half).0

pub returns-then-not-was_constraint-clause-constraints :
    goal.returns-then-not-was_constraint-clause-constraints
returns-then-not-was_constraint-clause-constraints g c =
    let place = g.V.HasPosition.place in
    let old = c.args.dcel.now in
    let mid = c.if-num_inner_faces-eq0.dcel in
    let done = splits g
    (goal.at.returns-then-not-was_constraint-clause-constraints g c).After-as_undirected-second_half
    in
    let marker = g.M.ConstraintMarker in
    let marked = g.met.M.ConstraintMarker.constraints_are_marked in
    let none = had_none marker.marks _ marked _ _ _ _
    (own_ends old (whole_mesh old c.requires.can.kept) _ done.1.edge done.1.was).0
    (rw c.as_undirected.ensures at c.is_constraint_edge-was_constraint.ensures)
    c.if-not-was_constraint.true in
    split_without_mark place c.args.value old mid c.requires.can.kept done.0.kept
    done.0.vertices marker.marks marker.constraints marked _
    g.met.M.FreeByDefault.default_is_free _ _ _ mid (whole_mesh mid done.0.kept)
    done.1 done.0.is refl c.args.edge refl c.requires.on_edge refl none

pub make_constraint-requires : goal.make_constraint-requires
make_constraint-requires g c =
    let done = splits g (goal.at.make_constraint-requires g c).After-as_undirected-second_half in
    second_there _ _ (whole_mesh c.args.dcel.now c.requires.can.kept)
    (whole_mesh c.if-num_inner_faces-eq0.dcel done.0.kept) done.1

pub returns : goal.returns
returns g c =
    let place = g.V.HasPosition.place in
    let old = c.args.dcel.now in
    let mid = c.if-num_inner_faces-eq0.dcel in
    let new = c.make_constraint.new.dcel in
    let done = splits g (goal.at.returns g c).After-as_undirected-second_half in
    let marker = g.M.ConstraintMarker in
    let laws = g.met.M.ConstraintMarker in
    let written = c.make_constraint.ensures in
    let before = whole_mesh old c.requires.can.kept in
    let after = whole_mesh mid done.0.kept in
    let takes = written_gains written old c.requires.can.kept.fits
    (second_late old mid before after done.1) done.0 in
    let has = had_mark marker.marks _ laws.constraints_are_marked _ _ _ _
    (own_ends old before _ done.1.edge done.1.was).0
    (rw c.as_undirected.ensures at c.is_constraint_edge-was_constraint.ensures)
    c.if-not-was_constraint.false in
    record {
      takes = takes;
      constraints = split_with_mark place c.args.value old new c.requires.can.kept takes.kept
          takes.vertices marker.marks marker.constraints laws.constraints_are_marked _
          g.met.M.FreeByDefault.default_is_free _ _ _ mid after done.1 takes.is
          (written_mesh written) c.args.edge refl c.requires.on_edge marker.marked written has
          (λ d. laws.marked_has_mark d (laws.can_mark_where_marked _ has));
      more = inl (
        rw c.as_undirected.ensures at
            (c.is_constraint_edge-was_constraint.ensures.0 c.if-not-was_constraint.false),
        refl,
      );
    }
