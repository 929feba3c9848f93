use Rattle.std.proofs.Common.{◌*◌, ◌≤◌, ◌∙◌, length, sym, ap, arith}
use Rattle.std.proofs.lemmas.Bool.{eqb-true}
use Rattle.std.proofs.lemmas.Option.{IfSome_then}
use Rattle.delaunay_vertices.proofs.Passing.{fails_only_at, passes_but}
use Rattle.delaunay_edit.proofs.{EmptyRound.none_counted, Removing.fewer_left, Removing.sites_left}
use Rattle.delaunay_edit.proofs.FreeRemoval.{free_circles, sides_settle}
use Rattle.delaunay_edit.proofs.{MovedEdges.fewer_fit, WellFormed.is_delaunay}
use Rattle.delaunay_edit.proofs.Settling.{can_settle, IsTakenOut, taken_out}
use Rattle.delaunay_interface.proofs.Held.{held_after_removal, held_are_sites, removed_is_site}
use Rattle.{delaunay_interface.proofs.Held.swapped_is_site, delaunay_legalization.specs.state_of}
use Rattle.delaunay_interface.proofs.shared_calls.TriangulationCoreTriangulation.remove.Given.{Over}
use Rattle.delaunay_interface.proofs.shared_calls.TriangulationCoreTriangulation.remove.Goals as goal
use Rattle.delaunay_interface.proofs.shared_calls.TriangulationCoreTriangulation.remove.Goals.{After-settle}

-- what the removal, and the flips after it, make of the mesh
taken : (g : Over) (c : After-settle g) → IsTakenOut g.V.HasPosition.place
    g.M.ConstraintMarker.constraints (state_of c.self.inside.dcel) (state_of c.settle.new.dcel)
    c.args.vertex c.self.inside.num_constraints c.count_lost-lost.result
taken g c =
    let met = g.met.M.ConstraintMarker in
    taken_out _ _ _ _ _ met.constraints_are_marked met.can_mark_where_marked met.marked_has_mark _
    c.self.invariant.0.legal _ _ _ _ c.remove_vertex-removed.ensures.takes
    c.halves_at-halves.ensures
    c.settle.ensures c.count_lost-lost.ensures c.self.invariant.0

pub settle-requires-clause-can : goal.settle-requires-clause-can
settle-requires-clause-can g c =
    let met = g.met.M.ConstraintMarker in
    let legal = c.self.invariant.0.legal in
    let ds = c.remove_vertex-removed.new.dcel in
    let takes = c.remove_vertex-removed.ensures.takes in
    rw c.as_slice.ensures.value (can_settle _ _ _ g.M.ConstraintMarker.marked _
    met.constraints_are_marked met.can_mark_where_marked met.marked_has_mark _ legal _ ds _ _ takes
    c.halves_at-halves.result c.halves_at-halves.ensures _ (passes_but _ _ _ (state_of ds) _
    c.remove_vertex-removed.result legal takes.kept takes.plain _ _ takes.faces
    (sides_settle _ _ _ met.constraints_are_marked _ legal _ _ c.in_ok-border.ensures)))

pub settle-requires-clause-only : goal.settle-requires-clause-only
settle-requires-clause-only g c free =
    let marked = g.met.M.ConstraintMarker.constraints_are_marked in
    let legal = c.self.invariant.0.legal in
    let ds = c.remove_vertex-removed.new.dcel in
    let takes = c.remove_vertex-removed.ensures.takes in
    rw c.as_slice.ensures.value (fails_only_at _ _ _ (state_of ds) _ c.remove_vertex-removed.result
    legal takes.kept takes.plain _ _ takes.faces
    (sides_settle _ _ _ marked _ legal _ _ c.in_ok-border.ensures)
    (free_circles _ _ _ marked _ legal c.args.vertex c.in_ok-border.border.items
    (none_counted _ _ _ _ c.self.invariant.0 (eqb-true _ _ free))))

pub settle-requires-clause-sites : goal.settle-requires-clause-sites
settle-requires-clause-sites g c =
    sites_left _ g.M.ConstraintMarker.constraints (state_of c.self.inside.dcel)
    (state_of c.remove_vertex-removed.new.dcel) _ c.remove_vertex-removed.result
    c.remove_vertex-removed.ensures.takes.plain (g.P.PlaneTests.sites c.args.tests.now)
    ((rw (← c.self.view_is) at c.requires.sites)
    (rw (← c.self.view_is) at c.s.ensures.well_formed.in_range))

pub settle-requires-clause-room : goal.settle-requires-clause-room
settle-requires-clause-room g c =
    let fewer : length c.remove_vertex-removed.new.dcel.vertices
    ≤ length c.self.inside.dcel.vertices =
    fewer_left _ g.M.ConstraintMarker.constraints (state_of c.self.inside.dcel)
    (state_of c.remove_vertex-removed.new.dcel) _ c.remove_vertex-removed.result
    c.remove_vertex-removed.ensures.takes.plain in
    let size = c.num_vertices-edges.ensures.value
    ∙ ap (λ s. length s.vertices) (c.s.ensures.state ∙ sym c.self.view_is) in
    let room = c.in_ok-reserve.ensures.room in
    let tested = c.in_ok-reserve_for.ensures.tested in
    let same = c.remove_vertex-removed.ensures.capacity in
    record {
      edges = omega (arith, fewer, size, room);
      among = omega (arith, fewer, tested, same);
      crossing_edges = IfSome_then c.halves_at-halves.result c.in_ok-reserve_to_join.ensures
          (λ _ room. fewer_fit (3 * c.num_vertices-edges.result) _ _ (omega (arith, fewer, size))
          room);
    }

pub overflow_sub-self : goal.overflow_sub-self
overflow_sub-self g c = (taken g (goal.at.overflow_sub-self g c).After-settle).some

pub notify_vertex_removed-requires : goal.notify_vertex_removed-requires
notify_vertex_removed-requires g c =
    let sites = rw (← c.self.view_is) at c.requires.sites in
    let all = sites (rw (← c.self.view_is) at c.s.ensures.well_formed.in_range) in
    let now = taken g (goal.at.notify_vertex_removed-requires g c).After-settle in
    record {
      held = held_are_sites _ _ _ c.self.invariant.1 all;
      site = rw c.position.ensures (removed_is_site g.V.HasPosition.place _ _ _
          (g.P.PlaneTests.sites c.args.tests.now) c.remove_vertex-removed.ensures.takes.value all);
      swapped_site = swapped_is_site g.V.HasPosition.place g.M.ConstraintMarker.constraints
          (state_of c.self.inside.dcel) (state_of c.settle.new.dcel) _
          c.remove_vertex-removed.result now.plain _
          c.position_if-swapped_in.ensures (g.P.PlaneTests.sites c.args.tests.now) all;
    }

pub invariant_of-self-5 : goal.invariant_of-self-5
invariant_of-self-5 g c =
    let now = taken g (goal.at.invariant_of-self-5 g c).After-settle in (
      now.counted,
      held_after_removal g.V.HasPosition.place g.M.ConstraintMarker.constraints
          (state_of c.self.inside.dcel) (state_of c.settle.new.dcel) _
          c.remove_vertex-removed.result now.plain _ c.position_if-swapped_in.ensures
          c.remove_vertex-removed.ensures.takes.value
          (g.L.HintGenerator.holds c.self.inside.hint_generator) _ c.self.invariant.1
          (rw (← c.position.ensures) c.notify_vertex_removed.ensures),
    )

pub returns : goal.returns
returns g c =
    let now = taken g (goal.at.returns g c).After-settle in
    rw (← c.self.view_is) (record {
      removes = record {
        value = c.remove_vertex-removed.ensures.takes.value;
        plain = now.plain;
        outer = now.«data».outer;
        «data» = now.«data»;
        err = tt;
      };
      headline = is_delaunay _ _ _ g.met.M.ConstraintMarker.constraints_are_marked _
          now.counted.legal;
    })
