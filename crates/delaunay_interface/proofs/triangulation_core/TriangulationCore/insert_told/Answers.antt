use Rattle.std.proofs.Common.{◌∙◌, ◌+◌, ◌*◌, [], ◌∷◌, ap, refl, sym, subst, length, length-append}
use Rattle.std.proofs.Common.{arith}
use Rattle.std.specs.Prelude.{Ok}
use Rattle.std.proofs.lemmas.Bool.{eqb-true}
use Rattle.std.proofs.lemmas.Result.{err_from_is_err_and}
use Rattle.{delaunay_legalization.specs.state_of, delaunay_location.proofs.Walking.apart_elsewhere}
use Rattle.delaunay_edit.specs.{Edits.AppendsVertex, Edits.CanAppend, InsertsVertex, IsCounted}
use Rattle.delaunay_edit.proofs.{Delaunay.counted_overwritten, Overwriting.overwriting_replaces}
use Rattle.delaunay_edit.proofs.{EmptyRound.none_counted, Vertices.here_if_on_vertex}
use Rattle.delaunay_edit.proofs.Inserting.{appended, overwritten, refused, refused_far}
use Rattle.delaunay_edit.proofs.{Recounted.few_counted, WellFormed.is_delaunay}
use Rattle.delaunay_interface.proofs.Held.{held_after_insertion, held_are_sites, held_overwritten}
use Rattle.{delaunay_interface.proofs.Kept.held_of_same, half_edge_links.specs.HasRoomFor}
use Rattle.delaunay_interface.proofs.triangulation_core.TriangulationCore.insert_told.Given.{Over}
use Rattle.delaunay_interface.proofs.triangulation_core.TriangulationCore.insert_told.Goals as goal
use Rattle.delaunay_interface.proofs.triangulation_core.TriangulationCore.insert_told.Goals.{After-insert_at-more}
use Rattle.delaunay_interface.proofs.triangulation_core.TriangulationCore.insert_told.Goals.{After-reserve_for_vertices}

-- ---- a vertex is there
pub update_vertex-requires : goal.update_vertex-requires
update_vertex-requires g c =
    let here = rw c.position-position.ensures at c.locate_with_hint-location.ensures in
    let on = rw c.in-OnVertex.is at here in
    (here_if_on_vertex g.V.HasPosition.place (state_of c.self.inside.dcel) _ c.in-OnVertex.vertex
    on.location).0

pub invariant_of-self : goal.invariant_of-self
invariant_of-self g c =
    let here = rw c.position-position.ensures at c.locate_with_hint-location.ensures in
    let on = rw c.in-OnVertex.is at here in
    let at = here_if_on_vertex g.V.HasPosition.place (state_of c.self.inside.dcel) _
    c.in-OnVertex.vertex on.location in (
      counted_overwritten _ _ c.self.inside.dcel _ c.in-OnVertex.vertex c.args.value _
          c.self.invariant.0 at.0 at.1 c.update_vertex.ensures.contents,
      held_overwritten g.V.HasPosition.place
          (g.L.HintGenerator.holds c.self.inside.hint_generator) (state_of c.self.inside.dcel)
          (state_of c.update_vertex.new.self) c.in-OnVertex.vertex c.args.value at.1
          (ap state_of c.update_vertex.ensures.contents) c.self.invariant.1,
    )

pub returns-in-OnVertex : goal.returns-in-OnVertex
returns-in-OnVertex g c =
    let at = g.V.HasPosition.place in
    let constraints = g.M.ConstraintMarker.constraints in
    let old = state_of c.self.inside.dcel in
    let new = state_of c.update_vertex.new.self in
    let there = rw c.position-position.ensures at c.locate_with_hint-location.ensures in
    let on = rw c.in-OnVertex.is at there in
    let here = here_if_on_vertex at old _ c.in-OnVertex.vertex on.location in
    let is = ap state_of c.update_vertex.ensures.contents in
    rw (← c.self.view_is) (record {
      inserts = overwritten at constraints old c.args.value new c.in-OnVertex.vertex
          c.self.invariant.0.legal.kept (c.in_ok-validate_vertex.ensures.exactly.0 refl) here.0
          here.1 is (overwriting_replaces at constraints old new c.in-OnVertex.vertex c.args.value
          here.0 here.1 is);
      headline = is_delaunay _ _ _ g.met.M.ConstraintMarker.constraints_are_marked _
          (counted_overwritten _ _ c.self.inside.dcel c.update_vertex.new.self
          c.in-OnVertex.vertex c.args.value _ c.self.invariant.0 here.0 here.1
          c.update_vertex.ensures.contents).legal;
      counted = record { grows = omega arith; few = omega arith };
    })

-- ---- none is there
pub insert_at-more-requires-clause-can : goal.insert_at-more-requires-clause-can
insert_at-more-requires-clause-can g c =
    let legal = c.self.invariant.0.legal in
    let in_range = c.in_ok-validate_vertex.ensures.exactly.0 refl in
    let here = rw c.position-position.ensures at c.locate_with_hint-location.ensures in
    let sites = rw (← c.self.view_is) at c.requires.sites.sites in
    subst (CanAppend g.V.HasPosition.place g.M.ConstraintMarker.constraints
    (g.P.PlaneTests.sites c.args.tests.now) c.args.value c.locate_with_hint-location.result _)
    (sym c.reserve_for_vertices.ensures.same) (record {
      legal = legal;
      sites = sites (rw (← c.self.view_is) at c.recall_well_formed.ensures.in_range);
      new_site = c.requires.sites.new_site in_range;
      in_range = in_range;
      apart = apart_elsewhere g.V.HasPosition.place (state_of c.self.inside.dcel) legal.kept _ _
          here c.in_default.not-OnVertex;
      located = here;
      free = λ none. none_counted _ _ _ _ c.self.invariant.0 (eqb-true _ _ none);
    })

pub insert_at-more-requires-clause-room : goal.insert_at-more-requires-clause-room
insert_at-more-requires-clause-room g c =
    subst (λ s. HasRoomFor c.reserve_for_vertices.new.dcel.room (length s.vertices + 1)
    (3 * (length s.vertices + 1)) (2 * (length s.vertices + 1)))
    (sym c.reserve_for_vertices.ensures.same) c.in_ok-reserve_for_vertices-in_default.ensures.ok

-- the room that was made is of the same mesh
appends : (g : Over) (c : After-insert_at-more g) → AppendsVertex g.V.HasPosition.place
    g.M.ConstraintMarker.constraints c.args.value c.insert_at-more.result.0
    c.insert_at-more.result.1 (state_of c.self.inside.dcel) (state_of c.insert_at-more.new.dcel)
appends g c = subst (λ s. AppendsVertex g.V.HasPosition.place g.M.ConstraintMarker.constraints
    c.args.value c.insert_at-more.result.0 c.insert_at-more.result.1 s
    (state_of c.insert_at-more.new.dcel)) c.reserve_for_vertices.ensures.same
    c.insert_at-more.ensures.appends

counted : (g : Over) (c : After-insert_at-more g) → IsCounted g.V.HasPosition.place
    g.M.ConstraintMarker.constraints (state_of c.insert_at-more.new.dcel)
    (c.self.inside.num_constraints + c.insert_at-more.result.1)
counted g c = (appends g c).counted _ c.self.invariant.0

inserts : (g : Over) (c : After-insert_at-more g) → InsertsVertex g.V.HasPosition.place
    g.M.ConstraintMarker.constraints c.args.value (Ok c.insert_at-more.result.0)
    (state_of c.self.inside.dcel) (state_of c.insert_at-more.new.dcel)
inserts g c =
    let here = rw c.position-position.ensures at c.locate_with_hint-location.ensures in
    appended _ _ _ _ (c.in_ok-validate_vertex.ensures.exactly.0 refl)
    (apart_elsewhere g.V.HasPosition.place (state_of c.self.inside.dcel)
    c.self.invariant.0.legal.kept _ _ here c.in_default.not-OnVertex)
    c.in_ok-reserve_for_vertices-in_default.ensures.full (appends g c)

pub overflow_add-self : goal.overflow_add-self
overflow_add-self g c =
    let after = (goal.at.overflow_add-self g c).After-insert_at-more in
    let few = few_counted _ g.met.M.ConstraintMarker.constraints_are_marked (counted g after) in
    let small = rw (← c.self.view_is) at c.recall_well_formed.ensures.small in
    let more = ap length (appends g after).vertices ∙ length-append c.self.inside.dcel.vertices
    (c.args.value ∷ []) in
    omega (arith, few, small, more)

pub notify_vertex_inserted-requires : goal.notify_vertex_inserted-requires
notify_vertex_inserted-requires g c =
    let sites = rw (← c.self.view_is) at c.requires.sites.sites in
    let in_range = rw (← c.self.view_is) at c.recall_well_formed.ensures.in_range in
    record {
      held = held_are_sites _ _ _ c.self.invariant.1 (sites in_range);
      site = rw c.position-position.ensures (c.requires.sites.new_site
          (c.in_ok-validate_vertex.ensures.exactly.0 refl));
    }

pub invariant_of-self-in_default : goal.invariant_of-self-in_default
invariant_of-self-in_default g c =
    let after = (goal.at.invariant_of-self-in_default g c).After-insert_at-more in (
      counted g after,
      held_after_insertion _ _ _ _ c.args.value c.insert_at-more.result.0 (inserts g after)
          (g.L.HintGenerator.holds c.self.inside.hint_generator) _ c.self.invariant.1
          (rw (← c.position-position.ensures) c.notify_vertex_inserted.ensures),
    )

pub returns-in_ok-reserve_for_vertices-in_default-clause-inserts :
    goal.returns-in_ok-reserve_for_vertices-in_default-clause-inserts
returns-in_ok-reserve_for_vertices-in_default-clause-inserts g c =
    let at = goal.at.returns-in_ok-reserve_for_vertices-in_default-clause-inserts g c in
    rw (← c.self.view_is) (inserts g at.After-insert_at-more)

pub returns-in_ok-reserve_for_vertices-in_default-clause-headline :
    goal.returns-in_ok-reserve_for_vertices-in_default-clause-headline
returns-in_ok-reserve_for_vertices-in_default-clause-headline g c =
    let at = goal.at.returns-in_ok-reserve_for_vertices-in_default-clause-headline g c in
    is_delaunay _ _ _ g.met.M.ConstraintMarker.constraints_are_marked _
    (counted g at.After-insert_at-more).legal

-- ---- refusals
pub returns-in_err-validate_vertex-clause-inserts :
    goal.returns-in_err-validate_vertex-clause-inserts
returns-in_err-validate_vertex-clause-inserts g c =
    let p = err_from_is_err_and c.from_residual.result c.from_residual.ensures.1 in
    let told = c.in_err-validate_vertex.ensures in
    rw (p.1, p.2) (refused_far _ _ _ _ _ told.only told.exactly)

-- the mesh with room is as it was
ready : (g : Over) (c : After-reserve_for_vertices g) → IsCounted g.V.HasPosition.place
    g.M.ConstraintMarker.constraints (state_of c.reserve_for_vertices.new.dcel)
    c.self.inside.num_constraints
ready g c = subst (λ s. IsCounted g.V.HasPosition.place g.M.ConstraintMarker.constraints s
    c.self.inside.num_constraints) (sym c.reserve_for_vertices.ensures.same) c.self.invariant.0

pub invariant_of-self-in_err-reserve_for_vertices-in_default :
    goal.invariant_of-self-in_err-reserve_for_vertices-in_default
invariant_of-self-in_err-reserve_for_vertices-in_default g c =
    let at = goal.at.invariant_of-self-in_err-reserve_for_vertices-in_default g c in (
      ready g at.After-reserve_for_vertices,
      held_of_same g.V.HasPosition.place _ _ _
          (ap (λ s. s.vertices) c.reserve_for_vertices.ensures.same) c.self.invariant.1,
    )

pub returns-in_err-reserve_for_vertices-in_default-clause-headline :
    goal.returns-in_err-reserve_for_vertices-in_default-clause-headline
returns-in_err-reserve_for_vertices-in_default-clause-headline g c =
    let at = goal.at.returns-in_err-reserve_for_vertices-in_default-clause-headline g c in
    is_delaunay _ _ _ g.met.M.ConstraintMarker.constraints_are_marked _
    (ready g at.After-reserve_for_vertices).legal

pub returns-in_err-reserve_for_vertices-in_default-clause-inserts :
    goal.returns-in_err-reserve_for_vertices-in_default-clause-inserts
returns-in_err-reserve_for_vertices-in_default-clause-inserts g c =
    let p = err_from_is_err_and c.from_residual-in_err-reserve_for_vertices-in_default.result
    c.from_residual-in_err-reserve_for_vertices-in_default.ensures.1 in
    let room = c.in_err-reserve_for_vertices-in_default.ensures in
    let here = rw c.position-position.ensures at c.locate_with_hint-location.ensures in
    rw (p.1, p.2, ← c.self.view_is) (refused _ _ _ _ _
    (c.in_ok-validate_vertex.ensures.exactly.0 refl)
    (apart_elsewhere g.V.HasPosition.place (state_of c.self.inside.dcel)
    c.self.invariant.0.legal.kept _ _ here c.in_default.not-OnVertex) room.full room.not_too_large
    room.same)
