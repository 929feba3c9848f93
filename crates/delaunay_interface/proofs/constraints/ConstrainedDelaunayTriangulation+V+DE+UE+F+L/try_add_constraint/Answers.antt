use Rattle.std.proofs.Common.{◌<◌, [], ◌∷◌, ◌++◌, ◌∙◌, ℕ, List, length, ap, inl, inr, refl, sym}
use Rattle.std.proofs.lemmas.Bool.{eq-eqb, eqb-true}
use Rattle.half_edge_links.specs.{origin, rev}
use Rattle.delaunay_legalization.specs.{is_constraint, state_of}
use Rattle.{delaunay_edit.specs.constraint_edges, delaunay_legalization.proofs.both_ways}
use Rattle.delaunay_edit.proofs.EditingConstraints.{none_listed, path_is_there}
use Rattle.delaunay_edit.proofs.{JoinedPairs.index_found, OneSubconstraint.joined_is_free}
use Rattle.delaunay_edit.proofs.OneSubconstraintAdded.{edge_listed, list_renamed}
use Rattle.delaunay_interface.proofs.constraints.ConstrainedDelaunayTriangulation+V+DE+UE+F+L.try_add_constraint.Goals as goal

pub returns-then-eq-clause-path : goal.returns-then-eq-clause-path
returns-then-eq-clause-path g c =
    none_listed _ _ _ _ _ c.new-edges.ensures.items
    (inl (eqb-true _ _ (sym c.eq.ensures ∙ c.if-eq.true)))

pub returns-in_err-push-clause-none : goal.returns-in_err-push-clause-none
returns-in_err-push-clause-none g c =
    let kept = rw (← c.mesh-dcel.ensures.state) at c.mesh-dcel.ensures.well_formed.kept in
    let found = index_found c.in-Some.ensures.some c.fix-edge.ensures.value
    c.fix-edge.ensures.in_range in
    let free = joined_is_free g.V.HasPosition.place (state_of c.mesh-dcel.result.now) kept
    c.fix-edge.result (rw kept.fits.directed_fit at found.0) is_constraint constraint_edges
    (λ ds. refl) c.args.from c.args.to found.1 found.2 in
    λ barred. absurd (elim barred as (λ _. ⊥) [
      | inl same ↦ both_ways _ (c.eq.ensures ∙ eq-eqb _ _ same) c.if-eq.false
      | inr none ↦ none (rw (← c.mesh-dcel.ensures.state) free)
    ])

pub constrain-requires : goal.constrain-requires
constrain-requires g c = rw (← c.mesh-dcel.ensures.state) (index_found c.in-Some.ensures.some
    c.fix-edge.ensures.value c.fix-edge.ensures.in_range).0

pub returns-in-Some-clause-path : goal.returns-in-Some-clause-path
returns-in-Some-clause-path g c =
    let old = c.args.self.now in
    let edge = c.fix-edge.result in
    let found = index_found c.in-Some.ensures.some c.fix-edge.ensures.value
    c.fix-edge.ensures.in_range in
    let kept = c.mesh-dcel.ensures.well_formed.kept in
    let within : edge < length old.directed = rw (← c.mesh-dcel.ensures.state) found.0 in
    let listed = edge_listed c.constrain.ensures.adds kept (rw kept.fits.directed_fit at within)
    c.constrain.ensures.mesh _ (c.in_ok-push.ensures.items
    ∙ ap (λ (hs : List ℕ). hs ++ edge ∷ []) c.new-edges.ensures.items) in
    list_renamed g.V.HasPosition.place old c.constrain.new.self _ (origin old.mesh edge)
    (origin old.mesh (rev edge)) c.args.from c.args.to
    (rw (← c.mesh-dcel.ensures.state) found.1) (rw (← c.mesh-dcel.ensures.state) found.2) listed

pub returns-in_default-count_path-clause-path : goal.returns-in_default-count_path-clause-path
returns-in_default-count_path-clause-path g c =
    none_listed _ _ _ _ _ c.new-edges.ensures.items
    (inr (rw (← c.mesh-dcel.ensures.state) c.in_default-count_path.ensures.barred))

pub join_path-requires-clause-free : goal.join_path-requires-clause-free
join_path-requires-clause-free g c =
    rw (← c.mesh-dcel.ensures.state) c.in-Some-count_path.ensures.free

pub returns-in_err-reserve-clause-none : goal.returns-in_err-reserve-clause-none
returns-in_err-reserve-clause-none g c = λ barred. absurd (elim barred as (λ _. ⊥) [
  | inl same ↦ both_ways _ (c.eq.ensures ∙ eq-eqb _ _ same) c.if-eq.false
  | inr none ↦ none (rw (← c.mesh-dcel.ensures.state) c.in-Some-count_path.ensures.free)
])

pub returns-in_err-join_path-clause-none : goal.returns-in_err-join_path-clause-none
returns-in_err-join_path-clause-none g c = λ barred. absurd (elim barred as (λ _. ⊥) [
  | inl same ↦ both_ways _ (c.eq.ensures ∙ eq-eqb _ _ same) c.if-eq.false
  | inr none ↦ none (rw (← c.mesh-dcel.ensures.state) c.in-Some-count_path.ensures.free)
])

pub edges_along-requires-clause-joined : goal.edges_along-requires-clause-joined
edges_along-requires-clause-joined g c =
    rw (← c.mesh-dcel-2.ensures.state) at (path_is_there g.V.HasPosition.place c.args.self.now
    c.join_path.new.self c.args.from c.args.to c.in_ok-join_path.ensures.plain
    c.in_ok-join_path.ensures.headline)

pub returns-clause-path : goal.returns-clause-path
returns-clause-path g c = record {
  refused = λ barred. absurd (elim barred as (λ _. ⊥) [
    | inl same ↦ both_ways _ (c.eq.ensures ∙ eq-eqb _ _ same) c.if-eq.false
    | inr none ↦ none (rw (← c.mesh-dcel.ensures.state) c.in-Some-count_path.ensures.free)
  ]);
  plain = λ apart free. c.in_ok-join_path.ensures.plain;
  along = λ apart free. rw (← c.mesh-dcel-2.ensures.state) c.edges_along.ensures;
  «data» = c.in_ok-join_path.ensures.«data»;
}
