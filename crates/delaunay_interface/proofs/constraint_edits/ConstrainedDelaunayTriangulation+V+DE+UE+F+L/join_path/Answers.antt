use Rattle.std.proofs.Common.{◌+◌, ◌∙◌, length, refl, sym, ap, arith}
use Rattle.std.specs.Prelude.{true}
use Rattle.delaunay_legalization.specs.{is_constraint, state_of, with_mark}
use Rattle.delaunay_edit.specs.{AddsConstraints, constraint_edges, IsCounted}
use Rattle.delaunay_edit.proofs.{AddingSubconstraints.cleared_work, EditingConstraints.edges_marked}
use Rattle.delaunay_edit.proofs.{MovedEdges.fewer_fit, WellFormed.is_delaunay}
use Rattle.delaunay_edit.proofs.Recounted.{counted_added, few_counted}
use Rattle.delaunay_edit.proofs.Releasing.{added_left, constraints_added}
use Rattle.delaunay_interface.proofs.Kept.{held_of_same}
use Rattle.delaunay_interface.proofs.constraint_edits.ConstrainedDelaunayTriangulation+V+DE+UE+F+L.join_path.Given.{Over}
use Rattle.delaunay_interface.proofs.constraint_edits.ConstrainedDelaunayTriangulation+V+DE+UE+F+L.join_path.Goals as goal
use Rattle.delaunay_interface.proofs.constraint_edits.ConstrainedDelaunayTriangulation+V+DE+UE+F+L.join_path.Goals.{After-legalize}

-- the path is added
added : (g : Over) (c : After-legalize g) → AddsConstraints g.V.HasPosition.place is_constraint
    (with_mark true) constraint_edges c.self.inside.dcel c.legalize.new.dcel c.args.from c.args.to
added g c =
    let flips = c.legalize.ensures.legalizes in
    constraints_added c.add_path.ensures.adds flips.contents flips.constraints flips.legal

-- there are so many constraints more
counted : (g : Over) (c : After-legalize g) → IsCounted g.V.HasPosition.place
    constraint_edges (state_of c.legalize.new.dcel)
    (c.self.inside.num_constraints + c.args.missing)
counted g c = counted_added is_constraint (λ ds. refl) c.self.invariant.0 (added g c)
    (rw (← c.self.view_is) at c.requires.missing)

pub add_path-requires-clause-room : goal.add_path-requires-clause-room
add_path-requires-clause-room g c =
    let few = c.self.invariant.0.legal.kept.few_edges in
    let all = c.num_vertices-edges.ensures.value
    ∙ ap (λ s. length s.vertices) (c.mesh.ensures.state ∙ sym c.self.view_is) in (
      cleared_work _ _ _ _ few (rw all at c.in_ok-reserve.ensures.room) c.clear.ensures.room
          c.clear.ensures.items,
      fewer_fit _ _ _ few (rw all at c.in_ok-reserve-2.ensures),
    )

pub legalize-requires-clause-left : goal.legalize-requires-clause-left
legalize-requires-clause-left g c =
    added_left c.add_path.ensures.adds c.add_path.ensures.leaves c.self.invariant.0.legal

pub add_path-requires-clause-way : goal.add_path-requires-clause-way
add_path-requires-clause-way g c = record {
  from = rw (← c.self.view_is) at c.requires.within.0;
  to = rw (← c.self.view_is) at c.requires.within.1;
  free = rw (← c.self.view_is) at c.requires.free;
}

pub returns-clause-data : goal.returns-clause-data
returns-clause-data g c =
    rw (← c.self.view_is) (edges_marked _ _ _ _ _
    (added g (goal.at.returns-clause-data g c).After-legalize))

pub overflow_add-self : goal.overflow_add-self
overflow_add-self g c =
    let room = few_counted is_constraint (λ ds. refl)
    (counted g (goal.at.overflow_add-self g c).After-legalize) in
    let same = ap (λ vs. length vs) c.add_path.ensures.adds.plain.vertices in
    let few = rw (← c.self.view_is) at c.mesh.ensures.well_formed.small in
    omega (arith, room, same, few)

pub invariant_of-self-2 : goal.invariant_of-self-2
invariant_of-self-2 g c = (
  counted g (goal.at.invariant_of-self-2 g c).After-legalize,
  held_of_same g.V.HasPosition.place _ _ _
      (ap (λ d. d.vertices)
      (added g (goal.at.invariant_of-self-2 g c).After-legalize).contents) c.self.invariant.1,
)

pub returns-clause-headline : goal.returns-clause-headline
returns-clause-headline g c =
    is_delaunay _ is_constraint constraint_edges (λ ds. refl) _ c.legalize.ensures.legalizes.legal

pub returns-in_err-reserve-clause-headline : goal.returns-in_err-reserve-clause-headline
returns-in_err-reserve-clause-headline g c =
    is_delaunay _ is_constraint constraint_edges (λ ds. refl) _ c.self.invariant.0.legal

pub returns-in_err-reserve-2-clause-headline : goal.returns-in_err-reserve-2-clause-headline
returns-in_err-reserve-2-clause-headline g c =
    is_delaunay _ is_constraint constraint_edges (λ ds. refl) _ c.self.invariant.0.legal
