use Rattle.std.proofs.Common.{◌+◌, ◌/◌, ◌∙◌, length, refl, sym, ap, subst, arith}
use Rattle.std.specs.Prelude.{Contains}
use Rattle.delaunay_legalization.specs.{is_constraint, state_of}
use Rattle.delaunay_edit.specs.{constraint_edges, IsCounted}
use Rattle.delaunay_edit.proofs.EditingConstraints.{edges_marked, path_added}
use Rattle.delaunay_edit.proofs.OneSubconstraintAdded.{none_added, not_joined, one_missing}
use Rattle.delaunay_edit.proofs.Recounted.{counted_added, few_counted}
use Rattle.{delaunay_edit.proofs.WellFormed.is_delaunay, delaunay_legalization.proofs.both_ways}
use Rattle.delaunay_interface.proofs.Kept.{held_of_same}
use Rattle.delaunay_interface.proofs.constraint_edits.ConstrainedDelaunayTriangulation+V+DE+UE+F+L.constrain.Given.{Over}
use Rattle.delaunay_interface.proofs.constraint_edits.ConstrainedDelaunayTriangulation+V+DE+UE+F+L.constrain.Goals as goal
use Rattle.delaunay_interface.proofs.constraint_edits.ConstrainedDelaunayTriangulation+V+DE+UE+F+L.constrain.Goals.{After-constrain_edge}

-- the edge was no constraint
free : (g : Over) (c : After-constrain_edge g)
    → ¬ Contains (constraint_edges c.self.inside.dcel.undirected) (c.args.edge / 2)
free g c there = both_ways _ (c.is_constraint_edge.ensures.1 (rw c.as_undirected.ensures
    (subst (λ s. Contains (constraint_edges s.undirected) (c.args.edge / 2))
    (c.self.view_is ∙ sym c.mesh.ensures.state) there))) c.if-is_constraint_edge.false

-- and there is one more
counted : (g : Over) (c : After-constrain_edge g) → IsCounted g.V.HasPosition.place
    constraint_edges (state_of c.constrain_edge.new.dcel) (c.self.inside.num_constraints + 1)
counted g c = counted_added is_constraint (λ ds. refl) c.self.invariant.0
    c.constrain_edge.ensures.adds (one_missing g.V.HasPosition.place c.self.inside.dcel
    c.self.invariant.0.legal.kept c.args.edge (rw (← c.self.view_is) at c.requires) (free g c))

pub is_constraint_edge-requires : goal.is_constraint_edge-requires
is_constraint_edge-requires g c =
    let fits = (rw (← c.mesh.ensures.state) at c.mesh.ensures.well_formed.kept).fits in
    let edges = fits.undirected_fit in
    let directed = fits.directed_fit in
    let within = rw (← c.mesh.ensures.state) at c.requires in
    let half = c.as_undirected.ensures in
    omega (arith, edges, directed, within, half)

pub returns-then-is_constraint_edge-clause-adds : goal.returns-then-is_constraint_edge-clause-adds
returns-then-is_constraint_edge-clause-adds g c =
    rw (← c.mesh.ensures.state) (none_added g.V.HasPosition.place c.mesh.result.now
    (rw (← c.mesh.ensures.state) at c.mesh.ensures.well_formed.kept) c.args.edge
    (rw (← c.mesh.ensures.state) at c.requires)
    (rw c.as_undirected.ensures at (c.is_constraint_edge.ensures.0 c.if-is_constraint_edge.true)))

pub overflow_add-self : goal.overflow_add-self
overflow_add-self g c =
    let room = few_counted is_constraint (λ ds. refl)
    (counted g (goal.at.overflow_add-self g c).After-constrain_edge) in
    let same = ap (λ vs. length vs) c.constrain_edge.ensures.adds.plain.vertices in
    let few = rw (← c.self.view_is) at c.mesh.ensures.well_formed.small in
    omega (arith, room, same, few)

pub invariant_of-self : goal.invariant_of-self
invariant_of-self g c = (
  counted g (goal.at.invariant_of-self g c).After-constrain_edge,
  held_of_same g.V.HasPosition.place _ _ _
      (ap (λ d. d.vertices) c.constrain_edge.ensures.adds.contents) c.self.invariant.1,
)

pub returns-clause-adds : goal.returns-clause-adds
returns-clause-adds g c =
    let adds = c.constrain_edge.ensures.adds in
    rw (← c.self.view_is) (path_added _ _ _ _ _ adds.plain _ refl (not_joined
    g.V.HasPosition.place c.self.inside.dcel c.self.invariant.0.legal.kept c.args.edge
    (rw (← c.self.view_is) at c.requires) (free g (goal.at.returns-clause-adds g
    c).After-constrain_edge)) (edges_marked _ _ _ _ _ adds))

pub returns-clause-headline : goal.returns-clause-headline
returns-clause-headline g c =
    is_delaunay _ is_constraint constraint_edges (λ ds. refl) _ c.constrain_edge.ensures.adds.legal
