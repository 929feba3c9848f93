use Rattle.std.proofs.Common.{◌≡◌, ◌∙◌, Some, sym}
use Rattle.delaunay_legalization.proofs.{both_ways, Constraints.is_constraint_edge, fixed_edge_is}
use Rattle.delaunay_location.proofs.conflicts.conflict_in.Goals as goal

one_some : {A : Type 0} {x y : A} → Some x ≡ Some y → x ≡ y
one_some is = cc

pub returns-then-is_constraint_edge : goal.returns-then-is_constraint_edge
returns-then-is_constraint_edge g c =
    let marked = g.met.M.ConstraintMarker.constraints_are_marked in
    let here = rw (c.as_undirected.ensures.dcel, c.as_undirected.ensures.index) at c.data.ensures in
    let told = sym c.is_constraint_edge.ensures ∙ c.if-is_constraint_edge.true in (
      sym c.as_edge_intersection.ensures ∙ c.in_ok-edge.was,
      is_constraint_edge _ _ marked _ _ _ here told,
    )

pub returns-else-is_constraint_edge : goal.returns-else-is_constraint_edge
returns-else-is_constraint_edge g c e is fixed =
    let marked = g.met.M.ConstraintMarker.constraints_are_marked in
    let here = rw (c.as_undirected.ensures.dcel, c.as_undirected.ensures.index) at c.data.ensures in
    let same = one_some (sym is ∙ sym c.as_edge_intersection.ensures ∙ c.in_ok-edge.was) in
    both_ways _ (c.is_constraint_edge.ensures ∙ fixed_edge_is _ _ marked _ _ _ here
    (rw same at fixed)) c.if-is_constraint_edge.false
