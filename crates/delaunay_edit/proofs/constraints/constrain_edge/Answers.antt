use Rattle.std.proofs.Common.{◌∙◌, arith, sym}
use Rattle.delaunay_edit.proofs.{Marks.gets_mark, Marks.has_mark, OneSubconstraint.edge_added}
use Rattle.delaunay_edit.proofs.constraints.constrain_edge.Goals as goal

pub undirected_edge_data-requires : goal.undirected_edge_data-requires
undirected_edge_data-requires g c = let fits = c.requires.legal.kept.fits in omega arith

pub returns-then-is_constraint_edge-clause-adds : goal.returns-then-is_constraint_edge-clause-adds
returns-then-is_constraint_edge-clause-adds g c =
    let laws = g.met.M.ConstraintMarker in
    edge_added _ _ _ _ laws.constraints_are_marked
    (λ x. laws.marked_has_mark x c.requires.can_mark) _ _ c.requires.legal _
    (rw c.requires.legal.kept.fits.directed_fit at c.requires.within)
    (has_mark c.undirected_edge_data.ensures c.as_undirected-edge.ensures
    (sym c.is_constraint_edge.ensures ∙ c.if-is_constraint_edge.true))

pub returns-clause-adds : goal.returns-clause-adds
returns-clause-adds g c =
    let laws = g.met.M.ConstraintMarker in
    edge_added _ _ _ _ laws.constraints_are_marked
    (λ x. laws.marked_has_mark x c.requires.can_mark) _ _ c.requires.legal _
    (rw c.requires.legal.kept.fits.directed_fit at c.requires.within)
    (gets_mark c.undirected_edge_data.ensures c.as_undirected-edge.ensures
    (sym c.is_constraint_edge.ensures ∙ c.if-is_constraint_edge.false)
    (λ x. laws.marked_has_mark x c.requires.can_mark) c.undirected_edge_data_mut.ensures.value
    c.make_constraint.ensures)
