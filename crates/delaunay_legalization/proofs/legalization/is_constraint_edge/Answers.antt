use Rattle.std.proofs.Common.{◌∙◌, sym}
use Rattle.delaunay_legalization.proofs.Constraints.{fixed_edge_is, is_constraint_edge}
use Rattle.delaunay_legalization.proofs.legalization.is_constraint_edge.Goals as goal

pub returns : goal.returns
returns g c = (
  (λ t. is_constraint_edge g.M.ConstraintMarker.marks g.M.ConstraintMarker.constraints
      g.met.M.ConstraintMarker.constraints_are_marked c.args.dcel.now.undirected c.args.edge _
      c.undirected_edge_data.ensures (sym c.is_constraint_edge.ensures ∙ t)),
  (λ h. c.is_constraint_edge.ensures
      ∙ fixed_edge_is g.M.ConstraintMarker.marks g.M.ConstraintMarker.constraints
      g.met.M.ConstraintMarker.constraints_are_marked c.args.dcel.now.undirected c.args.edge _
      c.undirected_edge_data.ensures h),
)
