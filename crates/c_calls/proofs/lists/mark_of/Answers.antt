use Rattle.std.proofs.Common.{◌∙◌, ◌/◌, ℕ, inl, inr, refl, sym, ap}
use Rattle.std.specs.Prelude.{slice_get}
use Rattle.delaunay_legalization.proofs.{both_ways, Constraints.is_constraint_edge, fixed_edge_is}
use Rattle.c_calls.proofs.lists.mark_of.Goals as goal

pub returns-then-is_constraint_edge : goal.returns-then-is_constraint_edge
returns-then-is_constraint_edge g c =
    let edge = c.args.edge in
    let half = c.as_undirected in
    inl (
      refl,
      is_constraint_edge g.M.ConstraintMarker.marks g.M.ConstraintMarker.constraints
          g.met.M.ConstraintMarker.constraints_are_marked edge.dcel.now.undirected (edge.index / 2)
          c.data.result.now
          (ap (λ d. slice_get d.now.undirected (edge.index / 2)) (sym half.ensures.dcel)
          ∙ ap (λ (k : ℕ). slice_get half.result.dcel.now.undirected k) (sym half.ensures.index)
          ∙ c.data.ensures) (sym c.is_constraint_edge.ensures ∙ c.if-is_constraint_edge.true),
    )

pub returns-else-is_constraint_edge : goal.returns-else-is_constraint_edge
returns-else-is_constraint_edge g c =
    let edge = c.args.edge in
    let half = c.as_undirected in
    inr (
      refl,
      λ h. both_ways _ (c.is_constraint_edge.ensures
          ∙ fixed_edge_is g.M.ConstraintMarker.marks g.M.ConstraintMarker.constraints
          g.met.M.ConstraintMarker.constraints_are_marked edge.dcel.now.undirected (edge.index / 2)
          c.data.result.now
          (ap (λ d. slice_get d.now.undirected (edge.index / 2)) (sym half.ensures.dcel)
          ∙ ap (λ (k : ℕ). slice_get half.result.dcel.now.undirected k) (sym half.ensures.index)
          ∙ c.data.ensures) h) c.if-is_constraint_edge.false,
    )
