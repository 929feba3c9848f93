use Rattle.delaunay_edit.proofs.OtherData.{counted_with_users}
use Rattle.delaunay_interface.proofs.shared_calls.TriangulationCoreTriangulation.undirected_edge_data_mut.Goals as goal

pub invariant_of-self-lent : goal.invariant_of-self-lent
invariant_of-self-lent g c = λ w. (
  counted_with_users _ _ _ _ _ (g.met.M.EdgeData.with_user_length _ c.args.edge w)
      (g.met.M.EdgeData.with_user_constraints _ c.args.edge w) c.self.invariant.0,
  c.self.invariant.1,
)
