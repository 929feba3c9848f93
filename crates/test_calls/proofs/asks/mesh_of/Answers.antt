use Rattle.{delaunay_extensions.proofs.Calls.kept_in_mesh, test_calls.specs.Vertices.position_of}
use Rattle.test_calls.proofs.asks.mesh_of.Goals as goal

pub returns-clause-kept : goal.returns-clause-kept
returns-clause-kept g c =
    kept_in_mesh position_of (g.T.Triangulation.state c.args.triangulation.now) c.s.result
    c.s.ensures.state c.recall_invariant.ensures.kept
