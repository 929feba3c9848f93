use Rattle.{c_calls.specs.Answered, c_calls.specs.Layers.IsLayerAt}
use Rattle.c_calls.proofs.layers.ListLayersQuery.ask.Given as goal

abbrev pub invariant-loop-index : goal.invariant-loop-index
invariant-loop-index g l = let s = g.T.Triangulation.state l.points in
    Answered (IsLayerAt s.mesh (g.T.Constraints.ConstraintMarker.constraints s.undirected)) l.index
    l.fn.layers l.layers
