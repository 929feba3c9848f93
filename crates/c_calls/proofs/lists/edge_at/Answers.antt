use Rattle.std.proofs.Common.{◌∙◌, ℕ, ◌*◌, ap}
use Rattle.{c_calls.proofs.Marks.edge_at, delaunay_legalization.specs.state_of}
use Rattle.c_calls.proofs.lists.edge_at.Goals as goal

pub returns : goal.returns
returns g c = edge_at g.T.Vertex.HasPosition.place g.T.Constraints.ConstraintMarker.marks
    g.T.Constraints.ConstraintMarker.constraints
    g.met.T.Constraints.ConstraintMarker.constraints_are_marked
    (g.T.Triangulation.state c.args.points.now) c.recall_invariant.ensures.kept
    (state_of c.as_directed.result.dcel.now) c.args.index c.as_directed.result.index
    c.raw_edge.result
    (ap (λ d. state_of d.now) c.as_directed.ensures.dcel ∙ c.undirected_edge-edge.ensures.state)
    c.requires
    (c.as_directed.ensures.index ∙ ap (λ (k : ℕ). 2 * k)
    (c.undirected_edge-edge.ensures.index ∙ c.from_index.ensures)) c.raw_edge.ensures
