use Rattle.c_calls.specs.{indexes_in}
use Rattle.{c_calls.proofs.Telling.IsTelling, delaunay_shapes.specs.edges_left}
use Rattle.c_calls.proofs.shapes.write_found_edges.Given as goal

abbrev pub invariant-loop-edge : goal.invariant-loop-edge
invariant-loop-edge g l = IsTelling (indexes_in (edges_left l.fn.found))
    (indexes_in (edges_left l.edge-iterator)) l.count l.fn.edges l.edges
