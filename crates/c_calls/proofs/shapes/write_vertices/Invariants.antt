use Rattle.c_calls.specs.{indexes_in}
use Rattle.{c_calls.proofs.Telling.IsTelling, delaunay_shapes.specs.vertices_left}
use Rattle.c_calls.proofs.shapes.write_vertices.Given as goal

abbrev pub invariant-loop-vertex : goal.invariant-loop-vertex
invariant-loop-vertex g l = IsTelling (indexes_in (vertices_left l.fn.found))
    (indexes_in (vertices_left l.vertex-iterator)) l.count l.fn.vertices l.vertices
