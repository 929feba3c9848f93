-- What is left of iterators over the parts of a mesh.
use Rattle.std.specs.Prelude.{ℕ, List, map}
use Rattle.std.specs.Borrow.{Bor}
use Rattle.half_edge_dcel.specs.MeshContents.{Contents}
use Rattle.half_edge_dcel.specs.declared.iterators.DirectedEdgeIterator.{DirectedEdgeIterator}
use Rattle.half_edge_dcel.specs.declared.iterators.FaceIterator.{FaceIterator}
use Rattle.half_edge_dcel.specs.declared.iterators.UndirectedEdgeIterator.{UndirectedEdgeIterator}
use Rattle.half_edge_dcel.specs.declared.iterators.VertexIterator.{VertexIterator}

-- parts of a mesh: the mesh, and their indexes
abbrev pub each_in : {C : Type 0} → Bor C → List ℕ → List (Bor C × ℕ)
each_in mesh indexes = map (λ i. (mesh, i)) indexes

-- the vertices that an iterator has still to give
abbrev pub vertices_left : {V D U F : Type 0} → VertexIterator V D U F
    → List (Bor (Contents V D U F) × ℕ)
vertices_left it = each_in it.dcel it.rest

-- the directed edges that an iterator has still to give
abbrev pub directed_edges_left : {V D U F : Type 0} → DirectedEdgeIterator V D U F
    → List (Bor (Contents V D U F) × ℕ)
directed_edges_left it = each_in it.dcel it.rest

-- the undirected edges that an iterator has still to give
abbrev pub undirected_edges_left : {V D U F : Type 0} → UndirectedEdgeIterator V D U F
    → List (Bor (Contents V D U F) × ℕ)
undirected_edges_left it = each_in it.dcel it.rest

-- the faces that an iterator has still to give
abbrev pub faces_left : {V D U F : Type 0} → FaceIterator V D U F
    → List (Bor (Contents V D U F) × ℕ)
faces_left it = each_in it.dcel it.rest
