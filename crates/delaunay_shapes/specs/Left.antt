-- What is left of iterators over the edges and vertices in a shape.
use Rattle.std.specs.Prelude.{◌≡◌, ℕ, List, map, drop}
use Rattle.std.specs.Borrow.{Bor}
use Rattle.plane.specs.{Fraction, Point}
use Rattle.half_edge_dcel.specs.{Contents, each_in}
use Rattle.delaunay_shapes.specs.InShape.{AreEdgesInShape, AreVerticesInShape, undirected_of}
use Rattle.delaunay_shapes.specs.declared.in_shape.EdgesInShapeIterator.{EdgesInShapeIterator}
use Rattle.delaunay_shapes.specs.declared.in_shape.VerticesInShapeIterator.{VerticesInShapeIterator}

-- the edges in a shape that an iterator has still to give
abbrev pub edges_left : {V D U F : Type 0} → EdgesInShapeIterator V D U F
    → List (Bor (Contents V D U F) × ℕ)
edges_left it = each_in it.dcel (undirected_of (drop it.next it.edges.items))

-- the vertices in a shape that an iterator has still to give
abbrev pub vertices_left : {V D U F : Type 0} → VerticesInShapeIterator V D U F
    → List (Bor (Contents V D U F) × ℕ)
vertices_left it = each_in it.dcel (drop it.next it.vertices.items)

-- handles of the edges of a mesh that have a point in the shape, each once
pub record GivesEdgesIn {V D U F : Type 0} (Shape : Fraction → Type 0) (place : V → Point)
    (dcel : Bor (Contents V D U F)) (given : List (Bor (Contents V D U F) × ℕ)) : Type 0 where
  pub edges : List ℕ
  pub listed : given ≡ each_in dcel edges
  pub exact : AreEdgesInShape Shape (map place dcel.now.vertices) dcel.now.mesh edges

-- handles of the vertices of a mesh in the shape, each once
pub record GivesVerticesIn {V D U F : Type 0} (Shape : Fraction → Type 0) (place : V → Point)
    (dcel : Bor (Contents V D U F)) (given : List (Bor (Contents V D U F) × ℕ)) : Type 0 where
  pub vertices : List ℕ
  pub listed : given ≡ each_in dcel vertices
  pub exact : AreVerticesInShape Shape (map place dcel.now.vertices) vertices
