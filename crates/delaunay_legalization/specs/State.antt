-- A triangulation, as a contract sees it.
-- State: the vertices, the mesh of their indexes, and the data of edges and faces
-- state_of c: what a mesh with data holds, without its room
-- triangulation_of place s: the positions of the vertices, with the faces and the edges
-- points_and_constraints s: the plain state of a triangulation that has no constraints
use Rattle.std.specs.Prelude.{List, [], map}
use Rattle.plane.specs.{Plain, Point, Triangulation}
use Rattle.half_edge_links.specs.{Mesh}
use Rattle.{delaunay_legalization.specs.Drawn.drawn, half_edge_dcel.specs.Contents}

-- the vertices, the mesh of their indexes, and the data of its directed and undirected edges, of
-- the outer face and of the faces from face 1 on
pub record State (V D U F : Type 0) : Type 0 where
  pub vertices : List V
  pub mesh : Mesh
  pub directed : List D
  pub undirected : List U
  pub outer : F
  pub faces : List F

-- all that a mesh with data holds but its room
abbrev pub state_of : {V D U F : Type 0} → Contents V D U F → State V D U F
state_of c = record {
  vertices = c.vertices;
  mesh = c.mesh;
  directed = c.directed;
  undirected = c.undirected;
  outer = c.outer;
  faces = c.faces;
}

-- the positions of the vertices, with the faces and the edges
abbrev pub triangulation_of : {V D U F : Type 0} → (V → Point) → State V D U F → Triangulation
triangulation_of place s = drawn (map place s.vertices) s.mesh

-- the vertices, without constraints
abbrev pub points_and_constraints : {V D U F : Type 0} → State V D U F → Plain V
points_and_constraints s = record { vertices = s.vertices; constraints = [] }
