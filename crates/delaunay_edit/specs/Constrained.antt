-- The constraints of a triangulation: the edges whose data say that they are.
-- constraint_edges ds: the undirected edges that are constraints, by the data of all edges
-- constraints_of s: the pairs of vertices that they join
-- constrained s: the plain state: the vertices, with these pairs
-- none: no edge is a constraint, for a triangulation without constraints
-- IsFree u e: e is no constraint, and has the data u
use Rattle.std.specs.Prelude.{◌≡◌, ℕ, false, List, []}
use Rattle.delaunay_legalization.specs.{constraints_by, is_constraint, marked_edges}
use Rattle.{delaunay_legalization.specs.points_and_constraints_by, plane.specs.Plain}
use Rattle.delaunay_legalization.specs.{declared.cdt_edge.CdtEdge.CdtEdge, State.State}

-- no edge is a constraint
abbrev pub none : {U : Type 0} → List U → List ℕ
none ds = []

-- the undirected edges that are constraints, by the data of all of them
abbrev pub constraint_edges : {U : Type 0} → List (CdtEdge U) → List ℕ
constraint_edges ds = marked_edges is_constraint ds

-- the pairs of vertices that constraints join
abbrev pub constraints_of : {V D U F : Type 0} → State V D (CdtEdge U) F → List (ℕ × ℕ)
constraints_of s = constraints_by constraint_edges s

-- the vertices, with the constraints
abbrev pub constrained : {V D U F : Type 0} → State V D (CdtEdge U) F → Plain V
constrained s = points_and_constraints_by constraint_edges s

-- an edge that is no constraint, with these data
abbrev pub IsFree : {U : Type 0} → U → CdtEdge U → Type 0
IsFree u e = (e.is_constraint_edge ≡ false) × (e.«data» ≡ u)
