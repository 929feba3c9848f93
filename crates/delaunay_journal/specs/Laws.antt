-- What follows of several calls.
use Rattle.std.specs.Prelude.{◌≡◌, ◌↔◌, ◌<◌, ℕ, List, length}
use Rattle.plane.specs.{Appends, Inserts, IsSameState, Joins, Plain, Point, Removes}
use Rattle.half_edge_links.specs.{rev}
use Rattle.{delaunay_legalization.specs.points_and_constraints_by, half_edge_dcel.specs.Contents}
use Rattle.delaunay_legalization.specs.{declared.cdt_edge.CdtEdge.CdtEdge, State.State}
use Rattle.delaunay_location.specs.{OnVertex, PositionInTriangulation}
use Rattle.delaunay_edit.specs.{constraints_of, FindsLocation, IsWellFormed}
use Rattle.delaunay_interface.specs.{AreNotJoined, IsEdgeBetween}

-- after an insertion that gave the vertex i, whether it was put in or took the place of another,
-- each location of its position is on i
abbrev pub LocationFindsInsertion : (V D U F : Type 0) → Type 0
LocationFindsInsertion V D U F = (position : V → Point) (constraints : List U → List ℕ)
    (old : Plain V) (new : State V D U F) (v : V) (i : ℕ) (answer : PositionInTriangulation)
    → IsWellFormed position constraints new
    → Inserts position old (points_and_constraints_by constraints new) v i
    → FindsLocation position new (position v) answer → answer ≡ OnVertex i

-- a vertex that is put into a triangulation and taken out again leaves vertices and constraints as
-- they were
abbrev pub RemovalUndoesInsertion : (V D U F : Type 0) → Type 0
RemovalUndoesInsertion V D U F = (position : V → Point) (constraints : List U → List ℕ)
    (old : State V D U F) (mid new : Plain V) (v : V) → IsWellFormed position constraints old
    → Appends position (points_and_constraints_by constraints old) mid v
    → Removes position mid new (length old.vertices)
    → IsSameState position (points_and_constraints_by constraints old) new

-- whether a constraint joins two vertices, and whether an edge does, is answered alike in either
-- order of the two, and an edge from the second to the first is the other direction of that from
-- the first to the second
pub record QueriesAreSymmetric (V D U F : Type 0) : Type 0 where
  pub constraint : (s : State V D (CdtEdge U) F) (i j : ℕ)
      → Joins (constraints_of s) i j ↔ Joins (constraints_of s) j i
  pub none : (position : V → Point) (constraints : List U → List ℕ) (s : State V D U F) (i j : ℕ)
      → IsWellFormed position constraints s → AreNotJoined s i j ↔ AreNotJoined s j i
  pub edge : (position : V → Point) (constraints : List U → List ℕ) (s : State V D U F)
      (i j e f : ℕ) (c d : Contents V D U F) → IsWellFormed position constraints s
      → e < length s.directed → f < length s.directed → IsEdgeBetween s i j c e
      → IsEdgeBetween s j i d f → f ≡ rev e
