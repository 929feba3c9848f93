-- A triangulation that C holds, as a contract sees it.
-- kept_place p: the position of a vertex
-- kept_vertices, kept_state: the vertices by index; the plain state, with the constraints
-- kept_drawing: the positions of the vertices, with the faces and the edges
-- kept_links: how the edges are linked
-- IsKeptDelaunay k: it is the (constrained) Delaunay triangulation of its points
-- InsertsKept v result old new: inserting v gave this result, and the type stayed
-- IsOfKind c k: the triangulation is constrained, or plain, as c says
-- CountsKept k c: the counts are those of the vertices, edges, faces and constraints
-- unnumbered_at x y: a vertex as it is inserted, with the number 0
use Rattle.std.specs.Prelude.{◌≡◌, ℕ, ℤ, Bool, true, false, List, length, Result}
use Rattle.plane.specs.{Plain as PlainState, Point, Triangulation}
use Rattle.delaunay_core.specs.{InsertionError, place_of}
use Rattle.delaunay_legalization.specs.{points_and_constraints, triangulation_of}
use Rattle.delaunay_edit.specs.{constrained, constraint_edges, InsertsVertex, IsDelaunay, none}
use Rattle.c_calls.specs.declared.kept.AnyTriangulation.{AnyTriangulation}
use Rattle.c_calls.specs.declared.kept.AnyTriangulation.TheVariants.{Constrained, Plain}
use Rattle.{c_calls.specs.declared.raw.NumberedPoint.NumberedPoint, half_edge_links.specs.Mesh}
use Rattle.c_calls.specs.declared.raw.RawCounts.{RawCounts}

-- the position of a vertex
abbrev pub kept_place : NumberedPoint → Point
kept_place p = place_of (λ z. z) p.position

-- the vertices, by index
abbrev pub kept_vertices : AnyTriangulation → List NumberedPoint
kept_vertices (Plain t) = t.vertices
kept_vertices (Constrained t) = t.vertices

-- how the edges are linked
abbrev pub kept_links : AnyTriangulation → Mesh
kept_links (Plain t) = t.mesh
kept_links (Constrained t) = t.mesh

-- the positions of the vertices, with the faces and the edges
abbrev pub kept_drawing : AnyTriangulation → Triangulation
kept_drawing (Plain t) = triangulation_of kept_place t
kept_drawing (Constrained t) = triangulation_of kept_place t

-- the vertices and the pairs of them that constraints join
abbrev pub kept_state : AnyTriangulation → PlainState NumberedPoint
kept_state (Plain t) = points_and_constraints t
kept_state (Constrained t) = constrained t

-- the headline: it is the constrained Delaunay triangulation of its points
abbrev pub IsKeptDelaunay : AnyTriangulation → Type 0
IsKeptDelaunay (Plain t) = IsDelaunay kept_place none t
IsKeptDelaunay (Constrained t) = IsDelaunay kept_place constraint_edges t

-- an insertion of a value gave this result, and the type stayed
abbrev pub InsertsKept : NumberedPoint → Result ℕ InsertionError → AnyTriangulation →
    AnyTriangulation → Type 0
InsertsKept v result (Plain a) (Plain b) = InsertsVertex kept_place none v result a b
InsertsKept v result (Constrained a) (Constrained b) = InsertsVertex kept_place constraint_edges v
    result a b
InsertsKept v result (Plain a) (Constrained b) = ⊥
InsertsKept v result (Constrained a) (Plain b) = ⊥

-- the numbers of vertices, edges and faces, and of constraints
pub record CountsKept (k : AnyTriangulation) (c : RawCounts) : Type 0 where
  pub vertices : c.vertices ≡ length (kept_vertices k)
  pub edges : c.edges ≡ length (kept_drawing k).edges
  pub faces : c.faces ≡ length (kept_drawing k).faces
  pub constraints : c.constraints ≡ length (kept_state k).constraints

-- a vertex as it is inserted, with the number 0
abbrev pub unnumbered_at : ℤ → ℤ → NumberedPoint
unnumbered_at x y = record { position = record { x = x; y = y }; number = 0 }

-- a triangulation is constrained, or it is plain
abbrev pub IsOfKind : Bool → AnyTriangulation → Type 0
IsOfKind c (Plain t) = c ≡ false
IsOfKind c (Constrained t) = c ≡ true
