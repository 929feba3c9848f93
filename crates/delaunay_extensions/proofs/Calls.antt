-- What the calls of a triangulation hand to a search over its mesh, and make of what it gives.
-- Lemmas: lower_corner, upper_corner, same_corners, kept_in_mesh, sites_in_mesh, edges_found,
-- vertices_found.
use Rattle.std.proofs.Common.{◌≡◌, map, sym, subst, arith}
use Rattle.std.specs.Prelude.{All, Result, Ok, Err, IfOk}
use Rattle.std.specs.Borrow.{Bor}
use Rattle.std.proofs.lemmas.List.Elements.{All-map}
use Rattle.plane.specs.{Fraction, InRange, Point}
use Rattle.delaunay_legalization.specs.{IsTriangulated, State.State, state_of}
use Rattle.delaunay_shapes.specs.{corners, edges_left, vertices_left}
use Rattle.delaunay_shapes.specs.Left.{GivesEdgesIn, GivesVerticesIn}
use Rattle.delaunay_shapes.specs.declared.in_shape.EdgesInShapeIterator.{EdgesInShapeIterator}
use Rattle.delaunay_shapes.specs.declared.in_shape.VerticesInShapeIterator.{VerticesInShapeIterator}
use Rattle.{delaunay_edit.specs.AreSites, half_edge_dcel.specs.Contents}
use Rattle.delaunay_extensions.specs.Found.{FindsEdges, FindsVertices}

-- what holds of all corners of a rectangle holds of the lower one
pub lower_corner : (C : Point → Type 0) (lower upper : Point)
    → All C (corners lower upper) → C lower
lower_corner C lower upper all = all 0 lower (omega arith)

-- what holds of all corners of a rectangle holds of the upper one
pub upper_corner : (C : Point → Type 0) (lower upper : Point)
    → All C (corners lower upper) → C upper
upper_corner C lower upper all = all 2 upper (omega arith)

-- corners by other names of the same points
pub same_corners : {P : Type 0} (C : Point → Type 0) (at : P → Point) {l m u v : P} → l ≡ m → u ≡ v
    → All C (corners (at m) (at v)) → All C (corners (at l) (at u))
same_corners {P = P} C at {m = m} {u = u} e f all =
    subst (λ (x : P). All C (corners (at x) (at u))) (sym e)
    (subst (λ (y : P). All C (corners (at m) (at y))) (sym f) all)

module _ {V D U F : Type 0} (place : V → Point) (s : State V D U F) (mesh : Bor (Contents V D U F))
    (same : state_of mesh.now ≡ s) where
  -- the mesh that is handed over is triangulated as the state is
  pub kept_in_mesh : IsTriangulated place s → IsTriangulated place (state_of mesh.now)
  kept_in_mesh kept = subst (IsTriangulated place) (sym same) kept

  -- and its vertices are sites as those of the state are
  pub sites_in_mesh : (Sites : Point → Type 0) → IsTriangulated place s
      → AreSites place Sites s.vertices → All Sites (map place mesh.now.vertices)
  sites_in_mesh Sites kept sites =
      subst (λ x. All Sites (map place x.vertices)) (sym same)
      (sites (All-map InRange place s.vertices kept.in_range))

  module _ {E : Type 0} (Shape : Fraction → Type 0) where
    -- the edges that a search of the mesh gives are those of the triangulation in the shape
    pub edges_found : (r : Result (EdgesInShapeIterator V D U F) E) →
        IfOk r (λ it. GivesEdgesIn Shape place mesh (edges_left it)) →
        IfOk r (λ it. FindsEdges place s Shape (edges_left it))
    edges_found (Ok it) given = record { mesh = mesh; state = same; edges = given }
    edges_found (Err e) given = given

    -- and so are the vertices
    pub vertices_found : (r : Result (VerticesInShapeIterator V D U F) E) →
        IfOk r (λ it. GivesVerticesIn Shape place mesh (vertices_left it)) →
        IfOk r (λ it. FindsVertices place s Shape (vertices_left it))
    vertices_found (Ok it) given = record { mesh = mesh; state = same; vertices = given }
    vertices_found (Err e) given = given
