-- A vertex that has lost its edges goes, and the last one takes its index: what is left is a mesh
-- of the other points.
-- Lemmas: vertex_goes, vertex_goes_to_line, plain_removes, line_plain_removes.
use Rattle.std.proofs.Common.{◌≡◌, ℕ, List, [], map, sym, ap, subst}
use Rattle.plane.specs.{Point, TakesOut}
use Rattle.plane_theorems.specs.{LineMesh, LineMeshWithout, LocalMesh, LocalMeshWithout}
use Rattle.half_edge_dcel.specs.{Contents, DropsVertex, IsMeshWithData, LeavesMesh}
use Rattle.delaunay_legalization.specs.{faces_of, outer_of}
use Rattle.delaunay_legalization.proofs.MeshDrops.{dropped, dropped_faces, dropped_on_line}
use Rattle.delaunay_legalization.proofs.MeshDrops.{removes_vertex}

module _ {V D U F : Type 0} (position : V → Point) (old between new : Contents V D U F) (v : ℕ)
    (value : V) (same : between.vertices ≡ old.vertices)
    (drops : DropsVertex between new v value) where
  -- in the plane
  pub vertex_goes : IsMeshWithData between → IsMeshWithData new → LocalMeshWithout v
      (map position old.vertices) (faces_of between.mesh) (outer_of between.mesh)
      → LocalMesh (map position new.vertices) (faces_of new.mesh) (outer_of new.mesh)
  vertex_goes before after m = dropped position between new v value drops before after
      (subst (λ (vs : List V). LocalMeshWithout v (map position vs) (faces_of between.mesh)
      (outer_of between.mesh)) (sym same) m)

  -- all others are on one line
  pub vertex_goes_to_line : IsMeshWithData between → IsMeshWithData new → faces_of between.mesh ≡ []
      → LineMeshWithout v (map position old.vertices) (outer_of between.mesh)
      → (faces_of new.mesh ≡ []) × LineMesh (map position new.vertices) (outer_of new.mesh)
  vertex_goes_to_line before after none m = (
    dropped_faces position between new v value drops before after none,
    dropped_on_line position between new v value drops (subst (λ (vs : List V). LineMeshWithout v
        (map position vs) (outer_of between.mesh)) (sym same) m),
  )

  -- in the plain state
  pub plain_removes : TakesOut position (record { vertices = old.vertices; constraints = [] })
      (record { vertices = new.vertices; constraints = [] }) v
  plain_removes =
      subst (λ (vs : List V). TakesOut position (record { vertices = vs; constraints = [] })
      (record { vertices = new.vertices; constraints = [] }) v) same
      (removes_vertex position between new v value drops)

-- a vertex of a line, in the plain state
pub line_plain_removes : {V D U F : Type 0} (position : V → Point) (old new : Contents V D U F)
    (v : ℕ) (value : V) → LeavesMesh old new v value
    → TakesOut position (record { vertices = old.vertices; constraints = [] })
    (record { vertices = new.vertices; constraints = [] }) v
line_plain_removes {V} {D} {U} {F} position old new v value leaves =
    plain_removes position old leaves.between new v value
    (ap (λ (c : Contents V D U F). c.vertices) leaves.leaves.contents) leaves.drops
