-- A mesh, in the plane or on a line, with its own edges.
-- Lemmas: meshes_tile.
use Rattle.std.proofs.Common.{◌≡◌, ℕ, List, [], sym, subst}
use mathlib.Core.Logic.{inl, inr}
use Rattle.plane.specs.{Face, IsTiling, Point}
use Rattle.plane_theorems.specs.{AreEdgesOf, IsMesh, LineMesh}
use Rattle.plane_theorems.proofs.{Tiling.LineMeshes.joins_line, Tiling.Loops.mesh_tiles}

on_line : (points : List Point) (faces : List Face) (outer edges : List (ℕ × ℕ)) → faces ≡ []
    → LineMesh points outer → AreEdgesOf faces outer edges
    → IsTiling (record { points = points; faces = faces; edges = edges })
on_line points faces outer edges e m own =
    subst (λ f. IsTiling (record { points = points; faces = f; edges = edges })) (sym e)
    (inr (joins_line points outer edges m (subst (λ f. AreEdgesOf f outer edges) e own)))

-- with its own edges a mesh tiles the hull, or joins the points of the line to their neighbours
pub meshes_tile : (points : List Point) (faces : List Face) (outer edges : List (ℕ × ℕ))
    → IsMesh points faces outer → AreEdgesOf faces outer edges
    → IsTiling (record { points = points; faces = faces; edges = edges })
meshes_tile points faces outer edges (inl m) own = inl (mesh_tiles points faces outer edges m own)
meshes_tile points faces outer edges (inr m) own = on_line points faces outer edges m.0 m.1 own
