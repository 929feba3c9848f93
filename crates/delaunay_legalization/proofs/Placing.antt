-- A mesh over its points through a flip.
-- Lemma: kept_flipped.
use Rattle.std.proofs.Common.{◌≡◌, ℕ, ◌<◌, length, map, sym, subst, inl}
use Rattle.plane.specs.{Point}
use Rattle.{half_edge_links.specs.flipped, half_edge_links.specs.Mesh, plane_theorems.specs.IsMesh}
use Rattle.half_edge_dcel.specs.{Contents, FitsMesh, IsMeshWithData}
use Rattle.delaunay_legalization.specs.{faces_of, IsFailing, IsTriangulated, outer_of, state_of}
use Rattle.delaunay_legalization.proofs.MeshLegal.{flip_is_local, local_of}

-- where a failing edge is turned, the mesh is one of a triangulation still
pub kept_flipped : {V D U F : Type 0} {place : V → Point} {old new : Contents V D U F} {e : ℕ}
    → IsTriangulated place (state_of old) → e < length old.directed
    → IsFailing (map place old.vertices) old.mesh e → new.mesh ≡ flipped old.mesh e
    → new ≡ record old { mesh = new.mesh } → IsMeshWithData new
    → IsTriangulated place (state_of new)
kept_flipped {V = V} {D = D} {U = U} {F = F} {place = place} {old = old} {new = new} {e = e} kept
    within fails turned contents whole =
    subst (λ (c : Contents V D U F). IsTriangulated place (state_of c)) (sym contents) (record {
      in_range = kept.in_range;
      few_edges = kept.few_edges;
      few_faces = kept.few_faces;
      valid = whole.valid;
      fits = subst (λ (c : Contents V D U F). FitsMesh new.mesh (length c.vertices)
          (length c.directed) (length c.undirected) (length c.faces)) contents whole.fits;
      shape = subst (λ (m : Mesh). IsMesh (map place old.vertices) (faces_of m) (outer_of m))
          (sym turned) (inl (flip_is_local (map place old.vertices) old.mesh kept.valid
          (local_of (map place old.vertices) old.mesh e kept.valid.sound kept.shape
          (e_in, fails.inner)) e e_in fails));
    })
  where
    e_in : e < length old.mesh.half_edges
    e_in = subst (λ n. e < n) kept.fits.directed_fit within
