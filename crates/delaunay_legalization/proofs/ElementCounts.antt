-- The data of a mesh are as many as its edges and faces.
-- Lemmas: edges_counted, faces_counted.
use Rattle.std.proofs.Common.{◌≡◌, ◌∙◌, length, sym, arith}
use Rattle.std.proofs.lemmas.List.{length-map}
use Rattle.half_edge_links.specs.{ends, triangle_at, triangles}
use Rattle.half_edge_links.proofs.{length-ends_twice}
use Rattle.half_edge_dcel.specs.{Contents, IsMeshWithData}
use Rattle.delaunay_legalization.specs.{corners_of, edges_of, faces_of, pair_of}

module _ {V D U F : Type 0} (c : Contents V D U F) (w : IsMeshWithData c) where
  -- there are as many data of undirected edges as edges of the mesh
  pub edges_counted : length c.undirected ≡ length (edges_of c.mesh)
  edges_counted =
      let pairs = w.fits.undirected_fit in
      let twice = length-ends_twice c.mesh w.valid.sound in
      omega (arith, pairs, twice, length-map (ends c.mesh) pair_of)

  -- there are as many data of inner faces as faces of the mesh
  pub faces_counted : length c.faces ≡ length (faces_of c.mesh)
  faces_counted = w.fits.faces_fit ∙ sym (length-map c.mesh.face_edges (triangle_at c.mesh))
      ∙ sym (length-map (triangles c.mesh) corners_of)
