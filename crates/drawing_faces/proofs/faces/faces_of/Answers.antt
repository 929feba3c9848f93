use Rattle.std.proofs.Common.{◌≡◌, ◌++◌, ◌∙◌, length, map, sym, ap, arith}
use Rattle.std.specs.List.{range_with_len}
use Rattle.std.proofs.lemmas.List.{length-map}
use Rattle.half_edge_links.specs.{triangle_at, triangles}
use Rattle.delaunay_legalization.specs.{corners_of}
use Rattle.delaunay_legalization.proofs.Rounds.{first_left, none_left}
use Rattle.{delaunay_interface.specs.inner_faces_left, drawing_faces.proofs.MeshFaces.same_indexes}
use Rattle.drawing_faces.specs.{face_of, indexes_at}
use Rattle.drawing_faces.proofs.MeshFaces.{as_faces, row_more, rows_by_index, rows_end}
use Rattle.drawing_faces.proofs.faces.faces_of.Goals as goal

pub loop-face-init : goal.loop-face-init
loop-face-init g c =
    let it = c.inner_faces-face-items.ensures in
    record {
      mesh = it.mesh;
      same = it.state;
      rest = range_with_len 1 (length (g.T.Triangulation.state c.args.triangulation.now).faces);
      left = sym it.elements
          ∙ ap inner_faces_left (sym c.into_iter-face-iterator.ensures.into_iter_gives);
      so_far = ap (λ ys. ys ++ map (indexes_at it.mesh.now.mesh)
          (range_with_len 1 (length (g.T.Triangulation.state c.args.triangulation.now).faces)))
          c.in_ok-faces.ensures.items;
    }

pub loop-face-preserved : goal.loop-face-preserved
loop-face-preserved g c =
    let i = c.loop-face.invariant in
    let face = c.in-Some.face in
    let step = first_left i.mesh i.rest (face.dcel, face.index) (inner_faces_left c.next.new.self)
    (i.left ∙ c.in-Some.ensures.steps.0) in
    let mesh_is = ap (λ p. p.0) step.3 in
    let index_is = ap (λ p. p.1) step.3 in
    let row =
    c.corner_indexes.ensures ∙ same_indexes i.mesh.now.mesh face.dcel.now.mesh step.0 face.index
    (ap (λ d. d.now.mesh) mesh_is) index_is in
    record {
      mesh = i.mesh;
      same = i.same;
      rest = step.1;
      left = step.4;
      so_far = ap (λ ys. ys ++ map (indexes_at i.mesh.now.mesh) step.1)
          c.in_ok-push.ensures.items
          ∙ row_more (indexes_at i.mesh.now.mesh) c.loop-face.faces.items c.corner_indexes.result
          i.rest step.1 step.0 _ step.2 row i.so_far;
    }

pub returns : goal.returns
returns g c =
    let i = c.loop-face.invariant in
    let s = g.T.Triangulation.state c.args.triangulation.now in
    let mesh_is = ap (λ s. s.mesh) i.same in
    let many : length (g.T.Triangulation.state c.args.triangulation.now).faces
    ≡ length (g.T.Triangulation.state c.args.triangulation.now).mesh.face_edges =
    omega (
      arith,
      c.num_inner_faces.ensures.values,
      c.num_inner_faces.ensures.value,
      length-map (triangles (g.T.Triangulation.state c.args.triangulation.now).mesh) corners_of,
      length-map (g.T.Triangulation.state c.args.triangulation.now).mesh.face_edges
          (triangle_at (g.T.Triangulation.state c.args.triangulation.now).mesh),
    ) in
    let done = rows_end (indexes_at i.mesh.now.mesh) c.loop-face.faces.items i.rest _
    (none_left i.mesh i.rest (i.left ∙ c.in-None.ensures.steps.0.0)) i.so_far in
    let all = done ∙ ap (λ m. map (indexes_at m)
    (range_with_len 1 (length (g.T.Triangulation.state c.args.triangulation.now).faces))) mesh_is
    ∙ rows_by_index (g.T.Triangulation.state c.args.triangulation.now).mesh
    (length (g.T.Triangulation.state c.args.triangulation.now).faces) many in
    ap (map face_of) all
    ∙ as_faces (triangles (g.T.Triangulation.state c.args.triangulation.now).mesh)
