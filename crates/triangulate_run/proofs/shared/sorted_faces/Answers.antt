use Rattle.std.specs.Prelude.{AllPairs}
use Rattle.std.proofs.Common.{List, ◌≢◌, ◌≡◌, ◌++◌, length, map, sym, ◌∙◌, ap, subst, arith}
use Rattle.std.specs.List.{range_with_len}
use Rattle.std.proofs.lemmas.List.{length-map}
use Rattle.half_edge_links.specs.{triangle_at, triangles}
use Rattle.{delaunay_legalization.specs.corners_of, triangulate_run.proofs.SortedFaces.sorted_rises}
use Rattle.delaunay_legalization.proofs.Rounds.{first_left, none_left}
use Rattle.delaunay_interface.specs.{inner_faces_left}
use Rattle.triangulate_run.specs.{declared.corners.Corners.Corners, position, row_at}
use Rattle.triangulate_run.proofs.{FaceList.lists_faces, FaceList.rows_differ, MeshFaces.twice}
use Rattle.triangulate_run.proofs.MeshFaces.{row_more, row_same_mesh, rows_by_index, rows_end}
use Rattle.triangulate_run.proofs.shared.sorted_faces.Goals as goal

pub loop-face-init : goal.loop-face-init
loop-face-init g c =
    let it = c.inner_faces-face-items.ensures in
    let rest =
    range_with_len 1 (length (g.T.Triangulation.state c.args.triangulation.now).faces) in
    record {
      mesh = it.mesh;
      same = it.state;
      rest = rest;
      left = sym it.elements
          ∙ ap inner_faces_left (sym c.into_iter-face-iterator.ensures.into_iter_gives);
      so_far = ap (λ ys. ys ++ map (row_at it.mesh.now.mesh) rest) c.in_ok-faces.ensures.items;
    }

pub loop-face-preserved : goal.loop-face-preserved
loop-face-preserved g c =
    let i = c.loop-face.invariant in
    let row_of = row_at i.mesh.now.mesh in
    let face = c.in-Some.face in
    let step = first_left i.mesh i.rest (face.dcel, face.index) _
    (i.left ∙ c.in-Some.ensures.steps.0) in
    let mesh_is = ap (λ p. p.0) step.3 in
    let row = c.corner_row.ensures ∙ row_same_mesh i.mesh.now.mesh face.dcel.now.mesh step.0
    face.index (ap (λ d. d.now.mesh) mesh_is) (ap (λ p. p.1) step.3) in
    record {
      mesh = i.mesh;
      same = i.same;
      rest = step.1;
      left = step.4;
      so_far = ap (λ ys. ys ++ map row_of step.1) c.in_ok-push.ensures.items
          ∙ row_more row_of c.loop-face.faces.items _ i.rest step.1 step.0 _ step.2 row i.so_far;
    }

pub returns : goal.returns
returns g c =
    let i = c.loop-face.invariant in
    let s = g.T.Triangulation.state c.args.triangulation.now in
    let ts = triangles s.mesh in
    let points = map position s.vertices in
    let many : length s.faces ≡ length s.mesh.face_edges =
    omega (
      arith,
      c.num_inner_faces.ensures.values,
      c.num_inner_faces.ensures.value,
      length-map ts corners_of,
      length-map s.mesh.face_edges (triangle_at s.mesh),
    ) in
    let done = rows_end (row_at i.mesh.now.mesh) c.loop-face.faces.items i.rest _
    (none_left i.mesh i.rest (i.left ∙ c.in-None.ensures.steps.0.0)) i.so_far in
    let all = done
    ∙ ap (λ m. map (row_at m) (range_with_len 1 (length s.faces))) (ap (λ s. s.mesh) i.same)
    ∙ rows_by_index s.mesh points (length s.faces) many ∙ sym (twice s.mesh points ts) in
    let tiles = c.recall_invariant.ensures.headline.tiling in
    let apart =
    subst (λ (ys : List Corners). AllPairs (λ c d. c ≢ d) ys) (sym all) (rows_differ _ tiles) in
    lists_faces _ tiles _ (rw all at c.sort.ensures.permutation)
    (sorted_rises _ _ c.sort.ensures.permutation c.in_ok-sort.ensures.sorted apart)
