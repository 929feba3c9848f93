use Rattle.std.proofs.Common.{◌≡◌, ◌∙◌, length, refl, sym, arith}
use Rattle.delaunay_legalization.proofs.MeshRemovals.{line_plain_removes}
use Rattle.delaunay_vertices.proofs.DataDrops.{line_data_kept, line_renumbers, plane_data_kept}
use Rattle.delaunay_vertices.proofs.DataDrops.{plane_renumbers}
use Rattle.delaunay_vertices.proofs.Drops.{dropped_kept, dropped_plain, dropped_value, in_the_plane}
use Rattle.delaunay_vertices.proofs.LeftFaces.{line_faces_leave, plane_faces_leave}
use Rattle.delaunay_vertices.proofs.Removing.{few_edges_of, line_kept, value_was}
use Rattle.delaunay_vertices.proofs.removal.take_vertex.Goals as goal

pub remove_when_degenerate-requires-clause-few : goal.remove_when_degenerate-requires-clause-few
remove_when_degenerate-requires-clause-few g c =
    few_edges_of c.args.dcel.now c.requires.embedding.kept
    (sym c.num_inner_faces.ensures.value ∙ c.if-num_inner_faces-eq0.true) c.args.vertex

pub isolate-requires-clause-shape : goal.isolate-requires-clause-shape
isolate-requires-clause-shape g c =
    let faces = c.num_inner_faces.ensures.value in
    let some = c.if-num_inner_faces-eq0.false in
    in_the_plane _ c.args.dcel.now c.requires.embedding.kept (omega (arith, faces, some))

pub returns-then-num_inner_faces-eq0 : goal.returns-then-num_inner_faces-eq0
returns-then-num_inner_faces-eq0 g c =
    let kept = c.requires.embedding.kept in
    let none : length c.args.dcel.now.faces ≡ 0 =
    sym c.num_inner_faces.ensures.value ∙ c.if-num_inner_faces-eq0.true in
    let whole = c.remove_when_degenerate.ensures.whole in
    let leaves = c.remove_when_degenerate.ensures.leaves in
    record {
      takes = record {
        value = value_was kept none whole leaves;
        plain = line_plain_removes _ _ _ _ _ leaves;
        kept = line_kept kept none whole leaves;
        beside = line_data_kept kept none whole leaves;
        faces = line_faces_leave none whole leaves;
      };
      edges = line_renumbers kept none whole leaves;
      capacity = refl;
    }

pub returns : goal.returns
returns g c =
    let kept = c.requires.embedding.kept in
    let isolates = c.isolate.ensures.isolates in
    let drops = c.swap_remove_vertex.ensures.drops in
    let left = dropped_kept kept isolates drops c.swap_remove_vertex.ensures.whole in
    record {
      takes = record {
        value = dropped_value isolates drops;
        plain = dropped_plain isolates drops _;
        kept = left;
        beside = plane_data_kept kept left isolates drops;
        faces = plane_faces_leave kept left c.requires.within isolates drops;
      };
      edges = plane_renumbers kept left isolates drops;
      capacity = c.isolate.ensures.capacity;
    }
