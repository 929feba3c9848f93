use Rattle.std.proofs.Common.{◌≡◌, ℕ, List, ◌++◌, length, map}
use Rattle.std.specs.Borrow.{Bor}
use Rattle.std.specs.List.{range_with_len}
use Rattle.half_edge_dcel.specs.{Contents, each_in}
use Rattle.{delaunay_interface.specs.inner_faces_left, delaunay_legalization.specs.state_of}
use Rattle.drawing_faces.specs.{indexes_at}
use Rattle.drawing_faces.proofs.faces.faces_of.Given as goal

abbrev pub invariant-loop-face : goal.invariant-loop-face
invariant-loop-face g l = record {
  mesh : Bor (Contents _ _ _ _);
  same : state_of mesh.now ≡ (g.T.Triangulation.state l.triangulation);
  rest : List ℕ;
  left : each_in mesh rest ≡ inner_faces_left l.face-iterator;
  so_far : l.faces.items ++ map (indexes_at mesh.now.mesh) rest ≡ map (indexes_at mesh.now.mesh)
      (range_with_len 1 (length (g.T.Triangulation.state l.triangulation).faces));
}
