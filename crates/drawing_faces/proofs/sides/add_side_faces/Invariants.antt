use Rattle.std.proofs.Common.{length, map, take}
use Rattle.std.specs.List.{All}
use Rattle.drawing_faces.specs.{AddsBeside, ends_of, HasEnds}
use Rattle.drawing_faces.proofs.sides.add_side_faces.Given as goal

abbrev pub invariant-loop-side : goal.invariant-loop-side
invariant-loop-side g l = record {
  adds : AddsBeside (g.T.HasMesh.mesh_state l.triangulation)
      (map (ends_of l.vertices) (take l.side-index l.sides)) l.fn.faces.items l.faces.items;
  ends : All (HasEnds l.vertices (length (g.T.HasMesh.mesh_state l.triangulation).vertices))
      (take l.side-index l.sides);
}
