use Rattle.std.proofs.lemmas.Result.{on_ok_weaker}
use Rattle.drawing_faces.proofs.Beside.{beside_one}
use Rattle.drawing_faces.proofs.sides.add_beside.Goals as goal

pub returns : goal.returns
returns g c = on_ok_weaker c.add_left.result
    (beside_one (g.T.HasMesh.mesh_state c.args.triangulation.now) (c.args.from, c.args.to)
    c.new_from_handles-way.result c.args.faces.now.items c.add_left.new.faces.items
    c.new_from_handles-way.ensures.line) c.add_left.ensures
