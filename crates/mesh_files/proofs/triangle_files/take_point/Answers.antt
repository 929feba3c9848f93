use Rattle.std.proofs.lemmas.Result.{on_ok_weaker}
use Rattle.mesh_files.proofs.TriangleRows.{row_drawn}
use Rattle.mesh_files.proofs.triangle_files.take_point.Goals as goal

pub returns-clause-drawn : goal.returns-clause-drawn
returns-clause-drawn c = on_ok_weaker c.add_spot.result
    (row_drawn c.args.source.now c.spot.new.self c.point_height.new.source c.in_ok-spot.spot
    c.args.has_height c.in_ok-height.height c.args.drawing.now c.spot.new.drawing c.point_height.new.drawing
    c.add_spot.new.self c.in_ok-spot.ensures.written c.in_ok-spot.ensures.same
    c.in_ok-height.ensures.written c.in_ok-height.ensures.same) c.add_spot.ensures
