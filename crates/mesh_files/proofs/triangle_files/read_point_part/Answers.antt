use Rattle.std.proofs.Common.{◌∙◌}
use Rattle.mesh_files.proofs.TriangleRows.{points_more}
use Rattle.mesh_files.proofs.triangle_files.read_point_part.Goals as goal

pub loop-index-preserved : goal.loop-index-preserved
loop-index-preserved c =
    let before = c.loop-index.invariant in
    let more = points_more before.0 c.read_point_head.new.source c.loop-index.source
    c.point_number.new.source c.take_point.new.source _ c.loop-index.drawing
    c.take_point.new.drawing before.1 before.2 c.in_ok-point_number.ensures
    c.in_ok-take_point.ensures.rest c.in_ok-take_point.ensures.drawn in
    (more.0, more.1, more.2, c.in_ok-take_point.ensures.holes ∙ before.3)
