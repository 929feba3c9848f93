use Rattle.std.proofs.lemmas.Result.{on_ok_weaker}
use Rattle.mesh_files.proofs.TriangleRows.{parts_drawn}
use Rattle.mesh_files.proofs.triangle_files.read_parts.Goals as goal

pub returns : goal.returns
returns c = on_ok_weaker c.leave_out_regions.result
    (parts_drawn c.args.text.now c.new-source.result c.read_point_part.new.source
    c.read_segment_part.new.source c.read_point_part.new.drawing c.read_segment_part.new.drawing
    c.read_holes.new.drawing c.leave_out_regions.new.drawing c.new-source.ensures
    c.in_ok-first.ensures.drawn c.in_ok-read_segment_part.ensures.rows
    c.in_ok-read_segment_part.ensures.same c.in_ok-read_holes.ensures.drawn
    c.in_ok-read_holes.ensures.same) c.leave_out_regions.ensures
