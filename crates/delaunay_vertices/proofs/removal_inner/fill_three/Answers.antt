use Rattle.delaunay_vertices.proofs.InnerHoles.{border_read, hole_read}
use Rattle.delaunay_vertices.proofs.removal_inner.fill_three.Goals as goal

pub isolate_vertex_and_fill_hole-requires : goal.isolate_vertex_and_fill_hole-requires
isolate_vertex_and_fill_hole-requires g c = border_read c.requires.whole.valid.sound
    c.requires.wheel c.requires.starts c.ccw_edge-second.ensures.value
    c.ccw_edge-third.ensures.value c.opposite_side.ensures c.opposite_side-2.ensures
    c.opposite_side-3.ensures

pub returns-clause-hole : goal.returns-clause-hole
returns-clause-hole g c = hole_read c.requires.whole.valid.sound c.requires.wheel
    c.opposite_side.ensures c.isolate_vertex_and_fill_hole.ensures.hole
