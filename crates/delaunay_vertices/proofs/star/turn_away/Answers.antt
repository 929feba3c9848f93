use Rattle.half_edge_links.proofs.{between_faces}
use Rattle.delaunay_vertices.proofs.{DataTurns.turned_stands, Turns.may_turn}
use Rattle.delaunay_vertices.proofs.star.turn_away.Goals as goal

pub flip_cw-requires : goal.flip_cw-requires
flip_cw-requires g c =
    let may = may_turn c.requires.turns in
    rw (c.as_undirected.ensures, c.ccw_edge-after.ensures.value)
    (record { between = between_faces _ _ may.0; corners = may.1 })

pub returns : goal.returns
returns g c =
    let flips = c.flip_cw.ensures in
    let mesh = rw (c.as_undirected.ensures, c.ccw_edge-after.ensures.value) at flips.mesh in
    let made = rw (c.as_undirected.ensures, c.ccw_edge-after.ensures.value) at flips.triangles in
    record {
      mesh = mesh;
      contents = flips.contents;
      whole = flips.whole.1;
      triangles = made;
      outer = flips.outer;
      beside = turned_stands c.requires.turns mesh flips.contents made;
      items = rw c.ends_beside.ensures at c.push_reserved.ensures.items;
      len = c.push_reserved.ensures.len;
      capacity = c.push_reserved.ensures.capacity;
    }
