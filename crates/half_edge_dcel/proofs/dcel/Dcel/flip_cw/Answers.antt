use Rattle.std.proofs.Common.{◌≡◌, ◌*◌, ◌/◌, refl, arith, rules}
use Rattle.half_edge_dcel.proofs.EdgeLists.{along-even, edges_of-set}
use Rattle.half_edge_dcel.proofs.dcel.Dcel.flip_cw.Goals as goal

pub flip-requires : goal.flip-requires
flip-requires g c =
    rw (c.index.ensures, c.as_directed.ensures) (rw (← c.self.view_is) at c.requires)

pub returns : goal.returns
returns g c =
    let half : (2 * c.args.edge) / 2 ≡ c.args.edge = omega arith in
    let flip = rw (c.index.ensures, c.as_directed.ensures) at c.flip.ensures in
    let ends_are = rw (half, along-even) at flip.flips.ends in
    rw (← c.self.view_is) (record {
      mesh = flip.mesh;
      contents = rw (flip.rest.room, flip.rest.values) refl;
      edges = rw ends_are (edges_of-set _ _ _ _);
      triangles = flip.flips.corners;
      outer = flip.flips.outer;
      whole = (flip.flips.outline, record { valid = flip.valid; fits = search rules });
    })
