use Rattle.std.proofs.Common.{◌∙◌, rules, arith}
use Rattle.std.proofs.lemmas.Grind.{common_steps}
use Rattle.half_edge_dcel.proofs.EdgeLists.{length-ends, move_edge_data, splits_edge}
use Rattle.half_edge_dcel.proofs.Fits.{fits_beside, fits_flipped, fits_moved, fits_vertex}
use Rattle.half_edge_dcel.proofs.{Fits.one_longer, Outlines.outer_changes}
use Rattle.half_edge_dcel.proofs.dcel.Dcel.split_half_edge.Goals as goal

pub invariant_of-self : goal.invariant_of-self
invariant_of-self g c =
    let vertex = c.push_vertex-v.ensures in
    let links = c.split_half_edge.ensures in
    rw (links.mesh, vertex.mesh) (fits_moved c.move_item.ensures.moves
    c.move_item-2.ensures.moves c.move_item-3.ensures.moves c.push_defaults.ensures.grows
    (one_longer _ _ vertex.values links.rest.values)
    (fits_flipped _ (fits_beside _ _ _ (fits_vertex c.self.invariant))))

pub returns : goal.returns
returns g c =
    let fit = c.self.invariant in
    let vertex = c.push_vertex-v.ensures in
    let links = rw (vertex.mesh, c.index-h.ensures, ← c.from_index.ensures) at
    c.split_half_edge.ensures in
    let directed = move_edge_data fit (rw (← c.self.view_is) at c.requires.half.within)
    (rw c.index-h.ensures at c.move_item.ensures.moves)
    (rw (c.index.ensures, c.rev.ensures) at c.move_item-2.ensures.moves) in
    let undirected = rw c.index-h.ensures at c.move_item-3.ensures.moves in
    let faces = c.push_defaults.ensures in
    rw (← c.self.view_is) (record {
      vertex = rw fit.vertices_fit (c.from_index.ensures ∙ vertex.vertex);
      parts = search rules;
      links = record {
        mesh = links.mesh;
        triangles = links.splits.corners;
        outer = outer_changes _ _ _ _ (rw (← fit.directed_fit) at links.splits.outer);
        outline = λ one. c.split_half_edge.ensures.splits.outline (vertex.outline one);
      };
      «data» = record {
        whole = record { valid = links.splits.valid; fits = invariant_of-self g c };
        contents = search rules;
        directed = directed;
        undirected = undirected;
        faces = faces.grows;
      };
      edges = splits_edge _ (length-ends fit) links.splits.ends undirected;
    })

pub split_half_edge-requires-clause-alone : goal.split_half_edge-requires-clause-alone
split_half_edge-requires-clause-alone g c = grind (arith, common_steps)

pub move_item-requires-clause-within : goal.move_item-requires-clause-within
move_item-requires-clause-within g c = grind arith
