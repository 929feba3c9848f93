use Rattle.std.proofs.Common.{ap, length, rules}
use Rattle.half_edge_dcel.proofs.EdgeLists.{adds_edges, length-ends}
use Rattle.half_edge_dcel.proofs.Fits.{fits_closed, fits_grown}
use Rattle.half_edge_dcel.proofs.dcel.Dcel.create_single_face_between_edge_and_next.Goals as goal

pub invariant_of-self : goal.invariant_of-self
invariant_of-self g c =
    let links = c.close.ensures in
    rw links.mesh (fits_grown c.push_defaults.ensures.grows c.push_defaults-2.ensures.grows
    c.push_defaults-3.ensures.grows (ap length links.rest.values) (fits_closed _ c.self.invariant))

pub returns : goal.returns
returns g c =
    let fit = c.self.invariant in
    let links = rw c.index.ensures at c.close.ensures in
    let directed = c.push_defaults.ensures in
    let undirected = c.push_defaults-2.ensures in
    let faces = c.push_defaults-3.ensures in
    rw (← c.self.view_is) (record {
      edge = rw (c.num_directed_edges-n.ensures.value, ← c.self.view_is) at c.from_index.ensures;
      links = record {
        mesh = links.mesh;
        triangles = links.closes.corners;
        outer = rw (← fit.directed_fit) at links.closes.outer;
        outline = links.closes.outline;
      };
      «data» = record {
        whole = record { valid = links.valid; fits = invariant_of-self g c };
        contents = search rules;
        directed = directed.grows;
        undirected = undirected.grows;
        faces = faces.grows;
      };
      edges = adds_edges _ (length-ends fit) links.closes.ends undirected.grows;
    })
