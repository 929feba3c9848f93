use Rattle.std.proofs.Common.{◌∙◌, arith, rules}
use Rattle.std.proofs.lemmas.Grind.{common_steps}
use Rattle.half_edge_dcel.proofs.EdgeLists.{adds_edges, length-ends}
use Rattle.half_edge_dcel.proofs.Fits.{fits_beside, fits_grown, fits_vertex, one_longer}
use Rattle.half_edge_dcel.proofs.Outlines.{outer_changes}
use Rattle.half_edge_dcel.proofs.dcel.Dcel.create_new_face_adjacent_to_edge.Goals as goal

pub add_face_beside-requires-clause-outer : goal.add_face_beside-requires-clause-outer
add_face_beside-requires-clause-outer g c =
    let within = rw (← c.self.view_is) at c.requires.within in
    rw (c.push_vertex-v.ensures.mesh, c.index.ensures) (
      omega (arith, within, c.self.invariant.directed_fit),
      rw (← c.self.view_is) at c.requires.outer,
    )

pub invariant_of-self : goal.invariant_of-self
invariant_of-self g c =
    let vertex = c.push_vertex-v.ensures in
    let links = c.add_face_beside.ensures in
    rw (links.mesh, vertex.mesh) (fits_grown c.push_defaults.ensures.grows
    c.push_defaults-2.ensures.grows c.push_defaults-3.ensures.grows
    (one_longer _ _ vertex.values links.rest.values)
    (fits_beside _ _ _ (fits_vertex c.self.invariant)))

pub returns : goal.returns
returns g c =
    let fit = c.self.invariant in
    let vertex = c.push_vertex-v.ensures in
    let links = rw (vertex.mesh, c.index.ensures, ← c.from_index.ensures) at
    c.add_face_beside.ensures in
    let directed = c.push_defaults.ensures in
    let undirected = c.push_defaults-2.ensures in
    let faces = c.push_defaults-3.ensures in
    rw (← c.self.view_is) (record {
      vertex = rw fit.vertices_fit (c.from_index.ensures ∙ vertex.vertex);
      links = record {
        mesh = links.mesh;
        triangles = links.adds.corners;
        outer = outer_changes _ _ _ _ (rw (← fit.directed_fit) at links.adds.outer);
        outline = λ one. c.add_face_beside.ensures.adds.outline (vertex.outline one);
      };
      «data» = record {
        whole = record { valid = links.valid; fits = invariant_of-self g c };
        contents = search rules;
        directed = directed.grows;
        undirected = undirected.grows;
        faces = faces.grows;
      };
      edges = adds_edges _ (length-ends fit) links.adds.ends undirected.grows;
    })

pub add_face_beside-requires-clause-alone : goal.add_face_beside-requires-clause-alone
add_face_beside-requires-clause-alone g c = grind (arith, common_steps)
