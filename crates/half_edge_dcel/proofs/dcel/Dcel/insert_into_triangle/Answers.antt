use Rattle.std.proofs.Common.{◌∙◌, rules, arith}
use Rattle.std.proofs.lemmas.Grind.{common_steps}
use Rattle.half_edge_dcel.proofs.{EdgeLists.adds_edges, EdgeLists.length-ends, Outlines.keeps_outer}
use Rattle.half_edge_dcel.proofs.Fits.{fits_grown, fits_inserted, fits_vertex, one_longer}
use Rattle.half_edge_dcel.proofs.dcel.Dcel.insert_into_triangle.Goals as goal

pub invariant_of-self : goal.invariant_of-self
invariant_of-self g c =
    let vertex = c.push_vertex-v.ensures in
    let links = c.insert_beside.ensures in
    rw (links.mesh, vertex.mesh) (fits_grown c.push_defaults.ensures.grows
    c.push_defaults-2.ensures.grows c.push_defaults-3.ensures.grows
    (one_longer _ _ vertex.values links.rest.values)
    (fits_inserted _ _ (fits_vertex c.self.invariant)))

pub returns : goal.returns
returns g c =
    let fit = c.self.invariant in
    let edge = rw c.index.ensures at c.face_edge-edge.ensures in
    let vertex = c.push_vertex-v.ensures in
    let links = rw (vertex.mesh, edge.value, ← c.from_index.ensures) at c.insert_beside.ensures in
    let directed = c.push_defaults.ensures in
    let undirected = c.push_defaults-2.ensures in
    let faces = c.push_defaults-3.ensures in
    let within = rw fit.faces_fit at (rw (← c.self.view_is) at c.requires.within) in
    rw (← c.self.view_is) (record {
      vertex = rw fit.vertices_fit (c.from_index.ensures ∙ vertex.vertex);
      links = record {
        mesh = links.mesh;
        triangles = links.inserts.corners;
        outer = keeps_outer _ _ links.inserts.outer;
        outline = λ one. c.insert_beside.ensures.inserts.outline (vertex.outline one);
      };
      «data» = record {
        whole = record { valid = links.inserts.valid; fits = invariant_of-self g c };
        contents = search rules;
        directed = directed.grows;
        undirected = undirected.grows;
        faces = faces.grows;
      };
      edges = adds_edges _ (length-ends fit) links.inserts.ends undirected.grows;
      face = (edge.sound.faces c.args.triangle c.requires.inner within).1;
    })

pub insert_beside-requires-clause-inner : goal.insert_beside-requires-clause-inner
insert_beside-requires-clause-inner g c = grind arith

pub insert_beside-requires-clause-alone : goal.insert_beside-requires-clause-alone
insert_beside-requires-clause-alone g c = grind (arith, common_steps)
