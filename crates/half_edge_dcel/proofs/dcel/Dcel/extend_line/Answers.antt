use Rattle.std.proofs.Common.{◌≡◌, [], length, ◌∙◌, arith, rules}
use Rattle.std.proofs.lemmas.Grind.{common_steps}
use Rattle.half_edge_links.specs.{Mesh}
use Rattle.half_edge_dcel.proofs.EdgeLists.{adds_edges, length-ends}
use Rattle.half_edge_dcel.proofs.Fits.{fits_grown_edge, fits_hung, fits_vertex, one_longer}
use Rattle.half_edge_dcel.proofs.Outlines.{edge_into_kept, empty_list, no_faces_hung, outer_changes}
use Rattle.half_edge_dcel.proofs.dcel.Dcel.extend_line.Goals as goal

pub invariant_of-self : goal.invariant_of-self
invariant_of-self g c =
    let vertex = c.push_vertex-v.ensures in
    let links = c.extend_line.ensures in
    rw (links.mesh, vertex.mesh) (fits_grown_edge c.push_defaults.ensures.grows
    c.push_defaults-2.ensures.grows (one_longer _ _ vertex.values links.rest.values)
    (fits_hung _ _ (fits_vertex c.self.invariant)))

pub returns : goal.returns
returns g c =
    let m : Mesh = c.self.inside.links.mesh in
    let fit = c.self.invariant in
    let one_face : length c.self.inside.faces.items ≡ 0 =
    rw (← c.self.view_is) at c.requires.one_face in
    let none : m.face_edges ≡ [] =
    empty_list m.face_edges (omega (arith, one_face, fit.faces_fit)) in
    let vertex = c.push_vertex-v.ensures in
    let links = rw (vertex.mesh, c.index.ensures, ← c.from_index.ensures) at
    c.extend_line.ensures in
    let directed = c.push_defaults.ensures in
    let undirected = c.push_defaults-2.ensures in
    rw (← c.self.view_is) (record {
      vertex = rw fit.vertices_fit (c.from_index.ensures ∙ vertex.vertex);
      links = record {
        mesh = rw edge_into_kept at links.mesh;
        triangles = rw links.mesh (no_faces_hung m _ _ none);
        outer = outer_changes m _ _ _ (rw (← fit.directed_fit) at links.extends.outer);
        outline = λ one. c.extend_line.ensures.extends.outline (vertex.outline one);
      };
      «data» = record {
        whole = record { valid = links.valid; fits = invariant_of-self g c };
        contents = search rules;
        directed = directed.grows;
        undirected = undirected.grows;
      };
      edges = adds_edges _ (length-ends fit) links.extends.ends undirected.grows;
    })

pub extend_line-requires-clause-line : goal.extend_line-requires-clause-line
extend_line-requires-clause-line g c = grind (arith, common_steps)

pub extend_line-requires-clause-alone : goal.extend_line-requires-clause-alone
extend_line-requires-clause-alone g c = grind (arith, common_steps)
