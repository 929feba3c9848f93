use Rattle.std.proofs.Common.{sym, rules, ◌∙◌, arith}
use Rattle.std.proofs.lemmas.Grind.{common_steps}
use Rattle.std.proofs.lemmas.List.{length-set}
use Rattle.half_edge_dcel.proofs.EdgeLists.{adds_edges, edges_of-set, length-ends}
use Rattle.half_edge_dcel.proofs.Fits.{fits_grown_edge, fits_hung, fits_slid, fits_vertex}
use Rattle.half_edge_dcel.proofs.{Fits.one_longer, Outlines.outer_changes}
use Rattle.half_edge_dcel.proofs.dcel.Dcel.split_edge_when_all_vertices_on_line.Goals as goal

pub invariant_of-self : goal.invariant_of-self
invariant_of-self g c =
    let vertex = c.push_vertex-v.ensures in
    let links = c.split_line.ensures in
    rw (links.mesh, vertex.mesh) (fits_grown_edge c.push_defaults.ensures.grows
    c.push_defaults-2.ensures.grows (one_longer _ _ vertex.values links.rest.values)
    (fits_slid _ (fits_hung _ _ (fits_vertex c.self.invariant))))

pub returns : goal.returns
returns g c =
    let fit = c.self.invariant in
    let vertex = c.push_vertex-v.ensures in
    let links = rw (vertex.mesh, c.index.ensures, ← c.from_index.ensures) at
    c.split_line.ensures in
    let directed = c.push_defaults.ensures in
    let undirected = c.push_defaults-2.ensures in
    rw (← c.self.view_is) (record {
      vertex = rw fit.vertices_fit (c.from_index.ensures ∙ vertex.vertex);
      parts = search rules;
      links = record {
        mesh = links.mesh;
        triangles = search rules;
        outer = outer_changes _ _ _ _ (rw (← fit.directed_fit) at links.splits.outer);
        outline = λ one. c.split_line.ensures.splits.outline (vertex.outline one);
      };
      «data» = record {
        whole = record { valid = links.splits.valid; fits = invariant_of-self g c };
        contents = search rules;
        directed = directed.grows;
        undirected = undirected.grows;
      };
      edges = rw (← edges_of-set) (adds_edges _ (length-ends fit ∙ sym (length-set _ _ _))
          links.splits.ends undirected.grows);
    })

pub split_line-requires-clause-line : goal.split_line-requires-clause-line
split_line-requires-clause-line g c = grind (arith, common_steps)

pub split_line-requires-clause-alone : goal.split_line-requires-clause-alone
split_line-requires-clause-alone g c = grind (arith, common_steps)
