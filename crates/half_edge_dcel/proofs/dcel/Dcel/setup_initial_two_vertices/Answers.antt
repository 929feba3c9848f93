use Rattle.std.proofs.Common.{arith, refl, ap, rules, ◌≡◌, length}
use Rattle.std.proofs.lemmas.Grind.{common_steps}
use Rattle.half_edge_links.specs.{Mesh}
use Rattle.half_edge_dcel.proofs.{Fits.fits_connected, Fits.fits_grown_edge, Outlines.no_faces}
use Rattle.half_edge_dcel.proofs.dcel.Dcel.setup_initial_two_vertices.Goals as goal

pub invariant_of-self : goal.invariant_of-self
invariant_of-self g c =
    let links = c.connect.ensures in
    rw links.mesh (fits_grown_edge c.push_defaults.ensures.grows c.push_defaults-2.ensures.grows
    (ap length links.rest.values)
    (fits_connected _ _ (rw (← c.self.view_is) at c.requires.no_edges) c.self.invariant))

pub returns-clause-links : goal.returns-clause-links
returns-clause-links g c =
    let m : Mesh = c.self.inside.links.mesh in
    let no_edges : length c.self.inside.undirected.items ≡ 0 =
    rw (← c.self.view_is) at c.requires.no_edges in
    let none : length m.half_edges ≡ 0 = omega (arith, no_edges, c.self.invariant.undirected_fit) in
    let links = rw (c.index.ensures, c.index-2.ensures) at c.connect.ensures in
    rw (← c.self.view_is) (record {
      mesh = links.mesh;
      triangles = rw (links.mesh, no_faces m links.sound none) refl;
      outer = rw links.mesh (search rules);
      outline = links.outline;
    })

pub returns-clause-data : goal.returns-clause-data
returns-clause-data g c =
    let links = c.connect.ensures in
    let directed = c.push_defaults.ensures in
    let undirected = c.push_defaults-2.ensures in
    rw (← c.self.view_is) (record {
      whole = record { valid = links.valid; fits = invariant_of-self g c };
      contents = search rules;
      directed = directed.grows;
      undirected = undirected.grows;
    })

pub connect-requires-clause-vertices : goal.connect-requires-clause-vertices
connect-requires-clause-vertices g c = grind (arith, common_steps)

pub returns-clause-edges : goal.returns-clause-edges
returns-clause-edges g c = grind (arith, common_steps)
