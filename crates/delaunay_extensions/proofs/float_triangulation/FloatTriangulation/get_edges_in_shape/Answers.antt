use Rattle.delaunay_extensions.proofs.Calls.{edges_found, kept_in_mesh, sites_in_mesh}
use Rattle.delaunay_extensions.proofs.float_triangulation.FloatTriangulation.get_edges_in_shape.Goals as goal

pub edges_in_shape-requires-clause-kept : goal.edges_in_shape-requires-clause-kept
edges_in_shape-requires-clause-kept g c =
    kept_in_mesh _ _ c.s.result c.s.ensures.state c.s.ensures.well_formed.kept

pub edges_in_shape-requires-clause-sites : goal.edges_in_shape-requires-clause-sites
edges_in_shape-requires-clause-sites g c =
    sites_in_mesh _ _ c.s.result c.s.ensures.state (g.P.PlaneTests.sites c.args.tests.now)
    c.s.ensures.well_formed.kept c.requires.sites

pub returns : goal.returns
returns g c = edges_found _ _ c.s.result c.s.ensures.state _ c.edges_in_shape.result
    c.edges_in_shape.ensures
