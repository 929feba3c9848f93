use Rattle.delaunay_extensions.proofs.Calls.{kept_in_mesh, sites_in_mesh, vertices_found}
use Rattle.delaunay_extensions.proofs.float_triangulation.FloatTriangulation.get_vertices_in_shape.Goals as goal

pub vertices_in_shape-requires-clause-kept : goal.vertices_in_shape-requires-clause-kept
vertices_in_shape-requires-clause-kept g c =
    kept_in_mesh _ _ c.s.result c.s.ensures.state c.s.ensures.well_formed.kept

pub vertices_in_shape-requires-clause-sites : goal.vertices_in_shape-requires-clause-sites
vertices_in_shape-requires-clause-sites g c =
    sites_in_mesh _ _ c.s.result c.s.ensures.state (g.P.PlaneTests.sites c.args.tests.now)
    c.s.ensures.well_formed.kept c.requires.sites

pub returns : goal.returns
returns g c = vertices_found _ _ c.s.result c.s.ensures.state _ c.vertices_in_shape.result
    c.vertices_in_shape.ensures
