use Rattle.delaunay_interface.proofs.Outlines.{gives_outline}
use Rattle.delaunay_interface.proofs.triangulation.Triangulation.convex_hull.Goals as goal

pub returns : goal.returns
returns g c =
    gives_outline _ _ c.s.ensures.well_formed.kept c.s.ensures.well_formed.headline.tiling
    c.s.result c.s.ensures.state _ c.convex_hull.ensures
