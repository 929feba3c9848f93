use Rattle.delaunay_interface.proofs.Locating.{element_in, finds_in}
use Rattle.delaunay_interface.proofs.triangulation.Triangulation.locate_with_hint.Goals as goal

pub vertex_near-vertex-requires : goal.vertex_near-vertex-requires
vertex_near-vertex-requires g c =
    element_in _ _ c.s-dcel.ensures.well_formed.kept _ _ c.s-dcel.result.now
    c.s-dcel.ensures.state c.locate_with_hint-answer.ensures

pub returns : goal.returns
returns g c =
    finds_in _ _ c.s-dcel.ensures.well_formed.kept _ _ c.s-dcel.result.now c.s-dcel.ensures.state
    c.locate_with_hint-answer.ensures
