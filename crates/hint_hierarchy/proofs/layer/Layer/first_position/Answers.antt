use Rattle.std.proofs.Common.{inl}
use Rattle.{delaunay_core.specs.place_of, delaunay_interface.proofs.Held.was_listed}
use Rattle.hint_hierarchy.proofs.layer.Layer.first_position.Goals as goal

pub returns-in-Some : goal.returns-in-Some
returns-in-Some g c =
    let vertex = c.in-Some.vertex in
    inl (rw (← c.self.view_is, ← c.in-Some.ensures.0) (was_listed (place_of g.S.SpadeNum.whole)
    vertex.dcel.now.vertices vertex.index c.data.result.now c.data.ensures))
