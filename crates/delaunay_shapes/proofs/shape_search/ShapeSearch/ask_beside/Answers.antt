use Rattle.delaunay_shapes.proofs.{Asking.asked_both, Handles.after_is, Handles.before_is}
use Rattle.delaunay_shapes.proofs.FirstEdges.{on_ok}
use Rattle.delaunay_shapes.proofs.shape_search.ShapeSearch.ask_beside.Goals as goal

pub returns : goal.returns
returns g c =
    let edge = c.directed_edge-edge.ensures in
    on_ok c.ask-2.result (asked_both
    (rw (← c.self.view_is, ← c.self-inside.view_is) (after_is g.V.HasPosition.place edge.dcel
    edge.index c.next.ensures.index c.fix-after.ensures.value))
    (rw (← c.self.view_is, ← c.self-inside.view_is) (before_is g.V.HasPosition.place edge.dcel
    edge.index c.prev.ensures.index c.fix-before.ensures.value))
    c.in_ok-ask.ensures) c.ask-2.ensures
