use Rattle.std.proofs.Common.{◌∙◌, sym, ap, get_or, false}
use Rattle.delaunay_shapes.proofs.{Asking.asked_before, Handles.not_asked}
use Rattle.delaunay_shapes.proofs.shape_search.ShapeSearch.ask.Goals as goal

pub ask_new-requires-clause-new : goal.ask_new-requires-clause-new
ask_new-requires-clause-new g c =
    not_asked _ _ _ _ (c.index.ensures.value ∙ c.as_undirected.ensures) c.if-is_marked.false
    c.is_marked.ensures

pub returns-then-is_marked : goal.returns-then-is_marked
returns-then-is_marked g c =
    asked_before _ _ _ _ c.args.edge c.requires.flooding
    (ap (λ k. get_or c.args.flood.now.asked k false)
    (sym (c.index.ensures.value ∙ c.as_undirected.ensures))
    ∙ sym c.is_marked.ensures ∙ c.if-is_marked.true)
