use Rattle.std.proofs.Common.{ℕ, [], ◌∷◌, ◌++◌, ◌∙◌, ap}
use Rattle.delaunay_shapes.proofs.{Asking.asked_inside, Asking.asked_outside, Handles.marked_by}
use Rattle.delaunay_shapes.proofs.shape_search.ShapeSearch.ask_new.Goals as goal

pub returns-in_ok-push : goal.returns-in_ok-push
returns-in_ok-push g c =
    asked_inside _ _ _ _ _ _ c.args.edge c.requires.flooding c.requires.within c.requires.new
    (rw c.as_undirected-whole.ensures at (c.has_edge.ensures.0 c.if-has_edge.true))
    (marked_by _ _ _ _ (c.index.ensures.value ∙ c.as_undirected-whole.ensures) c.in_ok-mark.ensures)
    (c.in_ok-push.ensures.items
    ∙ ap (λ (x : ℕ). c.args.flood.now.found.items ++ x ∷ []) c.rev.ensures)

pub returns-else-has_edge : goal.returns-else-has_edge
returns-else-has_edge g c =
    asked_outside _ _ _ _ _ c.args.edge c.requires.flooding c.requires.within
    (λ p. let on = (rw c.as_undirected-whole.ensures at c.has_edge.ensures).1 p in
    let off = c.if-has_edge.false in absurd (cc))
    (marked_by _ _ _ _ (c.index.ensures.value ∙ c.as_undirected-whole.ensures) c.in_ok-mark.ensures)
