use Rattle.std.proofs.Common.{ℕ, ◌/◌, ◌∙◌, refl, ap}
use Rattle.delaunay_extensions.proofs.Searching.{counted, listed_later, listed_now, not_counted}
use Rattle.delaunay_extensions.proofs.search.LayerSearch.list.Goals as goal

pub returns-in_ok-push-clause-lists : goal.returns-in_ok-push-clause-lists
returns-in_ok-push-clause-lists g c =
    let constraints = g.M.ConstraintMarker.constraints c.args.dcel.now.undirected in
    let half = c.fix-whole.ensures.value ∙ c.as_undirected.ensures.index
    ∙ ap (λ (x : ℕ). x / 2) c.directed_edge.ensures.index in
    listed_later (counted constraints c.args.edge c.fix-whole.result half
    (c.is_constraint_edge.ensures.0 c.if-is_constraint_edge.true)) refl c.in_ok-push.ensures.items

pub returns-in_ok-push-2-clause-lists : goal.returns-in_ok-push-2-clause-lists
returns-in_ok-push-2-clause-lists g c =
    let constraints = g.M.ConstraintMarker.constraints c.args.dcel.now.undirected in
    let half = c.fix-whole.ensures.value ∙ c.as_undirected.ensures.index
    ∙ ap (λ (x : ℕ). x / 2) c.directed_edge.ensures.index in
    listed_now (not_counted constraints c.args.edge c.fix-whole.result half
    (λ p. let on = c.is_constraint_edge.ensures.1 p in let off = c.if-is_constraint_edge.false in
    absurd (cc))) c.in_ok-push-2.ensures.items refl
