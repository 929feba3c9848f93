use Rattle.std.proofs.Common.{ℕ, ◌/◌, ◌∙◌, ap}
use Rattle.delaunay_extensions.proofs.Searching.{counted, not_counted}
use Rattle.drawing_faces.proofs.Listing.{free_none, free_one}
use Rattle.drawing_faces.proofs.flood.Flood.list.Goals as goal

pub returns-then-is_constraint_edge-clause-lists : goal.returns-then-is_constraint_edge-clause-lists
returns-then-is_constraint_edge-clause-lists g c =
    let constraints = g.M.ConstraintMarker.constraints c.args.dcel.now.undirected in
    let half = c.fix-whole.ensures.value ∙ c.as_undirected.ensures.index
    ∙ ap (λ (x : ℕ). x / 2) c.directed_edge.ensures.index in
    free_none constraints c.args.self.now.due.items c.args.edge
    (counted constraints c.args.edge c.fix-whole.result half
    (c.is_constraint_edge.ensures.0 c.if-is_constraint_edge.true))

pub returns-clause-lists : goal.returns-clause-lists
returns-clause-lists g c =
    let constraints = g.M.ConstraintMarker.constraints c.args.dcel.now.undirected in
    let half = c.fix-whole.ensures.value ∙ c.as_undirected.ensures.index
    ∙ ap (λ (x : ℕ). x / 2) c.directed_edge.ensures.index in
    free_one constraints c.args.self.now.due.items c.push.new.self.items c.args.edge
    (not_counted constraints c.args.edge c.fix-whole.result half
    (λ p. let on = c.is_constraint_edge.ensures.1 p in
    let off = c.if-is_constraint_edge.false in absurd (cc))) c.in_ok-push.ensures.items
