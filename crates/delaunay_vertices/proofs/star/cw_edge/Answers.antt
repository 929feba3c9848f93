use Rattle.std.proofs.Common.{ℕ, ◌<◌, ◌∙◌, length, ap, subst}
use Rattle.half_edge_links.specs.{origin, rev}
use Rattle.half_edge_links.proofs.{rev-rev, rev_within}
use Rattle.delaunay_vertices.proofs.star.cw_edge.Goals as goal

pub returns-clause-starts : goal.returns-clause-starts
returns-clause-starts g c =
    let is = c.directed_edge.ensures in
    let w = rw is.dcel at c.cw.ensures.whole in
    let m = c.args.dcel.now.mesh in
    let there = subst (λ (n : ℕ). c.args.edge < n) w.fits.directed_fit c.requires in
    ap (origin m) (c.fix.ensures.value ∙ rw (is.dcel, is.index) at c.cw.ensures.index)
    ∙ (w.valid.sound.edges (rev c.args.edge)
    (rev_within c.args.edge (length m.half_edges) w.valid.sound.even there)).starts
    ∙ ap (origin m) (rev-rev c.args.edge)
