use Rattle.half_edge_links.proofs.Stored.Removed.{shows_filled}
use Rattle.half_edge_links.proofs.Stored.Shown.{length_shown, next_shown, prev_shown}
use Rattle.half_edge_links.proofs.removal.fill.Goals as goal

pub returns-clause-items : goal.returns-clause-items
returns-clause-items c =
    let shows = simp (next_shown, prev_shown) at (shows_filled c.args.half_edges.now.items
    c.args.last c.args.hole c.requires.joined (rw length_shown c.requires.last) c.requires.hole) in
    cc
