use Rattle.half_edge_links.proofs.Stored.Shown.{next_shown, prev_shown}
use Rattle.half_edge_links.proofs.Stored.Written.{shows_loop_face}
use Rattle.half_edge_links.proofs.removal.set_loop_face.Goals as goal

pub returns-clause-items : goal.returns-clause-items
returns-clause-items c =
    let shows = simp (next_shown, prev_shown) at (shows_loop_face c.args.half_edges.now.items
    c.args.h c.args.face c.requires) in
    cc
