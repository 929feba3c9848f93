use Rattle.half_edge_links.proofs.Stored.Shown.{length_shown, next_shown}
use Rattle.half_edge_links.proofs.Stored.Written.{shows_origin}
use Rattle.half_edge_links.proofs.removal.set_origin.Goals as goal

pub returns-clause-items : goal.returns-clause-items
returns-clause-items c =
    let shows = shows_origin c.args.half_edges.now.items c.args.h c.args.v c.requires.joined
    (rw length_shown c.requires.within) in
    cc (next_shown _ c.args.h)
