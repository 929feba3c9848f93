use Rattle.half_edge_links.proofs.Stored.Removed.{shows_unlinked}
use Rattle.half_edge_links.proofs.removal.unlink.Goals as goal

pub returns-clause-items : goal.returns-clause-items
returns-clause-items c =
    let shows = shows_unlinked c.args.half_edges.now.items c.args.e c.args.t c.requires.joined
    c.requires.places in
    cc
