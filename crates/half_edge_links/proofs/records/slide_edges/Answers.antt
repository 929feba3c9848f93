use Rattle.half_edge_links.proofs.Stored.Relinked.{shows_slid}
use Rattle.half_edge_links.proofs.records.slide_edges.Goals as goal

pub returns-clause-items : goal.returns-clause-items
returns-clause-items c =
    let shows = shows_slid c.args.half_edges.now.items c.args.e c.args.t c.args.k c.args.l c.args.z
    c.requires.joined c.requires.places in
    cc
