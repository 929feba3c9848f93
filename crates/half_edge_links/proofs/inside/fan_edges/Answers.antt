use Rattle.std.proofs.Common.{◌≡◌, length, arith}
use Rattle.half_edge_links.specs.{shown}
use Rattle.half_edge_links.proofs.{Stored.Fanned.shows_fanned, Stored.Shown.length_shown}
use Rattle.half_edge_links.proofs.inside.fan_edges.Goals as goal

pub returns-clause-items : goal.returns-clause-items
returns-clause-items c =
    let n : c.len-n.result ≡ length (shown c.args.half_edges.now.items) =
    omega (arith, length_shown c.args.half_edges.now.items) in
    let shows = shows_fanned c.args.half_edges.now.items c.args.v c.args.edge c.len-n.result
    c.args.g c.requires.joined c.requires.triangle n in
    cc
