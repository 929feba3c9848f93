use Rattle.std.proofs.Common.{arith}
use Rattle.delaunay_extensions.proofs.Reached.{search_ends}
use Rattle.delaunay_extensions.proofs.Searching.{next_fits, search_takes, taking_is_less}
use Rattle.delaunay_extensions.proofs.search.find_layers.Goals as goal

pub next-requires : goal.next-requires
next-requires g c = next_fits c.loop-edge.invariant

pub cross-requires : goal.cross-requires
cross-requires g c = search_takes c.loop-edge.search c.next.new.self c.next.ensures.layers
    c.in-Some.edge c.in-Some.ensures.takes c.loop-edge.invariant

pub loop-edge-smaller : goal.loop-edge-smaller
loop-edge-smaller g c =
    let less = taking_is_less c.loop-edge.search c.next.new.self c.next.ensures.layers
    c.in-Some.edge c.in-Some.ensures.takes in
    let work = c.in_ok-cross.ensures.work in omega (arith, less, work)

pub returns : goal.returns
returns g c = search_ends g.V.HasPosition.place c.loop-edge.search c.next.new.self c.requires
    c.next.ensures.layers c.in_default.ensures.takes c.loop-edge.invariant
