use Rattle.std.proofs.Common.{◌≡◌, ap, rules}
use Rattle.delaunay_legalization.proofs.Pushing.{next_in_mesh, pushing_begins, pushing_ends}
use Rattle.{delaunay_legalization.proofs.Pushing.pushing_goes_on, half_edge_links.specs.next}
use Rattle.delaunay_legalization.proofs.star.push_star.Goals as goal

pub loop-edge-init : goal.loop-edge-init
loop-edge-init g c =
    let star = c.out_edges-edge-items.ensures in
    let here = c.vertex.ensures in
    pushing_begins {d = c.vertex.result.dcel} (ap (λ x. x.now) here.dcel)
    (rw here.dcel at star.whole).valid
    (rw c.into_iter-edge-iterator.ensures.into_iter_gives (rw here.index at star.round))
    c.clear.ensures.items c.clear.ensures.room

pub push_side-requires-clause-within : goal.push_side-requires-clause-within
push_side-requires-clause-within g c =
    next_in_mesh c.loop-edge.invariant c.in-Some.ensures.steps c.fix-edge.ensures.value
    (rw c.vertex.ensures.dcel at c.out_edges-edge-items.ensures.whole)

pub directed_edge-requires : goal.directed_edge-requires
directed_edge-requires g c =
    next_in_mesh c.loop-edge.invariant c.in-Some.ensures.steps c.fix-edge.ensures.value
    (rw c.vertex.ensures.dcel at c.out_edges-edge-items.ensures.whole)

pub push_side-requires-clause-room : goal.push_side-requires-clause-room
push_side-requires-clause-room g c = rw c.loop-edge.invariant.room_stays c.requires.room

pub loop-edge-preserved : goal.loop-edge-preserved
loop-edge-preserved g c =
    let did = c.push_side-in-loop-edge.ensures in
    let after : c.fix.result ≡ next c.args.dcel.now.mesh c.fix-edge.result = search rules in
    pushing_goes_on c.loop-edge.invariant c.in-Some.ensures.steps c.fix-edge.ensures.value
    c.push_side.ensures.gains after did.gains did.edges c.push_side.ensures.capacity did.capacity

pub returns-clause-star : goal.returns-clause-star
returns-clause-star g c = pushing_ends c.loop-edge.invariant c.in-None.ensures.steps.0
