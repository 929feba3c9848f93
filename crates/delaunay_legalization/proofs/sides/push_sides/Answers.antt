use Rattle.std.proofs.Common.{◌∙◌}
use Rattle.delaunay_legalization.proofs.{AmongSides.round_gained_among, Legalizing.round_gained}
use Rattle.delaunay_legalization.proofs.sides.push_sides.Goals as goal

pub returns-in-Round-clause-gains : goal.returns-in-Round-clause-gains
returns-in-Round-clause-gains g c =
    let here = c.directed_edge-edge.ensures in
    let twin = c.rev-twin.ensures in
    let a = c.fix-next.ensures.value ∙ rw (here.dcel, here.index) at c.next.ensures.index in
    let b = c.fix-prev.ensures.value ∙ rw (here.dcel, here.index) at c.prev.ensures.index in
    let d = c.fix-twin_next.ensures.value
    ∙ rw (twin.dcel, twin.index, here.dcel, here.index) at c.next-2.ensures.index in
    let e = c.fix-twin_prev.ensures.value
    ∙ rw (twin.dcel, twin.index, here.dcel, here.index) at c.prev-2.ensures.index in
    rw c.in-Round.is (round_gained a b d e c.push_side.ensures.gains
    c.push_side-in-Round.ensures.gains c.push_side-in-Round-2.ensures.gains
    c.push_side-in-Round-3.ensures.gains)

pub returns-in-Among-clause-gains : goal.returns-in-Among-clause-gains
returns-in-Among-clause-gains g c =
    let here = c.directed_edge-edge.ensures in
    let twin = c.rev-twin.ensures in
    let a = c.fix-next.ensures.value ∙ rw (here.dcel, here.index) at c.next.ensures.index in
    let b = c.fix-prev.ensures.value ∙ rw (here.dcel, here.index) at c.prev.ensures.index in
    let d = c.fix-twin_next.ensures.value
    ∙ rw (twin.dcel, twin.index, here.dcel, here.index) at c.next-2.ensures.index in
    let e = c.fix-twin_prev.ensures.value
    ∙ rw (twin.dcel, twin.index, here.dcel, here.index) at c.prev-2.ensures.index in
    rw c.in-Among.is (round_gained_among a b d e c.push_among.ensures.gains
    c.push_among-in-Among.ensures.gains c.push_among-in-Among-2.ensures.gains
    c.push_among-in-Among-3.ensures.gains)
