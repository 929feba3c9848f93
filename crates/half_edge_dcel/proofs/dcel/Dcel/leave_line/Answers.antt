use Rattle.std.proofs.Common.{sym, rules}
use Rattle.half_edge_dcel.proofs.LineSteps.{end_hangs, end_left, end_removable, is_middle}
use Rattle.half_edge_dcel.proofs.dcel.Dcel.leave_line.Goals as goal

pub next_spoke-other-requires : goal.next_spoke-other-requires
next_spoke-other-requires g c =
    let at = rw c.links.ensures.mesh at (sym c.in-Some.ensures.value) in
    (c.links.ensures.whole.valid.sound.vertices c.args.vertex c.in-Some.out at).0

pub remove_edge-requires : goal.remove_edge-requires
remove_edge-requires g c =
    let at = rw c.links.ensures.mesh at (sym c.in-Some.ensures.value) in
    end_removable c.links.ensures.whole c.requires.one_face c.requires.few at (search rules)

pub join_neighbours-requires : goal.join_neighbours-requires
join_neighbours-requires g c =
    let at = rw c.links.ensures.mesh at (sym c.in-Some.ensures.value) in
    is_middle c.links.ensures.whole c.requires.one_face c.requires.few at (search rules)

pub returns-then-other-out : goal.returns-then-other-out
returns-then-other-out g c =
    let whole = c.links.ensures.whole in
    let few = c.requires.few in
    let at = rw c.links.ensures.mesh at (sym c.in-Some.ensures.value) in
    let removes = c.remove_edge.ensures in
    record {
      leaves = end_left whole c.requires.one_face few at (search rules) removes;
      outline = removes.outline (end_hangs whole c.requires.one_face few at (search rules));
      whole = removes.whole;
    }

pub returns-else-other-out-clause-leaves : goal.returns-else-other-out-clause-leaves
returns-else-other-out-clause-leaves g c =
    let at = rw c.links.ensures.mesh at (sym c.in-Some.ensures.value) in
    rw (c.links.ensures.whole.valid.sound.vertices c.args.vertex c.in-Some.out at).1 at
    c.join_neighbours.ensures.leaves
