use Rattle.std.proofs.Common.{◌∙◌, ap}
use Rattle.half_edge_links.specs.{origin, rev}
use Rattle.half_edge_dcel.specs.{out_edges_left}
use Rattle.delaunay_edit.proofs.SeekingEnds.{seeking_begins, seeking_ends, seeking_finds}
use Rattle.delaunay_edit.proofs.SeekingEnds.{seeking_goes_on, sought_within}
use Rattle.delaunay_edit.proofs.halves.constraint_end_beside.Goals as goal

pub loop-edge-init : goal.loop-edge-init
loop-edge-init g c =
    seeking_begins _ _ _ g.met.M.ConstraintMarker.constraints_are_marked _ c.args.vertex _ _
    c.requires.kept c.vertex.result.dcel (out_edges_left c.into_iter-edge-iterator.result)
    (ap (λ x. x.now) c.vertex.ensures.dcel)
    (rw c.into_iter-edge-iterator.ensures.into_iter_gives
    (rw c.vertex.ensures.index at c.out_edges-edge-items.ensures.round))

pub end_beside-requires-clause-within : goal.end_beside-requires-clause-within
end_beside-requires-clause-within g c =
    sought_within c.loop-edge.invariant c.in-Some.ensures.steps c.fix.ensures.value

pub returns-in-Some-end_beside : goal.returns-in-Some-end_beside
returns-in-Some-end_beside g c =
    seeking_finds c.loop-edge.invariant c.in-Some.ensures.steps (c.in-Some-end_beside.ensures.end
    ∙ ap (λ h. origin c.args.dcel.now.mesh (rev h)) c.fix.ensures.value)
    (rw c.fix.ensures.value at c.in-Some-end_beside.ensures.leads)

pub loop-edge-preserved : goal.loop-edge-preserved
loop-edge-preserved g c = seeking_goes_on c.loop-edge.invariant c.in-Some.ensures.steps
    (rw c.fix.ensures.value at c.in_default.ensures.none)

pub returns : goal.returns
returns g c = seeking_ends c.loop-edge.invariant c.in-None.ensures.steps.0
