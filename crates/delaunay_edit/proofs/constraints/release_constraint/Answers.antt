use Rattle.{delaunay_legalization.proofs.fixed_within, plane_theorems.proofs.Contains-none}
use Rattle.delaunay_edit.proofs.Releasing.{released, released_kept, released_left, released_room}
use Rattle.delaunay_edit.proofs.constraints.release_constraint.Goals as goal

pub free_edge-requires : goal.free_edge-requires
free_edge-requires g c = fixed_within _ _ g.met.M.ConstraintMarker.constraints_are_marked _ _
    c.requires.constraint

pub put-requires : goal.put-requires
put-requires g c =
    let laws = g.met.M.ConstraintMarker in
    rw c.clear.ensures.room (released_room _ laws.constraints_are_marked c.requires.constraint
    c.requires.legal laws.unmarked_has_none c.free_edge.ensures c.requires.room)

pub legalize-requires-clause-kept : goal.legalize-requires-clause-kept
legalize-requires-clause-kept g c =
    let laws = g.met.M.ConstraintMarker in
    released_kept _ laws.constraints_are_marked c.requires.constraint c.requires.legal
    laws.unmarked_has_none c.free_edge.ensures

pub legalize-requires-clause-left : goal.legalize-requires-clause-left
legalize-requires-clause-left g c =
    let laws = g.met.M.ConstraintMarker in
    let alone = rw c.clear.ensures.items at c.put.ensures.last in
    rw (alone (Contains-none _)) (released_left _ laws.constraints_are_marked c.requires.constraint
    c.requires.legal laws.unmarked_has_none c.free_edge.ensures)

pub returns-clause-releases : goal.returns-clause-releases
returns-clause-releases g c =
    let laws = g.met.M.ConstraintMarker in
    let flips = c.legalize.ensures.legalizes in
    released _ laws.constraints_are_marked c.requires.constraint c.requires.legal
    laws.unmarked_has_none c.free_edge.ensures flips.contents flips.indexes flips.constraints
    flips.legal
