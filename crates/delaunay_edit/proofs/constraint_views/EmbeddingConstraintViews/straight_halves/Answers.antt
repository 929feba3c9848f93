use Rattle.std.proofs.Common.{subst}
use Rattle.std.specs.Prelude.{◌↔◌, IsTrue}
use Rattle.plane.specs.{Point, whole, WithinSegment}
use Rattle.delaunay_edit.proofs.FarEnds.{joined_apart, joined_in, points_apart}
use Rattle.delaunay_edit.proofs.JoinedHalves.{not_two_no_halves, two_told}
use Rattle.delaunay_edit.proofs.constraint_views.EmbeddingConstraintViews.straight_halves.Goals as goal

pub returns-in_err-first : goal.returns-in_err-first
returns-in_err-first g c =
    rw (c.from_residual.ensures, ← c.self.view_is)
    (not_two_no_halves _ _ _ c.in_err-first.ensures)

pub position_of-from-requires : goal.position_of-from-requires
position_of-from-requires g c = (joined_in _ _ _ g.met.M.ConstraintMarker.constraints_are_marked _
    c.self.invariant.kept c.in_ok-first.ensures.first).1

pub position_of-to-requires : goal.position_of-to-requires
position_of-to-requires g c = (joined_in _ _ _ g.met.M.ConstraintMarker.constraints_are_marked _
    c.self.invariant.kept c.in_ok-first.ensures.second).1

pub is_strictly_within-requires-clause-ends_apart :
    goal.is_strictly_within-requires-clause-ends_apart
is_strictly_within-requires-clause-ends_apart g c =
    let marked = g.met.M.ConstraintMarker.constraints_are_marked in
    let two = c.in_ok-first.ensures in
    let first = joined_in _ _ _ marked _ c.self.invariant.kept two.first in
    let second = joined_in _ _ _ marked _ c.self.invariant.kept two.second in
    points_apart _ _ _ marked _ c.self.invariant.kept (first.1, second.1, two.apart)
    c.position_of-from.ensures.place c.position_of-to.ensures.place

pub is_strictly_within-requires-clause-not_from : goal.is_strictly_within-requires-clause-not_from
is_strictly_within-requires-clause-not_from g c =
    joined_apart _ _ _ g.met.M.ConstraintMarker.constraints_are_marked _ c.self.invariant.kept
    c.in_ok-first.ensures.first c.position_of-middle.ensures.place c.position_of-from.ensures.place

pub is_strictly_within-requires-clause-not_to : goal.is_strictly_within-requires-clause-not_to
is_strictly_within-requires-clause-not_to g c =
    joined_apart _ _ _ g.met.M.ConstraintMarker.constraints_are_marked _ c.self.invariant.kept
    c.in_ok-first.ensures.second c.position_of-middle.ensures.place c.position_of-to.ensures.place

pub returns : goal.returns
returns g c =
    rw (← c.self.view_is) (two_told _ _ _ _ _ c.in_ok-first.ensures c.is_strictly_within.result
    (subst (λ (q : Point × Point × Point). IsTrue c.is_strictly_within.result
    ↔ WithinSegment (whole q.0) (whole q.1) (whole q.2)) (λ o. (
      c.position_of-from.ensures.place o,
      c.position_of-to.ensures.place o,
      c.position_of-middle.ensures.place o,
    )) c.is_strictly_within.ensures) _ c.then_some.ensures)
