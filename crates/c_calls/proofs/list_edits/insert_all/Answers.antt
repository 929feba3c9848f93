use Rattle.std.proofs.Common.{◌≤◌, ℕ, length, refl, sym, ap, subst}
use Rattle.std.specs.Prelude.{Err}
use Rattle.delaunay_legalization.proofs.{both_ways}
use Rattle.c_calls.specs.{kept_place, unnumbered_points}
use Rattle.c_calls.specs.Lists.{insertion_outside, ListInsertion}
use Rattle.c_calls.proofs.Listed.{count_same, may_insert, points_in_range, reserve_refused}
use Rattle.c_calls.proofs.list_edits.insert_all.Goals as goal

pub returns-then-not-are_in_range : goal.returns-then-not-are_in_range
returns-then-not-are_in_range g c =
    let points = c.args.positions.now in
    insertion_outside refl (subst (λ (n : ℕ). n ≤ length c.args.indexes.now)
    (sym (count_same points)) c.if-indexes-positions.false)
    (λ all. both_ways _ (c.are_in_range.ensures.1 (points_in_range points all))
    c.if-not-are_in_range.true) refl refl

pub returns-in-Err : goal.returns-in-Err
returns-in-Err g c =
    let range = c.are_in_range.ensures.0 c.if-not-are_in_range.false in
    subst (λ (n : ℕ). ListInsertion kept_place g.T.Constraints.ConstraintMarker.constraints
    (unnumbered_points c.args.positions.now) n c.args.indexes.now c.args.indexes.now
    (g.T.Triangulation.state c.args.points.now) (g.T.Triangulation.state c.reserve.new.self))
    (sym c.status_of.ensures) (reserve_refused g.T.Constraints.ConstraintMarker.constraints
    c.args.positions.now c.args.indexes.now (g.T.Triangulation.state c.args.points.now)
    (g.T.Triangulation.state c.reserve.new.self) c.if-indexes-positions.false range
    c.in-Err.ensures.same c.in-Err.error (λ e. c.in-Err.ensures.not_too_large (ap Err e))
    (λ e. c.in-Err.ensures.full.0 (ap Err e), λ more. let same = c.in-Err.ensures.full.1 more in cc))

pub insert_in_range-requires : goal.insert_in_range-requires
insert_in_range-requires g c =
    may_insert c.args.positions.now c.args.indexes.now
    (g.T.Triangulation.state c.args.points.now) (g.T.Triangulation.state c.reserve.new.self)
    c.if-indexes-positions.false (c.are_in_range.ensures.0 c.if-not-are_in_range.false)
    c.reserve.ensures.same (λ more. let clash = c.in-Ok.ensures.full.1 more in absurd (cc))
