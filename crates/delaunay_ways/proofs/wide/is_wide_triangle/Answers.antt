use Rattle.std.proofs.Common.{◌↔◌, IsTrue, subst, w64}
use Rattle.std.proofs.lemmas.Int.{to_z-of_z}
use Rattle.delaunay_core.specs.{place_of}
use Rattle.{delaunay_ways.proofs.Heights.none_told, delaunay_ways.specs.Widths.IsAway}
use Rattle.delaunay_ways.proofs.wide.is_wide_triangle.Goals as goal

pub returns-then-not-is_away : goal.returns-then-not-is_away
returns-then-not-is_away g c =
    let point = place_of g.S.SpadeNum.whole in
    none_told c.is_away.result (λ wide. wide.first)
    (subst (λ w. IsTrue c.is_away.result
    ↔ IsAway w (point c.args.a) (point c.args.b) (point c.args.c))
    (to_z-of_z w64 c.args.width_2 c.ranges.width_2) c.is_away.ensures) c.if-not-is_away.true

pub returns-then-not-is_away-2 : goal.returns-then-not-is_away-2
returns-then-not-is_away-2 g c =
    let point = place_of g.S.SpadeNum.whole in
    none_told c.is_away-2.result (λ wide. wide.second)
    (subst (λ w. IsTrue c.is_away-2.result
    ↔ IsAway w (point c.args.b) (point c.args.c) (point c.args.a))
    (to_z-of_z w64 c.args.width_2 c.ranges.width_2) c.is_away-2.ensures) c.if-not-is_away-2.true

pub returns : goal.returns
returns g c =
    let point = place_of g.S.SpadeNum.whole in
    let width = to_z-of_z w64 c.args.width_2 c.ranges.width_2 in
    let first = subst (λ w. IsTrue c.is_away.result
    ↔ IsAway w (point c.args.a) (point c.args.b) (point c.args.c)) width c.is_away.ensures in
    let second = subst (λ w. IsTrue c.is_away-2.result
    ↔ IsAway w (point c.args.b) (point c.args.c) (point c.args.a)) width c.is_away-2.ensures in
    let third = subst (λ w. IsTrue c.is_away-3.result
    ↔ IsAway w (point c.args.c) (point c.args.a) (point c.args.b)) width c.is_away-3.ensures in (
      λ h. record {
        first = first.0 c.if-not-is_away.false;
        second = second.0 c.if-not-is_away-2.false;
        third = third.0 h;
      },
      λ h. third.1 h.third,
    )
