use Rattle.std.proofs.Common.{arith}
use Rattle.std.specs.Prelude.{pos, ◌-ℤ◌}
use Rattle.std.proofs.lemmas.Int.{ints}
use Rattle.delaunay_core.specs.{place_of}
use Rattle.exact_predicates.proofs.Reaches.{bottom_passed, left_passed, lower_known, right_passed}
use Rattle.exact_predicates.proofs.Reaches.{told_by_top, upper_known}
use Rattle.exact_predicates.proofs.Widths.{kept, kept_long, kept_long_is}
use Rattle.exact_predicates.proofs.disks.is_disk_within.Goals as goal

pub returns-then-not-clears_lower : goal.returns-then-not-clears_lower
returns-then-not-clears_lower g c =
    let z = c.centre_of-centre.result in
    let at = place_of g.S.SpadeNum.whole in
    let e = c.centre_of-centre.ensures in
    let s = c.args.sides.now in
    left_passed s (at c.args.a) (at c.args.b) (at c.args.c) c.requires.left_turn z.x z.y z.scale
    e.x e.y e.scale c.clears_lower.result
    (lower_known z.x z.y z.x (kept_long z.x) (at c.args.a).x (kept c.to_i64-x.result) z.scale s.left
    c.clears_lower.result (kept_long_is z.x (omega (arith, e.x_bound)))
    (omega (arith, ints, c.to_i64-x.ensures, c.requires.a.x.low, c.requires.a.x.high))
    c.clears_lower.ensures)
    (grind (arith, c.if-not-clears_lower.true))

pub returns-then-not-clears_upper : goal.returns-then-not-clears_upper
returns-then-not-clears_upper g c =
    let z = c.centre_of-centre.result in
    let at = place_of g.S.SpadeNum.whole in
    let e = c.centre_of-centre.ensures in
    let s = c.args.sides.now in
    right_passed s (at c.args.a) (at c.args.b) (at c.args.c) c.requires.left_turn z.x z.y z.scale
    e.x e.y e.scale c.clears_upper.result
    (upper_known z.x z.y (pos 0 -ℤ z.x) (kept_long c.turned_round.result) (at c.args.a).x
    (kept c.to_i64-x.result) z.scale s.right c.clears_upper.result
    (omega (arith, ints, c.turned_round.ensures.value, e.x_bound))
    (omega (arith, ints, c.to_i64-x.ensures, c.requires.a.x.low, c.requires.a.x.high))
    c.clears_upper.ensures)
    (grind (arith, c.if-not-clears_upper.true))

pub returns-then-not-clears_lower-2 : goal.returns-then-not-clears_lower-2
returns-then-not-clears_lower-2 g c =
    let z = c.centre_of-centre.result in
    let at = place_of g.S.SpadeNum.whole in
    let e = c.centre_of-centre.ensures in
    let s = c.args.sides.now in
    bottom_passed s (at c.args.a) (at c.args.b) (at c.args.c) c.requires.left_turn z.x z.y z.scale
    e.x e.y e.scale c.clears_lower-2.result
    (lower_known z.x z.y z.y (kept_long z.y) (at c.args.a).y (kept c.to_i64-y.result) z.scale
    s.bottom c.clears_lower-2.result (kept_long_is z.y (omega (arith, e.y_bound)))
    (omega (arith, ints, c.to_i64-y.ensures, c.requires.a.y.low, c.requires.a.y.high))
    c.clears_lower-2.ensures)
    (grind (arith, c.if-not-clears_lower-2.true))

pub returns : goal.returns
returns g c =
    let z = c.centre_of-centre.result in
    let at = place_of g.S.SpadeNum.whole in
    let e = c.centre_of-centre.ensures in
    let s = c.args.sides.now in
    told_by_top s (at c.args.a) (at c.args.b) (at c.args.c) c.requires.left_turn z.x z.y z.scale
    e.x e.y e.scale c.clears_lower.result c.clears_upper.result c.clears_lower-2.result
    c.clears_upper-2.result
    (lower_known z.x z.y z.x (kept_long z.x) (at c.args.a).x (kept c.to_i64-x.result) z.scale s.left
    c.clears_lower.result (kept_long_is z.x (omega (arith, e.x_bound)))
    (omega (arith, ints, c.to_i64-x.ensures, c.requires.a.x.low, c.requires.a.x.high))
    c.clears_lower.ensures)
    (grind (arith, c.if-not-clears_lower.false))
    (upper_known z.x z.y (pos 0 -ℤ z.x) (kept_long c.turned_round.result) (at c.args.a).x
    (kept c.to_i64-x.result) z.scale s.right c.clears_upper.result
    (omega (arith, ints, c.turned_round.ensures.value, e.x_bound))
    (omega (arith, ints, c.to_i64-x.ensures, c.requires.a.x.low, c.requires.a.x.high))
    c.clears_upper.ensures)
    (grind (arith, c.if-not-clears_upper.false))
    (lower_known z.x z.y z.y (kept_long z.y) (at c.args.a).y (kept c.to_i64-y.result) z.scale
    s.bottom c.clears_lower-2.result (kept_long_is z.y (omega (arith, e.y_bound)))
    (omega (arith, ints, c.to_i64-y.ensures, c.requires.a.y.low, c.requires.a.y.high))
    c.clears_lower-2.ensures)
    (grind (arith, c.if-not-clears_lower-2.false))
    (upper_known z.x z.y (pos 0 -ℤ z.y) (kept_long c.turned_round-2.result) (at c.args.a).y
    (kept c.to_i64-y.result) z.scale s.top c.clears_upper-2.result
    (omega (arith, ints, c.turned_round-2.ensures.value, e.y_bound))
    (omega (arith, ints, c.to_i64-y.ensures, c.requires.a.y.low, c.requires.a.y.high))
    c.clears_upper-2.ensures)
