use Rattle.std.proofs.Common.{rules}
use Rattle.{delaunay_core.specs.place_of, delaunay_edit.proofs.Places.after_by}
use Rattle.delaunay_edit.proofs.nearer.Turning.starts_after.Goals as goal

pub distance_2-requires : goal.distance_2-requires
distance_2-requires g c = search (rules, g.met.P.PlaneTests.covered_are_in_range)

pub distance_2-requires-2 : goal.distance_2-requires-2
distance_2-requires-2 g c = search (rules, g.met.P.PlaneTests.covered_are_in_range)

pub returns : goal.returns
returns g c =
    after_by c.args.self.now.from (place_of g.S.SpadeNum.whole c.args.point) c.args.self.now.start _
    (search (rules, c.side-side.ensures, c.is_on_line.ensures, c.if-not-is_on_line.false))
    (search rules)
