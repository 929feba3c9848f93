use Rattle.std.proofs.Common.{map, sym, subst, arith}
use Rattle.std.specs.Prelude.{List, ℤ}
use Rattle.{delaunay_core.specs.Point2, delaunay_legalization.specs.triangulation_of}
use Rattle.c_calls.specs.{found, kept_place, raw_point, Ways.IsRawWay}
use Rattle.c_calls.proofs.ways.FindWayQuery.ask.Goals as goal

pub returns-in-Ok : goal.returns-in-Ok
returns-in-Ok g c =
    let query = c.args.self.now in
    let t = triangulation_of kept_place (g.T.Triangulation.state c.args.points.now) in
    found (
      omega (arith, c.if-self-num_inner_faces.false, c.num_inner_faces.ensures.value),
      c.may_ask_line.ensures.0 c.if-not-may_ask_line.false,
    ) (map raw_point c.deref.result.now)
    (subst (λ (ps : List (Point2 ℤ)). IsRawWay t query.from query.to query.bytes.now
    (map raw_point ps)) (sym c.deref.ensures.value) c.in-Ok.ensures) c.write_points.ensures
