use Rattle.std.proofs.Common.{subst}
use Rattle.{delaunay_core.specs.place_of, delaunay_edit.specs.FindsLocation}
use Rattle.c_calls.specs.{kept_place}
use Rattle.c_calls.proofs.queries.location_at.Goals as goal

pub returns : goal.returns
returns g c = record {
  answer = c.locate.result;
  finds = subst (λ p. FindsLocation kept_place (g.T.Triangulation.state c.args.points.now)
      (place_of (λ z. z) p) c.locate.result) c.point_of.ensures c.locate.ensures;
  named = c.raw_location.ensures;
}
