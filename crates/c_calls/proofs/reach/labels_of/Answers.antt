use Rattle.std.proofs.Common.{ap}
use Rattle.c_calls.specs.{kept_place}
use Rattle.{c_calls.proofs.Labels.labels_told, delaunay_legalization.specs.triangulation_of}
use Rattle.c_calls.proofs.reach.labels_of.Goals as goal

pub returns : goal.returns
returns g c =
    let law = g.met.T.Triangulation.state_is_of_mesh c.args.points.now in
    labels_told (λ w. w.items) c.args.bytes.now _ _ (ap (triangulation_of kept_place) law)
    c.reachable.result c.reachable.ensures
