use Rattle.std.proofs.Common.{ap}
use Rattle.{c_calls.specs.kept_place, delaunay_legalization.specs.triangulation_of}
use Rattle.c_calls.proofs.Guided.{no_way_told, way_told}
use Rattle.c_calls.proofs.ways.way_between.Goals as goal

pub returns-in-Some : goal.returns-in-Some
returns-in-Some g c =
    let law = g.met.T.Triangulation.state_is_of_mesh c.args.points.now in
    way_told c.in_ok-way.field-0 (λ w. w.items) c.args.bytes.now _ _
    (ap (triangulation_of kept_place) law) c.args.from.now c.args.to.now c.point_of-start.result
    c.point_of-end.result c.point_of-start.ensures c.point_of-end.ensures c.in_ok-way.ensures
    c.in-Some.way c.in-Some.is

pub returns-in-None : goal.returns-in-None
returns-in-None g c =
    let law = g.met.T.Triangulation.state_is_of_mesh c.args.points.now in
    no_way_told c.in_ok-way.field-0 (λ w. w.items) c.args.bytes.now _ _
    (ap (triangulation_of kept_place) law) c.args.from.now c.args.to.now c.point_of-start.result
    c.point_of-end.result c.point_of-start.ensures c.point_of-end.ensures c.in_ok-way.ensures
    c.in-None.is c.new.result.items c.new.ensures.items
