use Rattle.c_calls.specs.View.{view_of}
use Rattle.c_calls.proofs.Found.{circle_found, rectangle_found}
use Rattle.c_calls.proofs.shapes.InShapeQuery.ask.Goals as goal

pub returns-in-Ok : goal.returns-in-Ok
returns-in-Ok g c =
    let view = view_of g.T.Constraints.ConstraintMarker.constraints
    (g.T.Triangulation.state c.args.points.now) in
    let of = c.in-Ok.circle in
    circle_found c.args.self.now.shape (g.K.Part.are_in view) c.find.result c.args.length.now
    c.find.new.length c.args.indexes.now c.find.new.indexes of.center of.radius_2 c.in-0.is
    c.in-Ok.ensures.circle c.find.ensures

pub returns-in-Ok-rectangle_of : goal.returns-in-Ok-rectangle_of
returns-in-Ok-rectangle_of g c =
    let view = view_of g.T.Constraints.ConstraintMarker.constraints
    (g.T.Triangulation.state c.args.points.now) in
    let of = c.in-Ok-rectangle_of.rectangle in
    let call = c.find-in-Ok-rectangle_of in
    rectangle_found c.args.self.now.shape (g.K.Part.are_in view) call.result c.args.length.now
    call.new.length c.args.indexes.now call.new.indexes of.lower of.upper c.in-1.is
    c.in-Ok-rectangle_of.ensures.rectangle call.ensures
