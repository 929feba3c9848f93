use Rattle.drawing_faces.specs.{position}
use Rattle.drawing_faces.proofs.Beside.{passed_all, passed_more, passed_none}
use Rattle.drawing_faces.proofs.sides.add_left.Goals as goal

pub loop-item-init : goal.loop-item-init
loop-item-init g c = passed_none position (λ z. z) g.P.PlaneTests.sites g.P.PlaneTests.covered
    c.args.way.now c.args.faces.now.items c.requires

pub loop-item-preserved : goal.loop-item-preserved
loop-item-preserved g c = passed_more position (λ z. z) g.P.PlaneTests.sites
    g.P.PlaneTests.covered c.args.way.now c.loop-item.way c.next.new.self
    c.args.faces.now.items c.loop-item.faces.items c.loop-item.invariant c.in-Some.item
    c.add_left_of.new.faces.items c.in-Some.ensures.steps c.in-Some.ensures.goes.keeps
    c.in_ok-add_left_of.ensures

pub returns : goal.returns
returns g c = λ items left. passed_all position (λ z. z) g.P.PlaneTests.sites
    g.P.PlaneTests.covered c.args.way.now c.loop-item.way c.next.new.self
    c.args.faces.now.items c.loop-item.faces.items c.loop-item.invariant
    c.in_default.ensures.steps items left
