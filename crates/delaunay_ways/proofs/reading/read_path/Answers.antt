use Rattle.std.proofs.Common.{◌-◌, arith}
use Rattle.delaunay_ways.proofs.PathsRead.{read_ends, read_goes_on}
use Rattle.delaunay_ways.proofs.reading.read_path.Goals as goal

pub loop-step-preserved : goal.loop-step-preserved
loop-step-preserved c =
    let more = c.loop-step-test.true in
    let within = c.loop-step.invariant.0 in
    let early = c.requires.earlier (c.loop-step.step.before - 1) (omega (arith, more, within)) in (
      omega (arith, more, within, early),
      λ t free first last all is begins. read_goes_on t free first last c.args.steps.now
          c.loop-step.path.items c.push-in-loop-step.new.self.items c.loop-step.step.vertex
          c.loop-step.step.before (c.loop-step.step.before - 1)
          (c.loop-step.invariant.1 t free first last all is begins) (omega (arith, more)) all
          c.in_ok-push-2.ensures.items,
    )

pub returns : goal.returns
returns c = λ t free first last all is begins. read_ends t free first last c.args.steps.now
    c.loop-step.path.items c.loop-step.step.vertex c.loop-step.step.before
    (c.loop-step.invariant.1 t free first last all is begins)
    (let none = c.loop-step-test.false in omega (arith, none))
