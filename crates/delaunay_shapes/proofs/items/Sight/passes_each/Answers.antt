use Rattle.std.proofs.Common.{◌∙◌, ap}
use Rattle.delaunay_legalization.proofs.{both_ways}
use Rattle.delaunay_shapes.proofs.{Crossed.false_tells, Crossed.true_tells, Walks.walking_goes_on}
use Rattle.delaunay_shapes.proofs.Walks.{item_mesh, stops_at, walking_begins, walking_ends}
use Rattle.delaunay_shapes.proofs.items.Sight.passes_each.Goals as goal

pub loop-item-init : goal.loop-item-init
loop-item-init g c = walking_begins c.requires.ready

pub passes-requires : goal.passes-requires
passes-requires g c =
    ap (λ d. d.now) (item_mesh c.loop-item.invariant c.in-Some.ensures.steps) ∙ c.requires.mesh

pub loop-item-preserved : goal.loop-item-preserved
loop-item-preserved g c =
    walking_goes_on c.loop-item.invariant c.in-Some.ensures.steps c.in-Some.ensures.goes.keeps
    (c.passes.ensures.0 c.if-not-passes.false)

pub returns-then-not-passes : goal.returns-then-not-passes
returns-then-not-passes g c = λ items left.
    false_tells (stops_at c.loop-item.invariant c.in-Some.ensures.steps
    (λ y. both_ways _ (c.passes.ensures.1 y) c.if-not-passes.true) items left)

pub returns : goal.returns
returns g c = λ items left.
    true_tells (walking_ends c.loop-item.invariant c.in_default.ensures.steps items left)
