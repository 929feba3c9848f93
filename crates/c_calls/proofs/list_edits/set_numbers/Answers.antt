use Rattle.std.proofs.Common.{ℕ, List, take, subst, arith}
use Rattle.std.proofs.lemmas.List.{take_all}
use Rattle.c_calls.specs.{GivesNumbers}
use Rattle.c_calls.proofs.Numbers.{as_many, is_numbered, one_more_number}
use Rattle.c_calls.proofs.list_edits.set_numbers.Goals as goal

pub set_number-requires : goal.set_number-requires
set_number-requires g c =
    let there = c.are_vertices.ensures.0 c.if-not-are_vertices.false c.loop-index.index 0
    c.loop-index-test.true in
    let many = as_many _ _ _ _ c.loop-index.invariant in
    omega (arith, there, many)

pub loop-index-preserved : goal.loop-index-preserved
loop-index-preserved g c =
    one_more_number c.args.vertices.now c.args.numbers.now c.loop-index.index
    (g.T.Triangulation.state c.args.points.now) (g.T.Triangulation.state c.loop-index.points)
    (g.T.Triangulation.state c.set_number.new.points) c.set_number.ensures.0
    c.loop-index-test.true c.if-vertices-numbers.false c.loop-index.invariant
    c.set_number.ensures.1.0 c.set_number.ensures.1.1

pub returns : goal.returns
returns g c =
    let least = c.loop-index-test.false in let most = c.loop-index.auto.index-end in
    let same = c.if-vertices-numbers.false in
    is_numbered c.args.vertices.now c.args.numbers.now (g.T.Triangulation.state c.args.points.now)
    (g.T.Triangulation.state c.loop-index.points)
    (subst (λ (vs : List ℕ). GivesNumbers vs c.args.numbers.now
    (g.T.Triangulation.state c.args.points.now) (g.T.Triangulation.state c.loop-index.points))
    (take_all c.loop-index.index c.args.vertices.now (omega (arith, least)))
    (subst (λ (ns : List ℕ). GivesNumbers (take c.loop-index.index c.args.vertices.now) ns
    (g.T.Triangulation.state c.args.points.now) (g.T.Triangulation.state c.loop-index.points))
    (take_all c.loop-index.index c.args.numbers.now (omega (arith, least, same)))
    c.loop-index.invariant))
