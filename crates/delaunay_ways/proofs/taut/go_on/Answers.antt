use Rattle.std.proofs.Common.{◌-◌, map, arith}
use Rattle.std.proofs.lemmas.List.{length-map}
use Rattle.{delaunay_core.specs.place_of, delaunay_shapes.specs.by_place}
use Rattle.{delaunay_legalization.proofs.both_ways, delaunay_legalization.specs.triangulation_of}
use Rattle.delaunay_ways.proofs.Tautness.{all_before, map_push, part_goes_on, part_pops, popped}
use Rattle.delaunay_ways.proofs.Tautness.{seen_of, skip_of}
use Rattle.delaunay_ways.proofs.taut.go_on.Goals as goal
use goal.{else-loop-near-test, then-loop-near-test+then-not-is_seen}

pub loop-near-preserved : goal.loop-near-preserved
loop-near-preserved g c =
    let at = place_of g.V.Scalar.SpadeNum.whole in
    let t = triangulation_of g.V.HasPosition.place (g.T.HasMesh.mesh_state c.args.triangulation.now)
    in
    let free = by_place (g.G.FreeFaces.free c.args.free.now) in
    let count = c.loop-near.way.ok.0 in
    let more = c.loop-near-test.true in
    let size = c.len.ensures in
    let size_2 = c.len-in-loop-near.ensures in
    let cut = popped c.loop-near.way.items c.pop.new.self.items c.pop.result c.pop.ensures.items
    (c.pop.ensures.variant.1 (omega (arith, more, size))) in (
      all_before (λ x. g.P.PlaneTests.covered c.args.tests.now (at x)) _ _ cut.0 cut.1
          c.loop-near.invariant.0,
      part_pops t free (map at c.args.way.now.items) (at c.args.next)
          (map at c.loop-near.way.items) (map at c.pop.new.self.items) (at cut.0)
          c.loop-near.invariant.1 (map_push at _ _ cut.0 cut.1)
          (skip_of at t free c.loop-near.way.items (at c.args.next)
          (c.len-in-loop-near.result - 2) (omega (arith, count, more, size, size_2))
          c.index.result.now c.index.ensures
          (c.is_seen.ensures.0 c.if-not-is_seen.false)),
    )

pub returns-clause-goes_on : goal.returns-clause-goes_on
returns-clause-goes_on g c =
    let at = place_of g.V.Scalar.SpadeNum.whole in
    let t = triangulation_of g.V.HasPosition.place (g.T.HasMesh.mesh_state c.args.triangulation.now)
    in
    let free = by_place (g.G.FreeFaces.free c.args.free.now) in
    let count = c.loop-near.way.ok.0 in
    let size = c.len.ensures in
    part_goes_on t free (map at c.args.way.now.items) (at c.args.next) (map at c.loop-near.way.items)
    (map at c.push.new.self.items) c.requires.seen.taut c.loop-near.invariant.1
    (λ s. elim c.loop-near-test.branch [
      | else-loop-near-test w ↦ (let less = w.loop-near-test.false in let more = s.several in
          let same = length-map c.loop-near.way.items at in
          absurd (omega (arith, less, more, size, count, same)))
      | then-loop-near-test+then-not-is_seen w ↦ (let more = w.loop-near-test.true in
          let size_2 = w.len-in-loop-near.ensures in both_ways _ (w.is_seen.ensures.1
          (seen_of at t free c.loop-near.way.items (at c.args.next)
          (w.len-in-loop-near.result - 2) (omega (arith, count, more, size, size_2))
          w.index.result.now w.index.ensures s)) w.if-not-is_seen.true)
    ]) (map_push at _ _ c.args.next c.in_ok-push.ensures.items)
