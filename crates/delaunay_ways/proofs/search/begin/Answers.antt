use Rattle.std.proofs.Common.{◌≡◌, ◌<◌, ◌∙◌, length, get_or, ap, arith}
use Rattle.std.proofs.lemmas.Grind.{get_or_default_zero}
use Rattle.std.specs.BinaryHeap.{heap_items}
use Rattle.delaunay_ways.proofs.Searching.{begins_more}
use Rattle.delaunay_ways.proofs.search.begin.Goals as goal

pub loop-vertex-preserved : goal.loop-vertex-preserved
loop-vertex-preserved g c =
    let within : c.loop-vertex.vertex-index < length c.args.last.now =
    omega (arith, c.loop-vertex-test.true, c.loop-vertex.auto.vertex-index-end, c.told-last) in
    let is : c.new-in-loop-vertex.result.vertex
    ≡ get_or c.args.last.now c.loop-vertex.vertex-index 0 = let v = c.new-in-loop-vertex.ensures.vertex in let i = c.index.ensures in
    let d = get_or_default_zero c.args.last.now c.loop-vertex.vertex-index
    c.vertex-item.result within in cc in (
      ap (λ v. v.items) c.add.ensures.marks ∙ c.loop-vertex.invariant.0,
      ap (λ v. v.items) c.add.ensures.steps ∙ c.loop-vertex.invariant.1,
      begins_more c.args.last.now c.loop-vertex.vertex-index c.new-in-loop-vertex.result
          (heap_items c.loop-vertex.search.leads) (heap_items c.add.new.self.leads)
          c.loop-vertex.invariant.2 within is c.new-in-loop-vertex.ensures.before
          c.in_ok-add.ensures.lead,
    )
