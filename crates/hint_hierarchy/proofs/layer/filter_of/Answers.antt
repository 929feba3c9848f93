use Rattle.std.proofs.Common.{◌∙◌}
use Rattle.{delaunay_core.specs.place_of, hint_hierarchy.proofs.Filtered.filtered_next}
use Rattle.hint_hierarchy.proofs.layer.filter_of.Goals as goal

pub loop-index-preserved : goal.loop-index-preserved
loop-index-preserved g c =
    filtered_next (place_of g.S.SpadeNum.whole) c.args.triangulation.now.vertices c.loop-index.index
    c.data.result.now c.loop-index.filter c.add.new.self
    (rw (← c.vertex-vertex.ensures.state)
    (rw (c.vertex-vertex.ensures.index ∙ c.from_index.ensures) at c.data.ensures))
    c.add.ensures.has c.add.ensures.others c.loop-index.invariant
