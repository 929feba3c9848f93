use Rattle.std.proofs.Common.{◌<◌, ℕ, length}
use Rattle.std.proofs.lemmas.List.Elements.{All-push}
use Rattle.delaunay_ways.proofs.turns.hull.Goals as goal

pub loop-preserved : goal.loop-preserved
loop-preserved g c = (
  c.start_of-here.ensures,
  rw c.in_ok-push.ensures.items (All-push
      (λ (v : ℕ). v < length c.args.embedding.now.dcel.vertices) c.loop.chain.items
      c.vertex_of.result c.loop.invariant.1 c.vertex_of.ensures),
)
