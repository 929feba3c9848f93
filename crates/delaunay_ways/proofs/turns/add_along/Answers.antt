use Rattle.std.proofs.Common.{ap, length}
use Rattle.delaunay_ways.proofs.turns.add_along.Goals as goal

pub loop-item-init : goal.loop-item-init
loop-item-init g c =
    let same = c.line_between-line.ensures.line.state in (
      ap (λ s. length s.directed) same,
      ap (λ s. length s.vertices) same,
      c.line_between-line.ensures.ready,
      c.requires.found,
    )
