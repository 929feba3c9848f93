use Rattle.std.proofs.Common.{◌∙◌, arith}
use Rattle.delaunay_legalization.proofs.{both_ways}
use Rattle.delaunay_location.proofs.Nearest.{starts_all, starts_first, starts_nearer}
use Rattle.delaunay_location.proofs.Nearest.{starts_no_nearer}
use Rattle.delaunay_location.proofs.location.edge_from_nearest.Goals as goal
use goal.{else-is_nearer, then-is_nearer}

pub loop-index-init : goal.loop-index-init
loop-index-init g c = starts_first _ _ _ c.from_index-nearest.ensures
    (rw (← c.requires.can.kept.fits.directed_fit) c.requires.some)

pub loop-index-preserved : goal.loop-index-preserved
loop-index-preserved g c =
    let fit = c.requires.can.kept.fits.directed_fit in
    let here = c.directed_edge.ensures in
    let there = c.directed_edge-in-loop-index.ensures in
    let start = c.fix-start.ensures.value ∙ rw (here.dcel, here.index) at c.from.ensures.index in
    let other = c.fix-other.ensures.value
    ∙ rw (there.dcel, there.index) at c.from-in-loop-index.ensures.index in
    let nearer = rw (start, other) at c.is_nearer.ensures in
    elim c.if-is_nearer.branch [
      | then-is_nearer w ↦ rw w.nearest-is
          (starts_nearer _ _ _ c.from_index-edge.ensures c.loop-index.invariant
          (omega (arith, fit, c.loop-index-test.true, c.num_directed_edges-index-end.ensures.value))
          (nearer.0 w.if-is_nearer.true))
      | else-is_nearer w ↦ rw w.nearest-is
          (starts_no_nearer _ _ _ c.from_index-edge.ensures c.loop-index.invariant
          (λ l. both_ways _ (nearer.1 l) w.if-is_nearer.false))
    ]

pub returns : goal.returns
returns g c = starts_all _ _ _
    (omega (arith, c.loop-index-test.false, c.num_directed_edges-index-end.ensures.value))
    c.loop-index.invariant
