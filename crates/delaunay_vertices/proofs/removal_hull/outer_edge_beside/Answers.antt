use Rattle.std.proofs.Common.{ap, ◌∙◌, arith}
use Rattle.half_edge_links.specs.{face, origin, rev}
use Rattle.delaunay_vertices.proofs.HullEdges.{faces_inner}
use Rattle.delaunay_vertices.proofs.Searching.{not_so, search_goes_on}
use Rattle.delaunay_vertices.proofs.removal_hull.outer_edge_beside.Goals as goal

pub returns-then-is_outer-clause-starts : goal.returns-then-is_outer-clause-starts
returns-then-is_outer-clause-starts g c =
    ap (origin c.args.dcel.now.mesh) c.loop-i.invariant.here ∙ c.requires.round.starts c.loop-i.i

pub loop-i-preserved : goal.loop-i-preserved
loop-i-preserved g c =
    let right = ap (face c.args.dcel.now.mesh) (c.fix.ensures.value ∙ c.rev.ensures.index
    ∙ ap rev c.directed_edge.ensures.index) in
    search_goes_on c.loop-i.invariant
    (λ z. not_so c.is_outer.ensures c.if-is_outer.false (right ∙ z))
    c.ccw_edge-edge.ensures.within c.ccw_edge-edge.ensures.value

pub returns-clause-none : goal.returns-clause-none
returns-clause-none g c =
    faces_inner _ _ _ _ c.recall_invariant.ensures.whole.valid.sound c.requires.round
    (λ i less. c.loop-i.invariant.none i (let e = c.loop-i-test.false in omega (arith, e, less)))
