use Rattle.std.proofs.Common.{◌∙◌, [], sym, arith}
use Rattle.std.proofs.lemmas.List.{append-nil}
use Rattle.delaunay_shapes.specs.{undirected_of}
use Rattle.delaunay_shapes.proofs.Searches.{found_in, place_in, search_of}
use Rattle.delaunay_shapes.proofs.VertexFlood.{named_first, named_last, named_on, starts_at}
use Rattle.delaunay_shapes.proofs.shape_search.ShapeSearch.named_inside.Goals as goal

pub loop-index-init : goal.loop-index-init
loop-index-init g c =
    named_first (undirected_of c.args.flood.now.found.items) c.new-found.ensures.items

pub directed_edge-edge-requires : goal.directed_edge-edge-requires
directed_edge-edge-requires g c =
    let flood = c.args.flood.now in
    found_in flood c.self-inside.invariant.kept
    (rw (← c.self.view_is, ← c.self-inside.view_is) at c.requires)
    (place_in flood c.loop-index-test.true c.len-index-end.ensures) c.index.ensures

pub loop-index-preserved : goal.loop-index-preserved
loop-index-preserved g c =
    let kept = (search_of c.self.view_is c.self.invariant).kept in
    let flood = c.args.flood.now in
    let way = c.fix.ensures.value ∙ c.directed_edge-edge.ensures.index ∙ c.index.ensures in
    named_on _ c.args.self.now.dcel.mesh (starts_at kept.valid) flood.found.items flood.found.items
    [] _ _ c.loop-index.index c.index.result.now (sym (append-nil flood.found.items))
    (place_in flood c.loop-index-test.true c.len-index-end.ensures) c.requires.once
    c.loop-index.invariant (rw way at c.in_ok-keep_ends.ensures)

pub returns : goal.returns
returns g c =
    named_last c.args.flood.now.found.items c.loop-index.invariant
    (omega (arith, c.loop-index-test.false, c.len-index-end.ensures))
