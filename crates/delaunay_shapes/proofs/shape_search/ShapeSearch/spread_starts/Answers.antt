use Rattle.std.proofs.Common.{[], ◌∙◌, length, sym, arith}
use Rattle.std.proofs.lemmas.List.{append-nil}
use Rattle.delaunay_shapes.proofs.Asking.{goes_on_twice}
use Rattle.delaunay_shapes.proofs.Searches.{found_in, place_in, search_of}
use Rattle.delaunay_shapes.proofs.Spreading.{longer, spread_both, spread_first, starts_done}
use Rattle.delaunay_shapes.proofs.shape_search.ShapeSearch.spread_starts.Goals as goal

pub loop-index-init : goal.loop-index-init
loop-index-init g c = record {
  flooding = c.requires;
  on = record { kept = λ k h. h; more = []; grown = sym (append-nil c.args.flood.now.found.items) };
  spread = spread_first _ _ _;
}

pub directed_edge-edge-requires : goal.directed_edge-edge-requires
directed_edge-edge-requires g c =
    let long = longer _ _ _ _ c.loop-index.invariant.on in
    let first = place_in c.args.flood.now c.loop-index-test.true c.len-index-end.ensures in
    found_in c.loop-index.flood c.self-inside.invariant.kept
    (rw (← c.self.view_is, ← c.self-inside.view_is) at c.loop-index.invariant.flooding)
    (omega (arith, long, first)) c.index.ensures

pub loop-index-preserved : goal.loop-index-preserved
loop-index-preserved g c =
    let kept = (search_of c.self.view_is c.self.invariant).kept in
    let long = longer _ _ _ _ c.loop-index.invariant.on in
    let place = place_in c.args.flood.now c.loop-index-test.true c.len-index-end.ensures in
    let way = c.directed_edge-edge.ensures.index ∙ c.index.ensures in
    let first = rw (c.fix.ensures.value, c.rev.ensures.index, way) at c.in_ok-ask_beside.ensures in
    let second = rw (c.fix-in-loop-index.ensures.value, way) at c.in_ok-ask_beside-2.ensures in
    record {
      flooding = second.flooding;
      on = goes_on_twice _ _ _ _ _ _ c.loop-index.invariant.on
          (goes_on_twice _ _ _ _ _ _ first.on second.on);
      spread = spread_both _ c.args.self.now.dcel.mesh kept.valid _ kept.fits.undirected_fit
          _ _ _ _ _ _ _ c.loop-index.index c.index.result.now c.loop-index.invariant.flooding
          c.loop-index.invariant.spread (omega (arith, long, place)) first second;
    }

pub returns-clause-spread : goal.returns-clause-spread
returns-clause-spread g c =
    starts_done _ _ _ (length c.args.flood.now.found.items) c.loop-index.index
    (omega (arith, c.loop-index-test.false, c.len-index-end.ensures)) c.loop-index.invariant.spread
