use Rattle.std.proofs.Common.{◌∙◌, arith}
use Rattle.delaunay_shapes.proofs.Asking.{goes_on_twice}
use Rattle.delaunay_shapes.proofs.{Handles.found_fits, Spreading.spread_ends, Spreading.spread_one}
use Rattle.delaunay_shapes.proofs.Searches.{found_in, place_in, search_of}
use Rattle.delaunay_shapes.proofs.shape_search.ShapeSearch.spread.Goals as goal

pub directed_edge-requires : goal.directed_edge-requires
directed_edge-requires g c =
    found_in c.edges.flood c.self-inside.invariant.kept
    (rw (← c.self.view_is, ← c.self-inside.view_is) at c.edges.invariant.flooding)
    (place_in c.edges.flood c.edges-test.true c.len.ensures) c.index.ensures

pub edges-smaller : goal.edges-smaller
edges-smaller g c =
    let fits = found_fits _ _ _ _ c.edges.invariant.flooding in
    omega (arith, fits, c.edges-test.true, c.len.ensures, c.edges.flood.found.ok)

pub edges-preserved : goal.edges-preserved
edges-preserved g c =
    let kept = (search_of c.self.view_is c.self.invariant).kept in
    let way = c.fix-edge.ensures.value ∙ c.directed_edge.ensures.index ∙ c.index.ensures in
    let asks = rw way at c.in_ok-ask_beside.ensures in
    record {
      flooding = asks.flooding;
      on = goes_on_twice _ _ _ _ _ _ c.edges.invariant.on asks.on;
      spread = spread_one _ c.args.self.now.dcel.mesh kept.valid _ kept.fits.undirected_fit _ _ _ _
          c.edges.index c.index.result.now c.edges.invariant.flooding c.edges.invariant.spread
          (place_in c.edges.flood c.edges-test.true c.len.ensures) asks;
    }

pub returns-clause-spread : goal.returns-clause-spread
returns-clause-spread g c =
    spread_ends _ _ _ 0 c.edges.index c.edges.invariant.spread
    (omega (arith, c.edges-test.false, c.len.ensures, c.edges.flood.found.ok))
