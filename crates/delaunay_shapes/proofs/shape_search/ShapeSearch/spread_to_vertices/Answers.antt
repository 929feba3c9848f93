use Rattle.std.proofs.Common.{◌≡◌, ℕ, ◌∙◌, length, subst, sym, arith}
use Rattle.{delaunay_shapes.proofs.Asking.goes_on_twice, delaunay_shapes.specs.IsSpreadTo}
use Rattle.delaunay_shapes.proofs.{Handles.found_fits, Spreading.spread_ends, Spreading.spread_one}
use Rattle.delaunay_shapes.proofs.Searches.{found_in, place_in, search_of}
use Rattle.delaunay_shapes.proofs.VertexFlood.{named_before, named_last, named_on, starts_at}
use Rattle.delaunay_shapes.proofs.shape_search.ShapeSearch.spread_to_vertices.Goals as goal

pub edges-init : goal.edges-init
edges-init g c =
    let kept = (search_of c.self.view_is c.self.invariant).kept in
    let starts = c.in_ok-spread_starts.ensures in
    let all : c.len-index.result ≡ length c.args.flood.now.found.items =
    omega (arith, c.len-index.ensures, c.args.flood.now.found.ok) in
    record {
      flooding = starts.flooding;
      on = starts.on;
      spread = subst (λ (i : ℕ). IsSpreadTo c.args.self.now.dcel.mesh
          c.spread_starts.new.flood.asked c.spread_starts.new.flood.found.items 0 i) (sym all)
          starts.spread;
      named = named_before _ c.args.self.now.dcel.mesh (starts_at kept.valid)
          c.args.flood.now.found.items _ starts.on.more _ _ starts.on.grown all
          c.in_ok-vertices.ensures;
    }

pub directed_edge-requires : goal.directed_edge-requires
directed_edge-requires g c =
    found_in c.edges.flood c.self-inside.invariant.kept
    (rw (← c.self.view_is, ← c.self-inside.view_is) at c.edges.invariant.flooding)
    (place_in c.edges.flood c.edges-test.true c.len.ensures) c.index.ensures

pub edges-smaller : goal.edges-smaller
edges-smaller g c =
    let fits = found_fits _ _ _ _ c.edges.invariant.flooding in
    omega (arith, fits, c.edges-test.true, c.len.ensures, c.edges.flood.found.ok)

pub edges-preserved : goal.edges-preserved
edges-preserved g c =
    let kept = (search_of c.self.view_is c.self.invariant).kept in
    let here = place_in c.edges.flood c.edges-test.true c.len.ensures in
    let way = c.fix-edge.ensures.value ∙ c.directed_edge.ensures.index ∙ c.index.ensures in
    let asks = rw way at c.in_ok-ask_beside.ensures in
    record {
      flooding = asks.flooding;
      on = goes_on_twice _ _ _ _ _ _ c.edges.invariant.on asks.on;
      spread = spread_one _ c.args.self.now.dcel.mesh kept.valid _ kept.fits.undirected_fit _ _ _ _
          c.edges.index c.index.result.now c.edges.invariant.flooding c.edges.invariant.spread here
          asks;
      named = named_on _ c.args.self.now.dcel.mesh (starts_at kept.valid) _ _ asks.on.more _ _
          c.edges.index c.index.result.now asks.on.grown here asks.flooding.once
          c.edges.invariant.named (rw way at c.in_ok-keep_ends.ensures);
    }

pub returns-clause-spread : goal.returns-clause-spread
returns-clause-spread g c =
    spread_ends _ _ _ 0 c.edges.index c.edges.invariant.spread
    (omega (arith, c.edges-test.false, c.len.ensures, c.edges.flood.found.ok))

pub returns-clause-named : goal.returns-clause-named
returns-clause-named g c =
    named_last c.edges.flood.found.items c.edges.invariant.named
    (omega (arith, c.edges-test.false, c.len.ensures, c.edges.flood.found.ok))
