use Rattle.std.proofs.Common.{ℕ, ◌<◌, get_or, map, subst, sym, ap}
use Rattle.delaunay_shapes.specs.{undirected_of}
use Rattle.delaunay_shapes.proofs.{Asking.none_asked, Searches.search_of}
use Rattle.delaunay_shapes.proofs.{Flooding.begun_finds_all, Spreading.found_within}
use Rattle.delaunay_shapes.proofs.shape_search.ShapeSearch.edges_from.Goals as goal

pub ask_starts-requires : goal.ask_starts-requires
ask_starts-requires g c =
    rw (← c.self.view_is, ← c.self-inside.view_is) (none_asked _ _ _ _ _ c.new-flood.ensures.asked
    c.num_undirected_edges.ensures.value (ap undirected_of c.new-flood.ensures.found))

pub returns : goal.returns
returns g c =
    let search = search_of c.self.view_is c.self.invariant in
    let kept = search.kept in
    let d = c.args.self.now.dcel in
    let found = c.in_ok-spread.ensures in
    record {
      exact = begun_finds_all (map g.V.HasPosition.place d.vertices) d.mesh kept.valid kept.shape
          _ _ search.begins _ kept.fits.undirected_fit _ _ _ _ found.flooding found.spread
          c.in_ok-ask_starts.ensures.begun found.on;
      within = λ k e h. subst (λ (n : ℕ). get_or c.spread.new.flood.found.items k e < n)
          (sym kept.fits.directed_fit) (found_within _ _ kept.valid _ kept.fits.undirected_fit
          _ _ k e found.flooding h);
    }
