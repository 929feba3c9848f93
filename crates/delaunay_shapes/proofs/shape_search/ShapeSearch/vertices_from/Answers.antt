use Rattle.std.proofs.Common.{◌∙◌, map, ap, arith}
use Rattle.std.proofs.lemmas.List.{length-map}
use Rattle.delaunay_shapes.specs.{undirected_of}
use Rattle.delaunay_shapes.proofs.{Asking.none_asked, Searches.search_of}
use Rattle.delaunay_shapes.proofs.{Flooding.begun_finds_all, VertexFlood.named_are_all}
use Rattle.delaunay_shapes.proofs.shape_search.ShapeSearch.vertices_from.Goals as goal

pub ask_starts-requires : goal.ask_starts-requires
ask_starts-requires g c =
    rw (← c.self.view_is, ← c.self-inside.view_is) (none_asked _ _ _ _ _ c.new-flood.ensures.asked
    c.num_undirected_edges.ensures.value (ap undirected_of c.new-flood.ensures.found))

pub returns : goal.returns
returns g c =
    let search = search_of c.self.view_is c.self.invariant in
    let kept = search.kept in
    let d = c.args.self.now.dcel in
    let points = map g.V.HasPosition.place d.vertices in
    let many = length-map d.vertices g.V.HasPosition.place in
    let found = c.in_ok-vertices.ensures in
    named_are_all points d.mesh kept.valid kept.shape _ _ search.begins _ _
    (begun_finds_all points d.mesh kept.valid kept.shape _ _ search.begins _
    kept.fits.undirected_fit _ _ _ _ found.flooding found.spread
    c.in_ok-ask_starts.ensures.begun found.on)
    found.named (many ∙ kept.fits.vertices_fit) (omega (arith, c.requires, many))
