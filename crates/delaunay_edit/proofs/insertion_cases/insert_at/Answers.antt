use Rattle.std.proofs.Common.{◌∙◌, [], ◌∷◌, ap, arith, length, length-append}
use Rattle.delaunay_vertices.proofs.{Appending.sites_after, LeftToTest.passes_beside}
use Rattle.delaunay_vertices.proofs.EdgeLists.{adds_nothing, adds_on, adds_only}
use Rattle.{delaunay_vertices.proofs.EdgeSides.room_inside, half_edge_dcel.specs.edges}
use Rattle.delaunay_vertices.proofs.FirstVertices.{few_are_legal, first_gains, no_edges}
use Rattle.delaunay_vertices.proofs.{FirstVertices.second_gains, InsertionCases.inside_gains}
use Rattle.delaunay_edit.proofs.Cases.{not_on_vertex, vertex_of_handle}
use Rattle.delaunay_edit.proofs.{EmptyRound.put_in_free, insertion_cases.insert_at.Given.Over}
use Rattle.delaunay_edit.proofs.Inserting.{appends, puts_beside, PutsIn}
use Rattle.delaunay_edit.proofs.insertion_cases.insert_at.Goals as goal
use Rattle.delaunay_edit.proofs.insertion_cases.insert_at.Goals.{After-legalize_vertex-arg-3-1}
use Rattle.delaunay_edit.proofs.insertion_cases.insert_at.Goals.{else-index-gt0, in-OnEdge}
use Rattle.delaunay_edit.proofs.insertion_cases.insert_at.Goals.{in-OnFace, in-OutsideOfConvexHull}
use Rattle.delaunay_edit.proofs.insertion_cases.insert_at.Goals.{then-index-gt0}

pub insert_into_triangle-requires-clause-room : goal.insert_into_triangle-requires-clause-room
insert_into_triangle-requires-clause-room g c =
    room_inside _ c.args.dcel.now c.requires.can.legal.kept c.requires.room (vertex_of_handle _
    c.args.dcel.now c.requires.can.legal.kept _ _ _ c.requires.can.located c.in-OnFace.is)

pub insert_outside-requires-clause-outer : goal.insert_outside-requires-clause-outer
insert_outside-requires-clause-outer g c =
    let here = rw c.in-OutsideOfConvexHull.is at c.requires.can.located in
    rw c.requires.can.legal.kept.fits.directed_fit here.handle

pub insert_outside-requires-clause-outside : goal.insert_outside-requires-clause-outside
insert_outside-requires-clause-outside g c =
    let here = rw c.in-OutsideOfConvexHull.is at c.requires.can.located in
    here.location.1

pub unreachable-requires : goal.unreachable-requires
unreachable-requires g c =
    not_on_vertex _ c.args.dcel.now c.requires.can.legal.kept _ c.requires.can.apart _
    (rw c.in-OnVertex.is at c.requires.can.located)

-- ---- the first two vertices
pub setup_initial_two_vertices-requires-clause-no_edges :
    goal.setup_initial_two_vertices-requires-clause-no_edges
setup_initial_two_vertices-requires-clause-no_edges g c =
    let can = c.requires.can in
    let here = rw c.in-NoTriangulation.is at can.located in
    let first = c.append_unconnected_vertex-vertex.ensures in
    ap (λ d. length d.undirected) first.contents ∙ no_edges c.args.dcel.now
    (record { kept = can.legal.kept; in_range = can.in_range }) here.location.0 first.vertex
    (omega (arith, c.index.ensures, c.if-index-gt0.true))

pub returns-in-NoTriangulation-clause-appends : goal.returns-in-NoTriangulation-clause-appends
returns-in-NoTriangulation-clause-appends g c =
    let can = c.requires.can in
    let marked = g.met.M.ConstraintMarker.constraints_are_marked in
    let here = rw c.in-NoTriangulation.is at can.located in
    let first = c.append_unconnected_vertex-vertex.ensures in
    let put : PutsIn g.V.HasPosition.place g.M.ConstraintMarker.constraints c.args.value
    c.args.location c.args.dcel.now c.if-index-gt0.dcel c.append_unconnected_vertex-vertex.result
    0 = elim c.if-index-gt0.branch [
      | then-index-gt0 w ↦ let done = w.setup_initial_two_vertices.ensures in
          rw w.dcel-is (puts_beside _ marked can.legal.kept g.met.M.FreeByDefault.default_is_free
          (rw c.in-NoTriangulation.is (λ on. on))
          (second_gains c.args.dcel.now
          (record { kept = can.legal.kept; in_range = can.in_range }) here.location.0 first.vertex
          (omega (arith, c.index.ensures, w.if-index-gt0.true)) can.apart first.contents
          w.from_index.ensures done.links done.data)
          (adds_on (adds_nothing (ap edges first.contents)) (adds_only done.edges)))
      | else-index-gt0 w ↦
          rw w.dcel-is (puts_beside _ marked can.legal.kept g.met.M.FreeByDefault.default_is_free
          (rw c.in-NoTriangulation.is (λ on. on))
          (first_gains c.args.dcel.now (record { kept = can.legal.kept; in_range = can.in_range })
          here.location.0 first.vertex
          (λ some. omega (arith, some, w.if-index-gt0.false, c.index.ensures)) first.contents
          first.whole) (adds_nothing (ap edges first.contents)))
    ] in
    appends _ marked can.legal.kept can.located put
    (few_are_legal c.args.dcel.now c.if-index-gt0.dcel {flips = 0} put.takes here.location.0)

-- ---- elsewhere
-- the vertex was put in, wherever it is
put_in : (g : Over) (c : After-legalize_vertex-arg-3-1 g) → PutsIn g.V.HasPosition.place
    g.M.ConstraintMarker.constraints c.args.value c.args.location c.args.dcel.now
    c.match-location.dcel c.match-location.vertex.0 c.match-location.vertex.1
put_in g c =
    let can = c.requires.can in
    let marked = g.met.M.ConstraintMarker.constraints_are_marked in
    let free = g.met.M.FreeByDefault.default_is_free in
    elim c.match-location.branch [
      | in-OnFace w ↦ let done = w.insert_into_triangle.ensures in
          let here = rw w.in-OnFace.is at can.located in
          rw (w.dcel-is, w.vertex-is) (puts_beside _ marked can.legal.kept free
          (rw w.in-OnFace.is (λ on. on))
          (inside_gains c.args.dcel.now _
          (record { kept = can.legal.kept; in_range = can.in_range }) here.handle.0 here.handle.1
          here.location.1 done.vertex done.links done.data done.edges) (adds_only done.edges))
      | in-OnEdge w ↦ let done = w.insert_within_edge.ensures in
          rw (w.dcel-is, w.vertex-is) (record {
            takes = done.takes;
            splits = done.constraints;
            split = rw w.in-OnEdge.is done.more;
          })
      | in-OutsideOfConvexHull w ↦ let done = w.insert_outside.ensures in
          rw (w.dcel-is, w.vertex-is) (puts_beside _ marked can.legal.kept free
          (rw w.in-OutsideOfConvexHull.is (λ on. on)) done.takes done.edges)
    ]

pub legalize_vertex-requires : goal.legalize_vertex-requires
legalize_vertex-requires g c =
    let can = c.requires.can in
    let marked = g.met.M.ConstraintMarker.constraints_are_marked in
    let put = put_in g (goal.at.legalize_vertex-requires g c).After-legalize_vertex-arg-3-1 in
    let vertices = put.takes.vertices in
    let one_more = ap length vertices
    ∙ length-append c.args.dcel.now.vertices (c.args.value ∷ []) in
    record {
      within = omega (arith, put.takes.is, one_more);
      sites = sites_after _ (g.P.PlaneTests.sites c.args.tests.now) _ _ _ vertices can.sites
          can.new_site;
      kept = put.takes.kept;
      passing = passes_beside _ _ _ marked c.args.dcel.now c.match-location.dcel can.legal put.takes
          put.splits;
      empty = λ free. put_in_free _ marked can.legal (can.free free) put.takes;
      room = λ full. rw one_more (c.requires.work full);
      fits = rw one_more c.requires.fits;
    }

pub returns-clause-appends : goal.returns-clause-appends
returns-clause-appends g c =
    appends _ g.met.M.ConstraintMarker.constraints_are_marked c.requires.can.legal.kept
    c.requires.can.located
    (put_in g (goal.at.returns-clause-appends g c).After-legalize_vertex-arg-3-1)
    c.legalize_vertex.ensures.legalizes
