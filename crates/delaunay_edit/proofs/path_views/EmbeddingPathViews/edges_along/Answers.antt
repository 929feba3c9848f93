use Rattle.std.proofs.Common.{◌≡◌, ◌∙◌, ap, eq-eqb, eqb-true, rules, sym}
use Rattle.std.proofs.lemmas.List.{length-map}
use Rattle.{delaunay_legalization.proofs.both_ways, delaunay_legalization.specs.edges_of}
use Rattle.{delaunay_location.specs.item_in, plane.specs.Joins}
use Rattle.delaunay_edit.proofs.JoinedPairs.{first_joined, index_found, some_joins}
use Rattle.delaunay_edit.proofs.ListingPath.{listing_has_room, listing_walk_along}
use Rattle.delaunay_edit.proofs.ListingPath.{listing_walk_begins, listing_walk_crosses}
use Rattle.delaunay_edit.proofs.ListingPath.{listing_walk_ends, listing_walk_goes_on}
use Rattle.delaunay_edit.proofs.ListingPath.{listing_walk_next, listing_walk_stays}
use Rattle.delaunay_edit.proofs.{ListingPath.listing_walk_whole, NextVertex.vertex_item}
use Rattle.delaunay_edit.proofs.path_views.EmbeddingPathViews.edges_along.Given.{Over}
use Rattle.delaunay_edit.proofs.path_views.EmbeddingPathViews.edges_along.Goals as goal
use Rattle.delaunay_edit.proofs.path_views.EmbeddingPathViews.edges_along.Goals.{Then-ne}

pub returns-then-eq : goal.returns-then-eq
returns-then-eq g c = rw c.clear.ensures.items (eqb-true _ _ (sym c.eq.ensures ∙ c.if-eq.true))

pub loop-item-init : goal.loop-item-init
loop-item-init g c =
    let line = c.line_between_vertices-line.ensures in
    listing_walk_begins c.requires.from_in c.requires.to_in
    (λ same. both_ways _ (c.eq.ensures ∙ eq-eqb _ _ same) c.if-eq.false) line.ready line.line
    c.clear.ensures.items c.clear.ensures.capacity

-- the next vertex is joined to the one before
joined : (g : Over) (c : Then-ne g)
    → Joins (edges_of c.args.self.now.dcel.mesh) c.loop-item.at c.fix-next.result
joined g c = c.requires.joined _ _ (c.loop-item.invariant.listing.rest _ _
    (listing_walk_next c.loop-item.invariant c.in-Some.ensures.steps
    (vertex_item c.in-VertexIntersection.is c.fix-next.ensures.value)
    (search (rules, c.ne.ensures, c.if-ne.true))))

pub get_edge_from_neighbors-requires : goal.get_edge_from_neighbors-requires
get_edge_from_neighbors-requires g c =
    rw (ap (λ s. s.dcel) c.self.view_is) (first_joined (listing_walk_whole c.loop-item.invariant)
    (joined g (goal.at.get_edge_from_neighbors-requires g c).Then-ne))

pub unreachable-requires : goal.unreachable-requires
unreachable-requires g c =
    some_joins (listing_walk_whole c.loop-item.invariant)
    (joined g (goal.at.unreachable-requires g c).Then-ne)
    (rw (ap (λ s. s.dcel) c.self.view_is) at c.in_default-get_edge_from_neighbors.ensures.none)

pub push_reserved-requires : goal.push_reserved-requires
push_reserved-requires g c =
    listing_has_room c.loop-item.invariant.listing (listing_walk_next c.loop-item.invariant
    c.in-Some.ensures.steps (vertex_item c.in-VertexIntersection.is c.fix-next.ensures.value)
    (search (rules, c.ne.ensures, c.if-ne.true)))
    (length-map c.args.self.now.dcel.vertices g.V.HasPosition.place) c.requires.room
    c.loop-item.edges.ok.0

pub loop-item-preserved-then-ne : goal.loop-item-preserved-then-ne
loop-item-preserved-then-ne g c =
    let edge = rw (ap (λ s. s.dcel) c.self.view_is) at (index_found
    c.in-Some-get_edge_from_neighbors.ensures.some c.fix.ensures.value c.fix.ensures.in_range) in
    listing_walk_goes_on c.loop-item.invariant c.in-Some.ensures.steps
    (vertex_item c.in-VertexIntersection.is c.fix-next.ensures.value)
    (search (rules, c.ne.ensures, c.if-ne.true)) c.in-Some.ensures.goes.keeps edge
    c.push_reserved.ensures.items c.push_reserved.ensures.capacity

pub loop-item-preserved-else-ne : goal.loop-item-preserved-else-ne
loop-item-preserved-else-ne g c =
    let same : c.fix-next.result ≡ c.loop-item.at = search (rules, c.ne.ensures, c.if-ne.false) in
    listing_walk_stays c.loop-item.invariant c.in-Some.ensures.steps c.in-Some.ensures.goes.keeps
    (rw same at (vertex_item c.in-VertexIntersection.is c.fix-next.ensures.value))

pub loop-item-preserved-in-EdgeIntersection : goal.loop-item-preserved-in-EdgeIntersection
loop-item-preserved-in-EdgeIntersection g c =
    listing_walk_crosses c.loop-item.invariant c.in-Some.ensures.steps c.in-Some.ensures.goes.keeps
    _ _ (ap item_in c.in-EdgeIntersection.is)

pub loop-item-preserved : goal.loop-item-preserved
loop-item-preserved g c =
    listing_walk_along c.loop-item.invariant c.in-Some.ensures.steps c.in-Some.ensures.goes.keeps
    _ _ (ap item_in c.in-EdgeOverlap.is)

pub returns : goal.returns
returns g c = listing_walk_ends c.loop-item.invariant c.in_default.ensures.steps
