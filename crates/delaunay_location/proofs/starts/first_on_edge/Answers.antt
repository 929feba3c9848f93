use Rattle.std.proofs.Common.{◌∙◌, ℕ, map}
use Rattle.{half_edge_links.specs.origin, half_edge_links.specs.rev, plane.specs.Point}
use Rattle.{delaunay_legalization.specs.point_at, delaunay_location.proofs.FirstItems.over_twin}
use Rattle.delaunay_location.proofs.FirstItems.{along_edge, along_twin, on_if_neither, over_edge}
use Rattle.delaunay_location.proofs.MeshSteps.{embedding_value, ends_apart}
use Rattle.delaunay_location.proofs.SegmentTests.{differs_if_within, unless}
use Rattle.delaunay_location.proofs.starts.first_on_edge.Goals as goal

pub returns-then-is_on_left_side : goal.returns-then-is_on_left_side
returns-then-is_on_left_side g c =
    let left = rw c.side_along-side.ensures at c.is_on_left_side.ensures in
    over_edge (embedding_value c.embedding.view_is c.embedding.invariant) c.args.edge
    c.requires.within
    c.requires.start c.requires.ends.apart (left.0 c.if-is_on_left_side.true)

pub returns-then-is_on_right_side : goal.returns-then-is_on_right_side
returns-then-is_on_right_side g c =
    let right = rw c.side_along-side.ensures at c.is_on_right_side.ensures in
    let twin = rw c.directed_edge.ensures.index at
    (c.fix-twin.ensures.value ∙ c.rev.ensures.index) in
    rw twin (over_twin (embedding_value c.embedding.view_is c.embedding.invariant) c.args.edge
    c.requires.within c.requires.start c.requires.ends.apart (right.0 c.if-is_on_right_side.true))

pub is_ahead-requires : goal.is_ahead-requires
is_ahead-requires g c =
    let s = c.args.embedding.now in
    let at : ℕ → Point =
    λ h. point_at (map g.V.HasPosition.place s.dcel.vertices) (origin s.dcel.mesh h) in
    let start = at c.args.edge in
    let end = at (rev c.args.edge) in
    let ends = ends_apart (embedding_value c.embedding.view_is c.embedding.invariant) c.args.edge
    c.requires.within start end (λ _. start) (λ _. end) in
    record {
      from_covered = rw (← c.embedding.view_is) at c.requires.ends.from_covered;
      towards_covered = rw (← c.embedding.view_is) at
          (g.met.P.PlaneTests.sites_are_covered _ _ c.end_of.ensures.site);
      point_covered = rw (← c.embedding.view_is) at c.requires.ends.to_covered;
      way_apart = rw c.end_of.ensures.place (differs_if_within start end ends _ c.requires.start).1;
      point_apart = c.requires.ends.apart;
    }

pub returns-then-is_ahead : goal.returns-then-is_ahead
returns-then-is_ahead g c =
    let given = rw (← c.embedding.view_is) at c.requires in
    let side = rw (← c.embedding.view_is) at c.side_along-side.ensures in
    rw (← c.embedding.view_is) (along_edge c.embedding.invariant c.args.edge given.within
    given.start
    c.requires.ends.apart (rw (← c.embedding.view_is) at c.end_of.ensures.place)
    (on_if_neither _ (unless (rw side at c.is_on_left_side.ensures) c.if-is_on_left_side.false)
    (unless (rw side at c.is_on_right_side.ensures) c.if-is_on_right_side.false))
    (c.is_ahead.ensures.0 c.if-is_ahead.true))

pub returns-else-is_ahead : goal.returns-else-is_ahead
returns-else-is_ahead g c =
    let given = rw (← c.embedding.view_is) at c.requires in
    let side = rw (← c.embedding.view_is) at c.side_along-side.ensures in
    let twin = rw c.directed_edge.ensures.index at
    (c.fix-twin.ensures.value ∙ c.rev.ensures.index) in
    rw (twin, ← c.embedding.view_is) (along_twin c.embedding.invariant c.args.edge given.within
    given.start c.requires.ends.apart (rw (← c.embedding.view_is) at c.end_of.ensures.place)
    (on_if_neither _ (unless (rw side at c.is_on_left_side.ensures) c.if-is_on_left_side.false)
    (unless (rw side at c.is_on_right_side.ensures) c.if-is_on_right_side.false))
    (unless c.is_ahead.ensures c.if-is_ahead.false))
