use Rattle.std.proofs.Common.{◌∙◌, refl, sym, arith}
use Rattle.delaunay_legalization.proofs.{both_ways}
use Rattle.delaunay_legalization.proofs.Legalizing.{positive}
use Rattle.delaunay_location.proofs.vertex.is_in_cone.Goals as goal

pub returns-then-is_outer_edge : goal.returns-then-is_outer_edge
returns-then-is_outer_edge g c =
    let here = c.directed_edge-here.ensures in
    let outer = rw (here.index, here.dcel) at (c.is_outer_edge.ensures.0 c.if-is_outer_edge.true) in
    rw (← c.embedding.view_is) (
      λ t. absurd (both_ways _ t refl),
      λ cone. absurd (let inner = cone.inner in omega (arith, outer, inner)),
    )

pub returns-then-is_on_left_side : goal.returns-then-is_on_left_side
returns-then-is_on_left_side g c =
    let here = c.directed_edge-here.ensures in
    let outer = rw (here.index, here.dcel) at c.is_outer_edge.ensures in
    let before = c.fix.ensures.value ∙ rw (here.dcel, here.index) at c.prev.ensures.index in
    let left = sym c.side_along.ensures ∙ c.is_on_left_side.ensures.0 c.if-is_on_left_side.true in
    let right = rw (c.side_along-then-is_on_left_side.ensures, ← c.embedding.view_is, before) at
    c.is_on_left_side-then-is_on_left_side.ensures in
    rw (← c.embedding.view_is) (
      λ t. record {
        inner = positive _ (λ z. both_ways _ (outer.1 z) c.if-is_outer_edge.false);
        left = rw (← c.embedding.view_is) at left;
        right = right.0 t;
      },
      λ cone. right.1 cone.right,
    )

pub returns-else-is_on_left_side : goal.returns-else-is_on_left_side
returns-else-is_on_left_side g c =
    let left = rw c.side_along.ensures at c.is_on_left_side.ensures in (
      λ t. absurd (both_ways _ t c.if-is_on_left_side.false),
      λ cone. absurd (both_ways _ (left.1 cone.left) c.if-is_on_left_side.false),
    )
