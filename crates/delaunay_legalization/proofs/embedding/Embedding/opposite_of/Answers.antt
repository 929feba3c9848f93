use Rattle.std.proofs.Common.{◌∙◌, sym, inl, inr}
use Rattle.delaunay_legalization.proofs.Questions.{both_ways, covered_in}
use Rattle.delaunay_legalization.proofs.embedding.Embedding.opposite_of.Goals as goal
use goal.{else-is_outer_edge, then-is_outer_edge}

pub returns : goal.returns
returns g c =
    let kept = c.self.invariant.kept in
    let ends = (kept.valid.sound.edges _ (kept.valid.sound.edges c.args.spoke
    (rw (← kept.fits.directed_fit) (rw (← c.self.view_is) at c.requires))).next_in).starts in
    let sites = g.P.PlaneTests.sites c.self.inside.tests.now in
    let outer = rw (c.directed_edge-spoke.ensures.index, c.directed_edge-spoke.ensures.dcel) at
    c.is_outer_edge.ensures in
    let spoke = c.directed_edge-spoke.ensures in
    let edge = c.next-edge.ensures in
    let twin = c.rev-twin.ensures in
    rw (← c.self.view_is) (record {
      outer = elim c.if-is_outer_edge.branch [
        | then-is_outer_edge w ↦ (
          (λ t. inl (outer.0 w.if-is_outer_edge.true)),
          (λ s. w.result-is ∙ w.if-is_outer_edge.true),
        )
        | else-is_outer_edge w ↦
            let twin = rw (
              c.rev-twin.ensures.index,
              c.rev-twin.ensures.dcel,
              c.next-edge.ensures.index,
              c.next-edge.ensures.dcel,
              c.directed_edge-spoke.ensures.index,
              c.directed_edge-spoke.ensures.dcel,
            ) at w.is_outer_edge-else-is_outer_edge.ensures in (
              (λ t. inr (twin.0 (sym w.result-is ∙ t))),
              (λ s. elim s [
                | inl z ↦ absurd (both_ways _ (outer.1 z) w.if-is_outer_edge.false)
                | inr z ↦ w.result-is ∙ twin.1 z
              ]),
            )
      ];
      from = record {
        place = rw (
          c.fix.ensures.value,
          c.from.ensures.index,
          edge.dcel,
          edge.index,
          spoke.dcel,
          spoke.index,
        ) at c.position_of.ensures.place;
        site = covered_in sites sites (λ _ s. s) _ _ c.self.invariant.sites
            c.position_of.ensures.listed;
      };
      to = record {
        place = rw (
          c.fix-2.ensures.value,
          c.from-2.ensures.index,
          c.next.ensures.dcel,
          c.next.ensures.index,
          edge.dcel,
          edge.index,
          spoke.dcel,
          spoke.index,
          ends,
        ) at c.position_of-2.ensures.place;
        site = covered_in sites sites (λ _ s. s) _ _ c.self.invariant.sites
            c.position_of-2.ensures.listed;
      };
      beyond = record {
        place = rw (
          c.fix-3.ensures.value,
          c.prev_from.ensures.index,
          twin.dcel,
          twin.index,
          edge.dcel,
          edge.index,
          spoke.dcel,
          spoke.index,
        ) at c.position_of-3.ensures.place;
        site = covered_in sites sites (λ _ s. s) _ _ c.self.invariant.sites
            c.position_of-3.ensures.listed;
      };
    })
