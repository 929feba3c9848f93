use Rattle.std.proofs.Common.{◌≡◌, sym, ◌∙◌, rules}
use Rattle.half_edge_links.specs.{turn}
use Rattle.delaunay_legalization.proofs.RoundSteps.{centre_is, fewer_next, fewer_turned, h_in}
use Rattle.delaunay_legalization.proofs.RoundSteps.{turn_fits, turning_begins, turning_ends}
use Rattle.delaunay_legalization.proofs.RoundSteps.{turning_goes_next, turning_goes_on}
use Rattle.delaunay_legalization.proofs.around.legalize_round.Goals as goal

pub loop-next-init : goal.loop-next-init
loop-next-init g c = record {
  turning = turning_begins c.requires.embedding.kept c.requires.can;
  opposite = c.opposite_of-opposite.ensures;
  embedding = c.requires.embedding;
}

pub directed_edge-requires : goal.directed_edge-requires
directed_edge-requires g c =
    let i = c.loop-next.invariant in
    rw i.embedding.kept.fits.directed_fit (h_in i.embedding.kept i.turning)

pub turn_opposite-requires : goal.turn_opposite-requires
turn_opposite-requires g c =
    let i = c.loop-next.invariant in
    record {
      turn = record {
        embedding = i.embedding;
        within = h_in i.embedding.kept i.turning;
        fits = turn_fits i.embedding.kept i.turning c.requires.can.fits;
      };
      opposite = i.opposite;
      centre = record {
        place = centre_is i.embedding.kept i.turning c.start_of-centre.ensures.place;
        site = c.start_of-centre.ensures.site;
      };
    }

pub opposite_of-opposite-requires-then-turn_opposite :
    goal.opposite_of-opposite-requires-then-turn_opposite
opposite_of-opposite-requires-then-turn_opposite g c =
    let i = c.loop-next.invariant in
    rw (c.turn_opposite.ensures.contents, i.embedding.kept.fits.directed_fit)
    (h_in i.embedding.kept i.turning)

pub loop-next-smaller-then-turn_opposite : goal.loop-next-smaller-then-turn_opposite
loop-next-smaller-then-turn_opposite g c =
    let i = c.loop-next.invariant in let did = c.turn_opposite.ensures in
    fewer_turned i.embedding.kept i.turning did.contents did.constraints
    (did.turned c.if-turn_opposite.true)

pub loop-next-preserved-then-turn_opposite : goal.loop-next-preserved-then-turn_opposite
loop-next-preserved-then-turn_opposite g c =
    let i = c.loop-next.invariant in let did = c.turn_opposite.ensures in
    record {
      turning = turning_goes_on i.embedding.kept i.turning did.contents did.constraints
          (did.turned c.if-turn_opposite.true);
      opposite = c.opposite_of-opposite-then-turn_opposite.ensures;
      embedding = did.embedding;
    }

pub loop-next-smaller : goal.loop-next-smaller
loop-next-smaller g c =
    let next : c.fix-next.result ≡ turn c.loop-next.dcel.mesh c.loop-next.spoke = search rules in
    let i = c.loop-next.invariant in let did = c.turn_opposite.ensures in
    fewer_next i.embedding.kept i.turning did.contents (did.stays c.if-turn_opposite.false)
    next
    (λ e. c.if-index.false (c.index.ensures ∙ e ∙ sym c.index-in-loop-next.ensures))

pub loop-next-preserved : goal.loop-next-preserved
loop-next-preserved g c =
    let next : c.fix-next.result ≡ turn c.loop-next.dcel.mesh c.loop-next.spoke = search rules in
    let i = c.loop-next.invariant in let did = c.turn_opposite.ensures in
    let stays = did.stays c.if-turn_opposite.false in
    record {
      turning = turning_goes_next i.embedding.kept i.turning did.contents stays
          next
          (λ e. c.if-index.false (c.index.ensures ∙ e ∙ sym c.index-in-loop-next.ensures));
      opposite = rw (did.contents, stays.same) c.opposite_of-ahead.ensures;
      embedding = did.embedding;
    }

pub returns : goal.returns
returns g c =
    let next : c.fix-next.result ≡ turn c.loop-next.dcel.mesh c.loop-next.spoke = search rules in
    let i = c.loop-next.invariant in let did = c.turn_opposite.ensures in
    record {
      legalizes = turning_ends i.embedding.kept i.turning did.contents
          (did.stays c.if-turn_opposite.false) next
          (sym c.index.ensures ∙ c.if-index.true ∙ c.index-in-loop-next.ensures);
    }
