use Rattle.std.proofs.Common.{◌∙◌, refl}
use Rattle.delaunay_legalization.proofs.CircleQuestions.{flips_either, read_outer_passes}
use Rattle.delaunay_legalization.proofs.CircleQuestions.{read_tells, read_turns_left, stays_as_is}
use Rattle.delaunay_legalization.proofs.{Legalizing.fixed_stay, MeshLegal.joins_directed}
use Rattle.{delaunay_legalization.proofs.Questions.both_ways, half_edge_links.specs.next}
use Rattle.delaunay_legalization.proofs.around.turn_opposite.Goals as goal

pub is_in_circle-requires-clause-left_turn : goal.is_in_circle-requires-clause-left_turn
is_in_circle-requires-clause-left_turn g c =
    read_turns_left c.requires.turn c.requires.opposite c.requires.centre c.if-opposite.false

pub returns-then-opposite-clause-stays : goal.returns-then-opposite-clause-stays
returns-then-opposite-clause-stays g c _ =
    stays_as_is (λ _. read_outer_passes c.requires.turn c.requires.opposite c.if-opposite.true)

pub returns-then-not-is_in_circle-clause-stays : goal.returns-then-not-is_in_circle-clause-stays
returns-then-not-is_in_circle-clause-stays g c _ =
    let tells = read_tells c.requires.turn c.requires.opposite c.requires.centre c.if-opposite.false
    c.is_in_circle.ensures in
    stays_as_is (λ _ x. both_ways _ (tells.1 x) c.if-not-is_in_circle.true)

pub returns-then-is_constraint_edge-clause-stays : goal.returns-then-is_constraint_edge-clause-stays
returns-then-is_constraint_edge-clause-stays g c _ =
    let here = c.directed_edge.ensures in
    let at_next = c.fix.ensures.value ∙ rw (here.dcel, here.index) at c.next.ensures.index in
    stays_as_is (λ free. absurd (free
    (joins_directed c.args.dcel.now.mesh _ (next c.args.dcel.now.mesh c.args.spoke)
    (rw (← at_next, ← c.as_undirected-edge.ensures)
    (c.is_constraint_edge.ensures.0 c.if-is_constraint_edge.true)))))

pub flip-requires : goal.flip-requires
flip-requires g c =
    let here = c.directed_edge.ensures in
    let at_next = c.fix.ensures.value ∙ rw (here.dcel, here.index) at c.next.ensures.index in
    let fails = (read_tells c.requires.turn c.requires.opposite c.requires.centre
    c.if-opposite.false c.is_in_circle.ensures).0 c.if-not-is_in_circle.false in
    let may = flips_either c.requires.turn fails at_next
    c.as_undirected-edge.ensures in
    record {
      kept = c.requires.turn.embedding.kept;
      within = may.within;
      failing = may.failing;
      fits = c.requires.turn.fits fails;
    }

pub returns : goal.returns
returns g c =
    let here = c.directed_edge.ensures in
    let at_next = c.fix.ensures.value ∙ rw (here.dcel, here.index) at c.next.ensures.index in
    let fails = (read_tells c.requires.turn c.requires.opposite c.requires.centre
    c.if-opposite.false c.is_in_circle.ensures).0 c.if-not-is_in_circle.false in
    let may = flips_either c.requires.turn fails at_next
    c.as_undirected-edge.ensures in
    record {
      embedding = record {
        kept = c.flip.ensures.kept;
        sites = rw c.flip.ensures.contents c.requires.turn.embedding.sites;
      };
      contents = rw c.flip.ensures.contents refl;
      constraints = rw c.flip.ensures.contents (fixed_stay g.M.ConstraintMarker.constraints
          c.requires.turn.embedding.kept may.within may.failing
          (λ h. both_ways _ (c.is_constraint_edge.ensures.1 h) c.if-is_constraint_edge.false));
      turned = λ _. record {
        failing = fails;
        turned = rw (
          c.flip.ensures.contents,
          c.as_undirected-edge.ensures,
          at_next,
        ) refl;
        counted = c.flip.ensures.flips;
      };
      stays = λ kept. absurd (both_ways _ refl kept);
    }
