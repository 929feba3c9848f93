use Rattle.std.proofs.Common.{◌∙◌, arith}
use Rattle.half_edge_links.specs.{turn}
use Rattle.half_edge_dcel.proofs.Walks.{goes_on, none_after, one_less}
use Rattle.half_edge_dcel.proofs.rounds.CircularIteratorIterator.next.Goals as goal
use goal.{else-walk, then-walk}

pub invariant_of-self-2 : goal.invariant_of-self-2
invariant_of-self-2 g c =
    let at = c.directed_edge-edge.ensures in
    let one = c.in_ok-left.ensures in
    let went = goes_on turn c.args.self.now.walk c.if-walk.walk c.rev.result.index
    (omega (arith, one.0))
    (rw (c.prev.ensures.index, at.dcel, at.index, c.from_index-next.ensures) at c.rev.ensures.index)
    (elim c.if-walk.branch [
      | then-walk w ↦ none_after _ w.if-walk.true w.walk-is
      | else-walk w ↦ one_less _ w.if-walk.false (w.walk-is ∙ one.1)
    ]) c.args.self.now.ending in
    record { ending = went.ending }

pub returns : goal.returns
returns g c =
    let at = c.directed_edge-edge.ensures in
    let one = c.in_ok-left.ensures in
    let went = goes_on turn c.args.self.now.walk c.if-walk.walk c.rev.result.index
    (omega (arith, one.0))
    (rw (c.prev.ensures.index, at.dcel, at.index, c.from_index-next.ensures) at c.rev.ensures.index)
    (elim c.if-walk.branch [
      | then-walk w ↦ none_after _ w.if-walk.true w.walk-is
      | else-walk w ↦ one_less _ w.if-walk.false (w.walk-is ∙ one.1)
    ]) c.args.self.now.ending in
    record {
      steps = rw (at.dcel, at.index, c.from_index-next.ensures) went.steps;
      goes = record { on = λ _. (tt, tt, went.less); keeps = tt; rests = λ _. tt };
    }
