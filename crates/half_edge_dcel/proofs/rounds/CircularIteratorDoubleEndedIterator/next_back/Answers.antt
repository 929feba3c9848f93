use Rattle.std.proofs.Common.{◌∙◌, arith}
use Rattle.half_edge_dcel.proofs.{BothEnds.round_before, Walks.none_after, Walks.one_less}
use Rattle.half_edge_dcel.proofs.rounds.CircularIteratorDoubleEndedIterator.next_back.Goals as goal
use goal.{else-walk, then-walk}

pub invariant_of-self-2 : goal.invariant_of-self-2
invariant_of-self-2 g c =
    let at = c.directed_edge.ensures in
    let one = c.in_ok-left.ensures in
    let whole = rw at.dcel at c.cw-edge.ensures.whole in
    let before = rw (at.dcel, at.index, c.from_index-end.ensures) at c.cw-edge.ensures.index in
    let taken = round_before c.args.self.now.walk c.if-walk.walk c.cw-edge.result.index
    (omega (arith, one.0)) (elim c.if-walk.branch [
      | then-walk w ↦ none_after _ w.if-walk.true w.walk-is
      | else-walk w ↦ one_less _ w.if-walk.false (w.walk-is ∙ one.1)
    ]) whole before c.args.self.now.ending in
    record { ending = taken.ending }

pub returns : goal.returns
returns g c =
    let at = c.directed_edge.ensures in
    let one = c.in_ok-left.ensures in
    let whole = rw at.dcel at c.cw-edge.ensures.whole in
    let before = rw (at.dcel, at.index, c.from_index-end.ensures) at c.cw-edge.ensures.index in
    let taken = round_before c.args.self.now.walk c.if-walk.walk c.cw-edge.result.index
    (omega (arith, one.0)) (elim c.if-walk.branch [
      | then-walk w ↦ none_after _ w.if-walk.true w.walk-is
      | else-walk w ↦ one_less _ w.if-walk.false (w.walk-is ∙ one.1)
    ]) whole before c.args.self.now.ending in
    record {
      steps = rw (c.cw-edge.ensures.dcel, at.dcel) taken.steps;
      goes = record { on = λ _. (tt, tt, taken.less); keeps = tt; rests = λ _. tt };
    }
