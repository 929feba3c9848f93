use Rattle.std.proofs.Common.{sym, arith}
use Rattle.std.proofs.lemmas.Bool.{eqb-true}
use Rattle.std.proofs.lemmas.List.{nil_from_length}
use Rattle.delaunay_journal.proofs.SplitSteps.{splits_none, splits_then}
use Rattle.delaunay_journal.proofs.splitting.add_constraints_and_split.Goals as goal

pub loop-init : goal.loop-init
loop-init g c = record {
  splits = splits_none g.T.Vertex.HasPosition.place _ _ _;
  headline = c.recall_invariant.ensures.headline;
}

pub returns-in_default-clause-splits : goal.returns-in_default-clause-splits
returns-in_default-clause-splits g c = c.loop.invariant.splits

pub returns-in-Err-clause-splits : goal.returns-in-Err-clause-splits
returns-in-Err-clause-splits g c = splits_then g.T.Vertex.HasPosition.place _
    c.loop.invariant.splits c.in-Err.ensures.splits

pub loop-preserved : goal.loop-preserved
loop-preserved g c = record {
  splits = splits_then g.T.Vertex.HasPosition.place _ c.loop.invariant.splits
      c.join_or_split.ensures.splits;
  headline = c.join_or_split.ensures.headline;
}

pub returns-then-is_empty-clause-splits : goal.returns-then-is_empty-clause-splits
returns-then-is_empty-clause-splits g c = c.loop.invariant.splits

pub returns-then-is_empty-clause-all : goal.returns-then-is_empty-clause-all
returns-then-is_empty-clause-all g c = let ok = c.loop.segments.ok in
    let none = eqb-true c.loop.segments.len 0 (sym c.if-is_empty.ensures) in
    nil_from_length c.loop.segments.items (omega (arith, ok, none))

pub returns-else-is_empty-clause-splits : goal.returns-else-is_empty-clause-splits
returns-else-is_empty-clause-splits g c = c.loop.invariant.splits
