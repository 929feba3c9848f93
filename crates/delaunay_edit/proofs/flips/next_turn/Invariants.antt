use Rattle.std.proofs.Common.{length, map}
use Rattle.delaunay_edit.proofs.Seeking.{AreGoingBack, AreRounds, IsSeeking}
use Rattle.delaunay_edit.proofs.flips.next_turn.Given as goal

abbrev pub invariant-loop : goal.invariant-loop
invariant-loop g l =
    AreRounds g.V.HasPosition.place l.embedding.dcel l.from l.to l.fn.lists l.lists l.counter

abbrev pub invariant-loop-edge : goal.invariant-loop-edge
invariant-loop-edge g l = IsSeeking (map g.V.HasPosition.place l.embedding.dcel.vertices)
    l.embedding.dcel l.from l.to l.initial.lists l.lists

abbrev pub decreases-loop-edge : goal.decreases-loop-edge
decreases-loop-edge g l = length l.lists.unseen.items

abbrev pub invariant-loop-edge-2 : goal.invariant-loop-edge-2
invariant-loop-edge-2 g l = AreGoingBack (map g.V.HasPosition.place l.embedding.dcel.vertices)
    l.embedding.dcel l.from l.to l.initial.lists l.lists

abbrev pub decreases-loop-edge-2 : goal.decreases-loop-edge-2
decreases-loop-edge-2 g l = length l.lists.waiting.items
