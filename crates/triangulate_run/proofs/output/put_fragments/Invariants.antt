use Rattle.std.proofs.Common.{◌≡◌, false, take}
use Rattle.std.specs.List.{flat_map}
use Rattle.triangulate_run.specs.{Fragment.text_of, has_failed, inner_of, Sends}
use Rattle.triangulate_run.proofs.output.put_fragments.Given as goal

abbrev pub invariant-loop-fragment : goal.invariant-loop-fragment
invariant-loop-fragment g l = record {
  so_far : Sends (g.W.Write.contents (inner_of l.fn.writer))
      (g.W.Write.contents (inner_of l.writer)) l.fn.held.items l.held.items
      (flat_map text_of (take l.fragment-index l.fragments));
  works : has_failed l.writer ≡ false;
}
