use Rattle.std.proofs.Common.{◌≡◌, false, take}
use Rattle.std.specs.List.{flat_map}
use Rattle.triangulate_run.specs.{has_failed, inner_of, Reply.corners_text, Sends}
use Rattle.triangulate_run.proofs.reply.put_faces.Given as goal

abbrev pub invariant-loop-corners : goal.invariant-loop-corners
invariant-loop-corners g l = record {
  so_far : Sends (g.W.Write.contents (inner_of l.fn.writer))
      (g.W.Write.contents (inner_of l.writer)) l.fn.held.items l.held.items
      (flat_map corners_text (take l.corners-index l.faces));
  works : has_failed l.writer ≡ false;
}
