use Rattle.std.proofs.Common.{◌≡◌, ℕ, List, Option, false, take, codes}
use Rattle.std.specs.List.{flat_map}
use Rattle.triangulate_run.specs.{has_failed, inner_of, Sends}
use Rattle.triangulate_run.proofs.Paths.{edge_text_at}
use Rattle.triangulate_run.proofs.constraints.put_path.Given as goal

abbrev pub invariant-loop-edge : goal.invariant-loop-edge
invariant-loop-edge g l = record {
  contents : Option (List ℕ);
  kept : List ℕ;
  word : Sends (g.W.Write.contents (inner_of l.fn.writer)) contents l.fn.held.items kept
      (codes "edges");
  so_far : Sends contents (g.W.Write.contents (inner_of l.writer)) kept l.held.items
      (flat_map (edge_text_at l.triangulation.mesh) (take l.edge-index l.path));
  works : has_failed l.writer ≡ false;
}
