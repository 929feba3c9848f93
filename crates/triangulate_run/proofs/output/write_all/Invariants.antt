use Rattle.std.proofs.Common.{◌≡◌, ◌≤◌, ◌-◌, false, length, take}
use Rattle.std.specs.Io.KnownBytes.{Appends}
use Rattle.triangulate_run.specs.{has_failed, inner_of}
use Rattle.triangulate_run.proofs.output.write_all.Given as goal

abbrev pub invariant-loop-written : goal.invariant-loop-written
invariant-loop-written g l = record {
  within : l.written ≤ length l.bytes;
  so_far : Appends (g.W.Write.contents (inner_of l.fn.writer))
      (g.W.Write.contents (inner_of l.writer)) (take l.written l.bytes);
  works : has_failed l.writer ≡ false;
}

abbrev pub decreases-loop-written : goal.decreases-loop-written
decreases-loop-written g l = length l.bytes - l.written
