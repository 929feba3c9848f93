use Rattle.std.proofs.Common.{◌≡◌, false, take, drop}
use Rattle.std.specs.List.{list_any}
use Rattle.triangulate_run.specs.Table.{circle_in, has}
use Rattle.triangulate_run.proofs.circles.circle_of.Given as goal

abbrev pub invariant-loop-triple : goal.invariant-loop-triple
invariant-loop-triple l =
    list_any (has l.circle.triples) (take l.triple-index l.triple-items) ≡ false

abbrev pub invariant-loop-circle : goal.invariant-loop-circle
invariant-loop-circle l =
    circle_in l.circles l.i l.j l.k ≡ circle_in (drop l.circle-index l.circles) l.i l.j l.k
