use Rattle.std.proofs.Common.{map, take}
use Rattle.{c_calls.proofs.Telling.IsTold, c_calls.specs.raw_point}
use Rattle.c_calls.proofs.ways.write_points.Given as goal

abbrev pub invariant-loop-index : goal.invariant-loop-index
invariant-loop-index l = IsTold (map raw_point (take l.index l.found)) l.index l.fn.points l.points
