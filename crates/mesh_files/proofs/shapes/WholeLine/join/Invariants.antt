use Rattle.mesh_files.specs.{SameNumbers}
use Rattle.mesh_files.proofs.shapes.WholeLine.join.Given as goal

abbrev pub invariant-loop-next : goal.invariant-loop-next
invariant-loop-next l = SameNumbers l.initial.drawing l.drawing
