use Rattle.mesh_files.specs.{SameNumbers}
use Rattle.mesh_files.proofs.csv_tables.read_segment_rows.Given as goal

abbrev pub invariant-loop : goal.invariant-loop
invariant-loop g l = SameNumbers l.initial.drawing l.drawing
