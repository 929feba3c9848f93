use Rattle.mesh_files.specs.{SameNumbers}
use Rattle.mesh_files.proofs.csv_tables.end_columns.Given as goal

abbrev pub invariant-loop-column : goal.invariant-loop-column
invariant-loop-column l = SameNumbers l.initial.drawing l.drawing
