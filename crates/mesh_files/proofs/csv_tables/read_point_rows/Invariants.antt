use Rattle.std.proofs.Common.{ℕ, List, [], ◌∷◌}
use Rattle.mesh_files.specs.Tables.{DrawsRecords, Fields, HasRead}
use Rattle.mesh_files.proofs.csv_tables.read_point_rows.Given as goal

abbrev pub invariant-loop-index : goal.invariant-loop-index
invariant-loop-index g l = (text : List ℕ) (header : Fields)
    → HasRead g.R.Read.remaining text (header ∷ []) l.initial.reader
    → (rows : List Fields) × HasRead g.R.Read.remaining text (header ∷ rows) l.reader
    × DrawsRecords rows l.columns l.drawing
