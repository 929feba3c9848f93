-- What is read of a table.
use Rattle.std.specs.Prelude.{◌≡◌, ◌++◌, ℕ, List, [], ◌∷◌, Option, Some}
use Rattle.csv.specs.Reading.{AreRecords, Reached, Ready, default_config, source_of, strip_bom}
use Rattle.csv.specs.Reading.{reader_config, reader_state, reader_trim}
use Rattle.csv.specs.declared.parser.State.TheVariants as st
use Rattle.csv.specs.declared.reader.Reader.{Reader}
use Rattle.csv.specs.declared.reader.Trim.TheVariants as trim
use Rattle.mesh_files.specs.Drawn.{Draws}
use Rattle.mesh_files.specs.{declared.columns.Columns.Columns, declared.drawing.Drawing.Drawing}

-- the fields of a record
abbrev pub Fields : Type 0
Fields = List (List ℕ)

-- these are all records of a text
abbrev pub AreAll : List ℕ → List Fields → Type 0
AreAll text rows = AreRecords default_config st.StartRecord (strip_bom text) rows

-- the reader has read these records of a text, and stands behind them
pub record HasRead {R : Type 0} (remaining : R → Option (List ℕ)) (text : List ℕ)
    (rows : List Fields) (reader : Reader R) : Type 0 where
  pub trims : reader_trim reader ≡ trim.None
  pub ready : Ready reader
  pub config : reader_config reader ≡ default_config
  pub rest : List ℕ
  pub source : source_of remaining reader ≡ Some rest
  pub reached : Reached default_config st.StartRecord (strip_bom text) rows
      (reader_state reader) rest

-- these records are points
abbrev pub DrawsRecords : List Fields → Columns → Drawing → Type 0
DrawsRecords rows columns d = Draws rows columns.x columns.y columns.z d

-- a record is a point behind those before it
abbrev pub DrawsRow : Fields → Columns → Drawing → Drawing → Type 0
DrawsRow row columns old new = (rows : List Fields) → DrawsRecords rows columns old
    → DrawsRecords (rows ++ row ∷ []) columns new

-- all records of a text behind the header are points
abbrev pub DrawsTable : List ℕ → Fields → Columns → Drawing → Type 0
DrawsTable text header columns d = (rows : List Fields) × AreAll text (header ∷ rows)
    × DrawsRecords rows columns d

-- the records of a text behind the header are points, with their numbers in these columns, and
-- heights if there is a column of those
pub record IsTable (text : List ℕ) (d : Drawing) : Type 0 where
  pub header : Fields
  pub rows : List Fields
  pub x : ℕ
  pub y : ℕ
  pub z : Option ℕ
  pub records : AreAll text (header ∷ rows)
  pub drawn : Draws rows x y z d
