use Rattle.std.proofs.lemmas.Result.{on_ok_weaker}
use Rattle.csv.specs.Records.{fields_of}
use Rattle.mesh_files.proofs.TableRows.{table_of}
use Rattle.mesh_files.proofs.csv_tables.read_table.Goals as goal

pub returns : goal.returns
returns g c = on_ok_weaker c.read_points.result (λ rest text begun.
    table_of text (fields_of c.in_ok-header.header) c.in_ok-columns.columns
    c.read_points.new.drawing
    (rest text (fields_of c.in_ok-header.header) (c.in_ok-header.ensures text begun)))
    c.read_points.ensures
